-- Where some variables are not at home: their slots count, as if they had no homes.
use Rattle.std.proofs.Common.{◌≡◌, ℕ, ◌+◌, ◌<◌, ◌==◌, ◌&&◌, ◌⊎◌, not, Bool, true, false, List, length, Option, None}
use Rattle.std.proofs.Common.{Some, slice_get, slice_index, refl, sym, ap, ◌∙◌, subst, arith, if◌then◌else◌, inl, inr}
use Rattle.std.proofs.Common.{unwrap_or}
use Rattle.std.proofs.lemmas.Bool.{cases_Bool, false_from_ne_true, true≢false}
use Rattle.std.proofs.lemmas.Option.{slice_get_cases}
use Rattle.codegen.proofs.Choices.{of_choice}
use Rattle.codegen.proofs.FewerHomes.{but, home_but, home_kept, home_was, mirror_was}
use Rattle.codegen.proofs.HomeWords.{AreLaid, with_homes, control_alike}
use Rattle.codegen.proofs.Language.{FlatVariable, StraightState, numbers_in}
use Rattle.codegen.proofs.Logic.{After, Before, bytes_of, IsOfKind, mask_of, none-some, place_of, Ready, Runs}
use Rattle.codegen.proofs.Logic.{same_Some, Setting, Steps}
use Rattle.codegen.proofs.Machine.{Allocation, home_of, Instr, mirror_of, number_at}
use Rattle.codegen.proofs.TypedBut.{but_at, but_kept, but_length, typed_but}
use Rattle.expression_code.proofs.program_logic_lemmas.StepLaws.{LeadsBy-weaken}
use Rattle.expression_code.specs.Allocation.{IsAllocation, mirror_if}
use Rattle.expression_code.specs.Layout.{without_words}
use Rattle.rv_machine.specs.Machine as machine

-- what variables are typed as where some have no homes: those are as they are laid out
abbrev pub typed_as : Setting → (ℕ → Bool) → List FlatVariable
typed_as z out = typed_but out 0 z.laid z.declared

-- so are those that have no homes anyway
pub typed_away : (z : Setting) (out : ℕ → Bool) (x : ℕ) (d : FlatVariable) → slice_get z.declared x ≡ Some d
    → home_of z.allocation.homes x ≡ None → slice_get (typed_as z out) x ≡ Some d
typed_away z out x d known away =
    but_at out z.laid z.declared x z.as_many
    ∙ of_choice (λ (o : Option FlatVariable). o ≡ Some d) (out x) (z.lies x d known away) known

-- what is so of a variable as it is laid out, and as it is typed, is so of it there
pub typed_each : (z : Setting) (out : ℕ → Bool) (x : ℕ) (d : FlatVariable) (P : Type 0)
    → slice_get (typed_as z out) x ≡ Some d → (out x ≡ true → slice_get z.laid x ≡ Some d → P)
    → (out x ≡ false → slice_get z.declared x ≡ Some d → P) → P
typed_each z out x d P known laid declared =
    let at = sym (but_at out z.laid z.declared x z.as_many) ∙ known in
    let choice = λ (b : Bool). if b then slice_get z.laid x else slice_get z.declared x in
    elim (cases_Bool (out x)) [
      | inl on ↦ laid on (ap choice (sym on) ∙ at)
      | inr off ↦ declared off (ap choice (sym off) ∙ at)
    ]

pub allocated_but : (z : Setting) (out : ℕ → Bool) → IsAllocation (typed_as z out) (but z.allocation out)
allocated_but z out =
    let a = z.allocation in
    record {
      some = z.allocated.some;
      few = z.allocated.few;
      allowed = λ x home at. z.allocated.allowed x home (home_was a out x home at);
      apart = λ x y home here there. z.allocated.apart x y home (home_was a out x home here)
          (home_was a out y home there);
      words = λ x d size known is.
          typed_each z out x d (home_of (but a out).homes x ≡ None) known
          (λ on laid. home_but a out x ∙ ap (λ b. if b then None else home_of a.homes x) on)
          (λ off declared. home_kept a out x off ∙ z.allocated.words x d size declared is);
      mirrored = λ x mirror is.
          let m = z.allocated.mirrored x mirror (mirror_was a out x mirror is) in
          (omega (arith, m.0, but_length out 0 z.laid z.declared), m.1, m.2);
      mirror_apart = λ x y home mirror is at.
          z.allocated.mirror_apart x y home mirror (mirror_was a out x mirror is) (home_was a out y home at);
      mirrors_apart = λ x y one other is there. z.allocated.mirrors_apart x y one other (mirror_was a out x one is)
          (mirror_was a out y other there);
    }

pub laid_but : (z : Setting) (out : ℕ → Bool) → AreLaid z.laid (typed_as z out) (but z.allocation out)
laid_but z out = record {
  allocated = allocated_but z out;
  as_many = z.as_many ∙ sym (but_length out 0 z.laid z.declared);
  lies = λ x d known away.
      typed_each z out x d (slice_get z.laid x ≡ Some d) known
      (λ on laid. laid)
      (λ off declared. z.lies x d declared (sym (home_kept z.allocation out x off) ∙ away));
}

abbrev pub fewer : Setting → (ℕ → Bool) → Setting
fewer z out = with_homes z (typed_as z out) (but z.allocation out) (laid_but z out)

-- a variable is none of those any more
abbrev pub without : (ℕ → Bool) → ℕ → ℕ → Bool
without out x y = not (y == x) && out y

module _ (z : Setting) where
  abbrev a : Allocation
  a = z.allocation

  -- what is done with fewer homes, and the other way round
  pub in_all : {n : ℕ} {steps : Steps} {is : List Instr} {P : Before} {Q : After} (out : ℕ → Bool)
      → Runs (fewer z out) n steps is P Q → Runs z n steps is P Q
  in_all out one = record {
    placed_at = λ p placed.
        let x = one.placed_at p placed in
        record {
          leak = x.leak;
          runs = λ env s rest at fine fit.
              let e = x.runs env s rest at fine fit in
              record {
                step_count = e.step_count;
                end = e.end;
                seen = e.seen;
                leads =
                    LeadsBy-weaken
                    (λ t event u each. (record { regs = each.0.regs; beside = each.0.beside }, each.1)) e.leads;
                within = e.within;
                shown = e.shown;
                at = e.at;
                done = e.done;
              };
        };
  }

  pub in_fewer : {n : ℕ} {steps : Steps} {is : List Instr} {P : Before} {Q : After} (out : ℕ → Bool)
      → Runs z n steps is P Q → Runs (fewer z out) n steps is P Q
  in_fewer out one = record {
    placed_at = λ p placed.
        let x = one.placed_at p placed in
        record {
          leak = x.leak;
          runs = λ env s rest at fine fit.
              let e = x.runs env s rest at fine fit in
              record {
                step_count = e.step_count;
                end = e.end;
                seen = e.seen;
                leads =
                    LeadsBy-weaken
                    (λ t event u each. (record { regs = each.0.regs; beside = each.0.beside }, each.1)) e.leads;
                within = e.within;
                shown = e.shown;
                at = e.at;
                done = e.done;
              };
        };
  }

  -- Ready with other homes.

  -- the same homes, and so the same mirrors
  mirror_alike : (one other : ℕ → Bool) → ((y : ℕ) → home_of (but a one).homes y ≡ home_of (but a other).homes y)
      → (y : ℕ) → mirror_of (but a one) y ≡ mirror_of (but a other) y
  mirror_alike one other same y =
      ap (λ (h : Option ℕ). mirror_if h (unwrap_or (slice_get a.mirrors y) None)) (same y)

  -- the same homes, otherwise left out
  pub ready_alike : (one other : ℕ → Bool) → ((y : ℕ) → home_of (but a one).homes y ≡ home_of (but a other).homes y)
      → ((y : ℕ) → slice_get (typed_as z one) y ≡ slice_get (typed_as z other) y)
      → (env : StraightState) (s : machine.State) → Ready (fewer z one) env s → Ready (fewer z other) env s
  ready_alike one other same typed env s ready = record {
    held = record { base = ready.held.base; data_there = ready.held.data_there };
    fits = λ y d is. ready.fits y d (typed y ∙ is);
    homes_there = λ y home d is at. ready.homes_there y home d (typed y ∙ is) (same y ∙ at);
    variables_there = λ y d i is away below. ready.variables_there y d i (typed y ∙ is) (same y ∙ away) below;
    controls_there = λ c below read. control_alike (fewer z other) (typed_as z one) (but a one) (laid_but z one) c
        (mask_of (env.controls c)) s s (same (length z.laid + c)) (λ home at. refl) refl
        (ready.controls_there c below read);
    mirrors_there = λ y home mirror is at. ready.mirrors_there y home mirror (mirror_alike one other same y ∙ is)
        (same y ∙ at);
  }

  -- another variable than the one that comes to its home is left out as before
  pub as_before : (out : ℕ → Bool) (x y : ℕ) → (y == x) ≡ false
      → home_of (but a out).homes y ≡ home_of (but a (without out x)).homes y
  as_before out x y apart =
      home_but a out y
      ∙ (ap (λ b. if not b && out y then None else home_of a.homes y) (sym apart) ∙ sym (home_but a (without out x) y))

  pub typed_before : (out : ℕ → Bool) (x y : ℕ) → (y == x) ≡ false
      → slice_get (typed_as z out) y ≡ slice_get (typed_as z (without out x)) y
  typed_before out x y apart =
      but_at out z.laid z.declared y z.as_many
      ∙ (ap (λ b. if not b && out y then slice_get z.laid y else slice_get z.declared y) (sym apart)
      ∙ sym (but_at (without out x) z.laid z.declared y z.as_many))

  -- what names none of those is typed so too
  pub typed_same : (out : ℕ → Bool) (y : ℕ) → out y ≡ false → slice_get (typed_as z out) y ≡ slice_get z.declared y
  typed_same out y off = but_kept out z.laid z.declared y z.as_many off

  -- Variables that came home may be left out again where they take no words: then nothing is said of them.

  -- those that have homes take none
  abbrev pub AreBare : (ℕ → Bool) → Type 0
  AreBare out = (y home : ℕ) (d : FlatVariable) → out y ≡ true → home_of a.homes y ≡ Some home
      → slice_get z.declared y ≡ Some d → slice_get z.laid y ≡ Some (without_words d)

  module _ (left out : ℕ → Bool) (within : (y : ℕ) → left y ≡ true → out y ≡ true)
      (variables : (y : ℕ) → out y ≡ true → y < length z.laid) (bare : AreBare out) where
    stays : (y : ℕ) → out y ≡ false → left y ≡ false
    stays y off = false_from_ne_true (left y) (λ on. true≢false (sym (within y on) ∙ off))

    -- one that has a home is not left out
    is_home : (y home : ℕ) → home_of (but a out).homes y ≡ Some home → out y ≡ false
    is_home y home at = by_choice (out y) refl (sym (home_but a out y) ∙ at)
      where
        by_choice : (b : Bool) → out y ≡ b → (if b then None else home_of a.homes y) ≡ Some home → out y ≡ false
        by_choice true e there = absurd (none-some home there)
        by_choice false e there = e

    same_home : (y : ℕ) → out y ≡ false → home_of (but a left).homes y ≡ home_of (but a out).homes y
    same_home y off = home_kept a left y (stays y off) ∙ sym (home_kept a out y off)

    same_type : (y : ℕ) → out y ≡ false → slice_get (typed_as z left) y ≡ slice_get (typed_as z out) y
    same_type y off = typed_same left y (stays y off) ∙ sym (typed_same out y off)

    same_mirror : (y : ℕ) → out y ≡ false → mirror_of (but a left) y ≡ mirror_of (but a out) y
    same_mirror y off =
        ap (λ (h : Option ℕ). mirror_if h (unwrap_or (slice_get a.mirrors y) None)) (same_home y off)

    -- how one was typed that is left out: as it is laid out, or at home, where it takes no words
    record WasHome (y : ℕ) (d : FlatVariable) : Type 0 where
      own : FlatVariable
      typed : slice_get (typed_as z left) y ≡ Some own
      bare_is : d ≡ without_words own

    was : (y : ℕ) (d : FlatVariable) → out y ≡ true → slice_get z.laid y ≡ Some d
        → ((slice_get (typed_as z left) y ≡ Some d) × (home_of (but a left).homes y ≡ None)) ⊎ WasHome y d
    was y d on laid =
        elim (cases_Bool (left y)) [
          | inl more ↦ inl (
            but_at left z.laid z.declared y z.as_many
                ∙ (ap (λ b. if b then slice_get z.laid y else slice_get z.declared y) more ∙ laid),
            home_but a left y ∙ ap (λ b. if b then None else home_of a.homes y) more,
          )
          | inr off ↦ elim ((slice_get_cases z.declared y).1) [
            | inl known ↦ by_home known.0 known.2 off (home_of a.homes y) refl
            | inr beyond ↦ absurd (omega (arith, beyond.0, variables y on, z.as_many))
          ]
        ]
      where
        by_home : (own : FlatVariable) → slice_get z.declared y ≡ Some own → left y ≡ false → (h : Option ℕ)
            → home_of a.homes y ≡ h
            → ((slice_get (typed_as z left) y ≡ Some d) × (home_of (but a left).homes y ≡ None)) ⊎ WasHome y d
        by_home own known off None away = inl (
          typed_same left y off ∙ (known ∙ (sym (z.lies y own known away) ∙ laid)),
          home_kept a left y off ∙ away,
        )
        by_home own known off (Some home) at = inr record {
          own = own;
          typed = typed_same left y off ∙ known;
          bare_is = same_Some d (without_words own) (sym laid ∙ bare y home own on at known);
        }

    pub ready_left : (env : StraightState) (s : machine.State) → Ready (fewer z left) env s → Ready (fewer z out) env s
    ready_left env s ready = record {
      held = record { base = ready.held.base; data_there = ready.held.data_there };
      fits = λ y d is.
          typed_each z out y d (IsOfKind d (env.variables y)) is
          (λ on laid. elim (was y d on laid) [
            | inl same ↦ ready.fits y d same.0
            | inr home ↦ subst (λ (e : FlatVariable). IsOfKind e (env.variables y)) (sym home.bare_is)
                (record {
                  count = λ some. absurd (omega (arith, some));
                  within = (ready.fits y home.own home.typed).within;
                })
          ])
          (λ off declared. ready.fits y d (typed_same left y (stays y off) ∙ declared));
      homes_there = λ y home d is at.
          let off = is_home y home at in
          ready.homes_there y home d (same_type y off ∙ is) (same_home y off ∙ at);
      variables_there = λ y d i is away below.
          typed_each z out y d (IsThere y d i) is
          (λ on laid. elim (was y d on laid) [
            | inl same ↦ ready.variables_there y d i same.0 same.1 below
            | inr home ↦ absurd (omega (arith, below, ap (λ (e : FlatVariable). numbers_in e.elements) home.bare_is))
          ])
          (λ off declared. ready.variables_there y d i (typed_same left y (stays y off) ∙ declared)
          (same_home y off ∙ away) below);
      controls_there = λ c below read.
          let off = false_from_ne_true (out (length z.laid + c)) (λ on. omega (arith, variables (length z.laid + c) on)) in
          control_alike (fewer z out) (typed_as z left) (but a left) (laid_but z left) c (mask_of (env.controls c)) s s
          (same_home (length z.laid + c) off) (λ home at. refl) refl (ready.controls_there c below read);
      mirrors_there = λ y home mirror is at.
          let off = is_home y home at in
          ready.mirrors_there y home mirror (same_mirror y off ∙ is) (same_home y off ∙ at);
    }
      where
        IsThere : (y : ℕ) (d : FlatVariable) (i : ℕ) → Type 0
        IsThere y d i = number_at s.bytes (bytes_of d) (z.frame + place_of z.laid y d i)
            ≡ Some (slice_index (env.variables y) i)
