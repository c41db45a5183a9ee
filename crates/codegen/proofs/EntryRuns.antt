-- The code that begins a program: each home gets what lies in its word's slot, or 0 where there is none.
use Rattle.std.proofs.Common.{◌≡◌, ◌≢◌, ℕ, zero, suc, ◌+◌, ◌-◌, ◌*◌, ◌%◌, ◌<◌, ◌≤◌, Bool, true, false, cond, nat_lt}
use Rattle.std.proofs.Common.{below_more, List, [], ◌∷◌, length, get_or, Option, None, Some, slice_get, slice_index}
use Rattle.std.proofs.Common.{refl, sym, ap, ap₂, ◌∙◌, subst, arith, ◌++◌, unwrap_or}
use Rattle.std.proofs.lemmas.Bool.{true≢false}
use Rattle.std.proofs.lemmas.Option.{slice_get-get_or}
use Rattle.codegen.proofs.CountingRuns.{one_computed}
use Rattle.codegen.proofs.Language.{counter_type, FlatVariable, numbers_in, StraightState, word_as}
use Rattle.codegen.proofs.Logic.{at_control, bytes_by, bytes_of, cheaper, gives, HeldAt, Holds, idle, lt-ltb, mask_of}
use Rattle.codegen.proofs.Logic.{move_runs, nat_tests, none, none-some, slice_get_within, number_or_zero, same_Some}
use Rattle.codegen.proofs.Logic.{place_ends, place_of, quiet, Ready, Runs, Setting, take, unwritten, weaken, written}
use Rattle.codegen.proofs.Machine.{ByteMap, constant_code, control_offset, entry_code, first_code, home_count, home_of}
use Rattle.codegen.proofs.Machine.{load_code, Mirror, mirror_by, mirror_of, number_at, sum_of, variable_offset}
use Rattle.codegen.proofs.Machine.{word_offset}
use Rattle.codegen.proofs.Language.{element_bytes}
use Rattle.codegen.proofs.Logic.{as_code, mirror_register}
use Rattle.codegen.proofs.Mirroring.{Mirrored, mirror_runs}
use Rattle.codegen.specs.private.Generated.{mirror_count, mirrors_code}
use Rattle.expression_code.specs.Allocation.{mirror_if}
use Rattle.codegen.proofs.Slots.{Laid, laid_same}
use Rattle.codegen.specs.private.Homes.{is_no_array, is_word}
use Rattle.rv_code.specs.declared.instructions.Instr.TheVariants as instr
use Rattle.codegen.specs.Below.{Addi}
use Rattle.rv_machine.specs.Machine as machine

-- a home that there is is in the list
home_within : (homes : List (Option ℕ)) (x home : ℕ) → home_of homes x ≡ Some home → x < length homes
home_within [] x home is = absurd (none-some home is)
home_within (h ∷ homes) zero home is = omega arith
home_within (h ∷ homes) (suc x) home is = omega (arith, home_within homes x home is)

one_word : (elements : Option ℕ) → is_word elements ≡ true → elements ≡ None
one_word None is = refl
one_word (Some size) is = absurd (true≢false (sym is))

-- where there is an array, there is a variable
array_there : (ds : List FlatVariable) (x : ℕ) → is_no_array (slice_get ds x) ≡ false → x < length ds
array_there [] x is = absurd (true≢false is)
array_there (d ∷ ds) zero is = omega arith
array_there (d ∷ ds) (suc x) is = omega (arith, array_there ds x is)

-- a mirror that there is is in the list
listed : (mirrors : List (Option Mirror)) (x : ℕ) (mirror : Mirror)
    → unwrap_or (slice_get mirrors x) None ≡ Some mirror → x < length mirrors
listed [] x mirror is = absurd (none-some mirror is)
listed (m ∷ mirrors) zero mirror is = omega arith
listed (m ∷ mirrors) (suc x) mirror is = omega (arith, listed mirrors x mirror is)

module _ (z : Setting) (within : length z.allocation.homes ≤ length z.laid + z.controls) where
  abbrev homes : List (Option ℕ)
  homes = z.allocation.homes

  abbrev variables : ℕ
  variables = length z.laid

  -- what a word that has a home is: a variable's value, or a control value's mask
  abbrev word_value : StraightState → ℕ → ℕ
  word_value env x =
      cond (nat_lt x variables) (slice_index (env.variables x) 0) (mask_of (env.controls (x - variables)))

  -- the homes of words before this one are filled
  record Entered (x : ℕ) (env : StraightState) (s : machine.State) : Type 0 where
    laid : Laid z env s
    homed : (y : ℕ) → y < x → (home : ℕ) → home_of homes y ≡ Some home → s.regs home ≡ word_value env y

  -- a slot of the frame has this word at first
  abbrev HasWord : ℕ → (StraightState → ℕ) → Type 0
  HasWord o v = (o % 4 ≡ 0) × (o + 4 ≤ z.size)
      × ((env : StraightState) (s : machine.State) → Laid z env s
      → number_at s.bytes 4 (z.frame + o) ≡ Some (v env))

  -- that of a variable that has one
  module _ (x : ℕ) (d : FlatVariable) (known : slice_get z.laid x ≡ Some d) (is_one : d.elements ≡ None) where
    four_bytes : bytes_of d ≡ 4
    four_bytes = ap (bytes_by d.word.kind) is_one

    has_one : 0 < numbers_in d.elements
    has_one = subst (λ (elements : Option ℕ). 0 < numbers_in elements) (sym is_one) (omega arith)

    variable_word : HasWord (variable_offset z.laid x) (λ env. slice_index (env.variables x) 0)
    variable_word = (
      omega arith,
      omega (arith, place_ends z x d 0 known has_one, four_bytes),
      λ env s laid.
          let first : variable_offset z.laid x ≡ place_of z.laid x d 0 = omega arith in
          ap₂ (λ n o. number_at s.bytes n (z.frame + o)) (sym four_bytes) first
          ∙ laid.slots_there x d 0 known has_one,
    )

  -- and that of a control value
  control_word : (c : ℕ) → c < z.controls
      → HasWord (control_offset z.laid c) (λ env. mask_of (env.controls c))
  control_word c below =
      (omega arith, omega (arith, below, z.room), λ env s laid. laid.controls_there c below)

  word_there : (x home : ℕ) → home_of homes x ≡ Some home → is_no_array (slice_get z.laid x) ≡ true
      → HasWord (word_offset z.laid x) (λ env. word_value env x)
  word_there x home at word = by_test (nat_lt x variables) refl
    where
      by_test : (b : Bool) → nat_lt x variables ≡ b
          → HasWord (cond b (variable_offset z.laid x) (control_offset z.laid (x - variables)))
          (λ env. cond b (slice_index (env.variables x) 0) (mask_of (env.controls (x - variables))))
      by_test true test =
          let any = word_as counter_type false in
          let d = get_or z.laid x any in
          let known : slice_get z.laid x ≡ Some d = slice_get-get_or z.laid x any (grind (arith, nat_tests, test)) in
          variable_word x d known (one_word d.elements (ap is_no_array (sym known) ∙ word))
      by_test false test =
          let above : variables ≤ x = grind (arith, nat_tests, test) in
          control_word (x - variables) (omega (arith, above, home_within homes x home at, within))

  variable_value : (env : StraightState) (x : ℕ) → x < variables
      → word_value env x ≡ slice_index (env.variables x) 0
  variable_value env x below = rw (lt-ltb x variables below)

  -- the next home is filled, and nothing else changes
  entered_more : (x home : ℕ) → home_of homes x ≡ Some home → (env : StraightState) (s t : machine.State)
      → Entered x env s → HeldAt z t → t.bytes ≡ s.bytes → t.regs home ≡ word_value env x
      → ((r : ℕ) → r ≢ home → t.regs r ≡ s.regs r) → Entered (x + 1) env t
  entered_more x home at env s t entered held same there others = record {
    laid = laid_same z z.size (omega (arith, z.room)) env s t entered.laid held
        (λ o below. ap (λ (b : ByteMap). b (z.frame + o)) same);
    homed =
        below_more (λ y. (other : ℕ) → home_of homes y ≡ Some other → t.regs other ≡ word_value env y) x
        (λ y less other there'.
        others other (λ same. omega (arith, less, z.allocated.apart y x home (there' ∙ ap Some same) at))
        ∙ entered.homed y less other there')
        (λ other there'. ap t.regs (sym (same_Some home other (sym at ∙ there'))) ∙ there);
  }

  -- one home is filled from its slot
  loads : (x home : ℕ) → home_of homes x ≡ Some home → is_no_array (slice_get z.laid x) ≡ true
      → Runs z 3 none (load_code home (word_offset z.laid x)) (Entered x) (λ env s t. Entered (x + 1) env t)
  loads x home at slot =
      let is = z.allocated.allowed x home at in
      let word = word_there x home at slot in
      weaken
      (λ env s fine entered. entered.laid.held)
      (λ env s t fine entered moved.
      entered_more x home at env s t entered moved.held moved.bytes
      (ap (λ (regs : ℕ → ℕ). regs home) moved.regs
      ∙ (written s.regs home _ (λ e. omega (arith, is.0, e))
      ∙ ap number_or_zero (word.2 env s entered.laid)))
      (λ r apart. ap (λ (regs : ℕ → ℕ). regs r) moved.regs ∙ unwritten s.regs home _ r apart))
      (move_runs z (take home (word_offset z.laid x))
      (simp (lt-ltb 4 home (omega (arith, is.0)), lt-ltb home 32 (omega (arith, is.1))))
      (word.0, word.1))

  -- or it gets 0, where it has none
  zeroes : (x home : ℕ) → home_of homes x ≡ Some home → is_no_array (slice_get z.laid x) ≡ false
      → Runs z 3 none (constant_code home 0) (Entered x) (λ env s t. Entered (x + 1) env t)
  zeroes x home at no_slot =
      let is = z.allocated.allowed x home at in
      let below = array_there z.laid x no_slot in
      cheaper (omega arith)
      (weaken
      (λ env s fine entered. entered.laid.held)
      (λ env s t fine entered done.
      entered_more x home at env s t entered done.held done.same
      (done.there ∙ (sym (entered.laid.zeros_there x home at no_slot) ∙ sym (variable_value env x below)))
      done.others)
      (one_computed z (instr.Immediate Addi home 0 0)
      (simp (lt-ltb 4 home (omega (arith, is.0)), lt-ltb home 32 (omega (arith, is.1))))
      (λ e. omega (arith, is.0, e))))

  one_runs : (x home : ℕ) → home_of homes x ≡ Some home
      → Runs z 3 none (first_code z.laid x home) (Entered x) (λ env s t. Entered (x + 1) env t)
  one_runs x home at = by_slot (is_no_array (slice_get z.laid x)) refl
    where
      by_slot : (b : Bool) → is_no_array (slice_get z.laid x) ≡ b
          → Runs z 3 none (cond b (load_code home (word_offset z.laid x)) (constant_code home 0)) (Entered x)
          (λ env s t. Entered (x + 1) env t)
      by_slot true slot = loads x home at slot
      by_slot false slot = zeroes x home at slot

  -- a word without a home is passed by
  passed : (x : ℕ) → home_of homes x ≡ None → (env : StraightState) (s : machine.State) → Entered x env s
      → Entered (x + 1) env s
  passed x away env s entered = record {
    laid = entered.laid;
    homed = below_more (λ y. (home : ℕ) → home_of homes y ≡ Some home → s.regs home ≡ word_value env y) x
        entered.homed
        (λ home there. absurd (none-some home (sym away ∙ there)));
  }

  from : (rest : List (Option ℕ)) (x : ℕ) → ((y : ℕ) → home_of homes (x + y) ≡ home_of rest y)
      → Runs z (3 * home_count rest) none (entry_code z.laid x rest) (Entered x)
      (λ env s t. Entered (x + length rest) env t)
  from [] x are =
      let end : x ≡ x + 0 = omega arith in
      idle (λ env s entered. subst (λ n. Entered n env s) end entered)
  from (None ∷ rest) x are =
      let end : x + 1 + length rest ≡ x + suc (length rest) = omega arith in
      let here : x ≡ x + 0 = omega arith in
      weaken
      (λ env s fine entered. passed x (ap (λ n. home_of homes n) here ∙ are 0) env s entered)
      (λ env s t fine entered done. subst (λ n. Entered n env t) end done)
      (from rest (x + 1) (λ y. let next : x + 1 + y ≡ x + suc y = omega arith in
      ap (λ n. home_of homes n) next ∙ are (suc y)))
  from (Some home ∷ rest) x are =
      let end : x + 1 + length rest ≡ x + suc (length rest) = omega arith in
      let here : x ≡ x + 0 = omega arith in
      cheaper (omega arith)
      (gives
      (λ env s t fine entered done. subst (λ n. Entered n env t) end done.second)
      (quiet (one_runs x home (ap (λ n. home_of homes n) here ∙ are 0))
      (from rest (x + 1) (λ y. let next : x + 1 + y ≡ x + suc y = omega arith in
      ap (λ n. home_of homes n) next ∙ are (suc y)))
      (λ env s t entered done. done)))

  control_value : (env : StraightState) (c : ℕ) → word_value env (variables + c) ≡ mask_of (env.controls c)
  control_value env c =
      let behind : nat_lt (variables + c) variables ≡ false = grind (arith, nat_tests) in
      let same : variables + c - variables ≡ c = omega arith in
      rw (behind, same)

  -- Mirrors.

  -- the mirrors of words before this one follow them
  record Followed (x : ℕ) (env : StraightState) (s : machine.State) : Type 0 where
    entered : Entered (length homes) env s
    mirrored : (y : ℕ) → y < x → (home : ℕ) (mirror : Mirror) → mirror_of z.allocation y ≡ Some mirror
        → home_of homes y ≡ Some home
        → s.regs mirror.register ≡ sum_of (element_bytes mirror.kind * s.regs home) z.frame

  abbrev mirror_at : ℕ → Option Mirror
  mirror_at x = unwrap_or (slice_get z.allocation.mirrors x) None

  -- the next one follows its word
  followed_more : (x : ℕ) (env : StraightState) (s t : machine.State) → Followed x env s → Mirrored z x s t
      → Followed (x + 1) env t
  followed_more x env s t followed done =
      let kept : (y home : ℕ) → home_of homes y ≡ Some home → t.regs home ≡ s.regs home =
      λ y home at. done.others home (λ e. omega (arith, (z.allocated.allowed y home at).1, e))
      (λ mirror is. z.allocated.mirror_apart x y home mirror is at) in
      record {
        entered = record {
          laid = laid_same z z.size (omega (arith, z.room)) env s t followed.entered.laid done.held
              (λ o below. ap (λ (b : ByteMap). b (z.frame + o)) done.same);
          homed = λ y below home at. kept y home at ∙ followed.entered.homed y below home at;
        };
        mirrored =
            below_more (λ y. (home : ℕ) (mirror : Mirror) → mirror_of z.allocation y ≡ Some mirror
            → home_of homes y ≡ Some home
            → t.regs mirror.register ≡ sum_of (element_bytes mirror.kind * t.regs home) z.frame) x
            (λ y less home mirror is at.
            done.others mirror.register (λ e. omega (arith, (mirror_register z y mirror is).1, e))
            (λ own is' e. omega (arith, less, z.allocated.mirrors_apart y x mirror own is is' e))
            ∙ (followed.mirrored y less home mirror is at
            ∙ ap (λ w. sum_of (element_bytes mirror.kind * w) z.frame) (sym (kept y home at))))
            (λ home mirror is at. done.there home mirror is at
            ∙ ap (λ w. sum_of (element_bytes mirror.kind * w) z.frame) (sym (kept x home at)));
      }

  abbrev Follows : ℕ → ℕ → Option Mirror → Type 0
  Follows cost x m = Runs z cost none (mirror_by (home_of homes x) m) (Followed x) (λ env s t. Followed (x + 1) env t)

  same_code : (h : Option ℕ) (m : Option Mirror) → mirror_by h m ≡ mirror_by h (mirror_if h m)
  same_code None m = refl
  same_code (Some home) m = refl

  one_follows : (x : ℕ) (m : Option Mirror) → mirror_at x ≡ m → Follows 2 x m
  one_follows x m own =
      let h = home_of homes x in
      as_code (same_code h m ∙ ap (λ (n : Option Mirror). mirror_by h (mirror_if h n)) (sym own))
      (weaken
      (λ env s fine followed. followed.entered.laid.held)
      (λ env s t fine followed done. followed_more x env s t followed done)
      (mirror_runs z x))

  -- a word without a mirror is passed by
  no_code : (h : Option ℕ) → mirror_by h None ≡ []
  no_code None = refl
  no_code (Some home) = refl

  no_mirror : (h : Option ℕ) (mirror : Mirror) → mirror_if h None ≡ Some mirror → ⊥
  no_mirror None mirror is = none-some mirror is
  no_mirror (Some home) mirror is = none-some mirror is

  none_follows : (x : ℕ) → mirror_at x ≡ None → Follows 0 x None
  none_follows x own =
      let h = home_of homes x in
      as_code (no_code h)
      (idle (λ env s followed. record {
        entered = followed.entered;
        mirrored =
            below_more (λ y. (home : ℕ) (mirror : Mirror) → mirror_of z.allocation y ≡ Some mirror
            → home_of homes y ≡ Some home
            → s.regs mirror.register ≡ sum_of (element_bytes mirror.kind * s.regs home) z.frame) x
            followed.mirrored
            (λ home mirror is at.
            absurd (no_mirror h mirror (ap (λ (n : Option Mirror). mirror_if h n) (sym own) ∙ is)));
      }))

  follow : (rest : List (Option Mirror)) (x : ℕ) → ((y : ℕ) → mirror_at (x + y) ≡ unwrap_or (slice_get rest y) None)
      → Runs z (2 * mirror_count rest) none (mirrors_code homes x rest) (Followed x)
      (λ env s t. Followed (x + length rest) env t)
  follow [] x are =
      let end : x ≡ x + 0 = omega arith in
      idle (λ env s followed. subst (λ n. Followed n env s) end followed)
  follow (None ∷ rest) x are =
      let end : x + 1 + length rest ≡ x + suc (length rest) = omega arith in
      let here : x ≡ x + 0 = omega arith in
      cheaper (omega arith)
      (gives
      (λ env s t fine followed done. subst (λ n. Followed n env t) end done.second)
      (quiet (none_follows x (ap mirror_at here ∙ are 0))
      (follow rest (x + 1) (λ y. let next : x + 1 + y ≡ x + suc y = omega arith in ap mirror_at next ∙ are (suc y)))
      (λ env s t followed done. done)))
  follow (Some mirror ∷ rest) x are =
      let end : x + 1 + length rest ≡ x + suc (length rest) = omega arith in
      let here : x ≡ x + 0 = omega arith in
      cheaper (omega arith)
      (gives
      (λ env s t fine followed done. subst (λ n. Followed n env t) end done.second)
      (quiet (one_follows x (Some mirror) (ap mirror_at here ∙ are 0))
      (follow rest (x + 1) (λ y. let next : x + 1 + y ≡ x + suc y = omega arith in ap mirror_at next ∙ are (suc y)))
      (λ env s t followed done. done)))

  -- a word with a mirror is in the list
  mirror_listed : (x home : ℕ) (mirror : Mirror) → mirror_of z.allocation x ≡ Some mirror
      → home_of homes x ≡ Some home → x < length z.allocation.mirrors
  mirror_listed x home mirror is at =
      listed z.allocation.mirrors x mirror (ap (λ (h : Option ℕ). mirror_if h (mirror_at x)) (sym at) ∙ is)

  -- all homes are filled, and all mirrors follow: so what is laid is shown
  pub entry_runs : Runs z (3 * home_count homes + 2 * mirror_count z.allocation.mirrors) none
      (entry_code z.laid 0 homes ++ mirrors_code homes 0 z.allocation.mirrors) (Laid z) (λ env s t. Ready z env t)
  entry_runs =
      gives
      (λ env s t fine laid both.
      let done = both.second.entered in
      record {
        held = done.laid.held;
        fits = done.laid.fits;
        homes_there = λ x home d is at. done.homed x (omega (arith, home_within homes x home at)) home at
            ∙ variable_value env x (omega (arith, slice_get_within z.declared x d is, z.as_many));
        variables_there = λ x d i is away below. done.laid.slots_there x d i (z.lies x d is away) below;
        controls_there = λ c below read. at_control z c (λ l. Holds z l t (mask_of (env.controls c)))
            (λ home at. done.homed (variables + c) (omega (arith, home_within homes (variables + c) home at)) home at
            ∙ control_value env c)
            (λ away. done.laid.controls_there c below);
        mirrors_there = λ x home mirror is at.
            both.second.mirrored x (omega (arith, mirror_listed x home mirror is at)) home mirror is at;
      })
      (quiet
      (weaken
      (λ env s fine laid. record { laid = laid; homed = λ y below. absurd (omega (arith, below)) })
      (λ env s t fine laid done. done)
      (from homes 0 (λ y. let same : 0 + y ≡ y = omega arith in ap (λ n. home_of homes n) same)))
      (weaken
      (λ env s fine followed. followed)
      (λ env s t fine followed done. done)
      (follow z.allocation.mirrors 0 (λ y. let same : 0 + y ≡ y = omega arith in ap mirror_at same)))
      (λ env s t laid done. record {
        entered = subst (λ n. Entered n env t) (omega arith) done;
        mirrored = λ y below. absurd (omega (arith, below));
      }))
