-- What is shown once a word is set that has a home, whether it has had that before or not.
use Rattle.std.proofs.Common.{◌≡◌, ℕ, ◌+◌, ◌^◌, ◌<◌, ◌==◌, ◌≢◌, Bool, false, List, [], ◌∷◌, length}
use Rattle.std.proofs.Common.{Some, None, slice_get, slice_index, sym, ap, ap₂, ◌∙◌, subst, arith, Option, unwrap_or}
use Rattle.std.proofs.Common.{◌*◌, inl, inr}
use Rattle.std.proofs.lemmas.Bool.{cases_eq}
use Rattle.std.proofs.lemmas.Bool.{cond_both}
use Rattle.codegen.proofs.Machine.{control_offset, number_at, Allocation, control_location, home_of, at_home, InSlot}
use Rattle.codegen.proofs.Machine.{Mirror, mirror_of, sum_of}
use Rattle.expression_code.proofs.Values.{mirror_register}
use Rattle.expression_code.specs.Allocation.{mirror_if}
use Rattle.codegen.proofs.Language.{FlatVariable, StraightState, with_variable, word_as, WordType}
use Rattle.codegen.proofs.Language.{bits_of, element_bytes}
use Rattle.codegen.proofs.Logic.{none-some, same_Some, eqb-true, eqb-false, held_kind, one_held, Holds, layout_of}
use Rattle.codegen.proofs.Logic.{IsOfKind, slice_get_within, HeldAt, mask_of, bytes_of, place_of, Setting, base_of}
use Rattle.codegen.proofs.Logic.{Kept, Ready, variables_kept, IsHome, kept_number, at_control}
use Rattle.rv_machine.specs.Machine as machine
use Rattle.expression_code.specs.Allocation.{IsAllocation}

-- variables that are typed and have homes so, where they are laid out so
pub record AreLaid (laid declared : List FlatVariable) (a : Allocation) : Type 0 where
  pub allocated : IsAllocation declared a
  pub as_many : length laid ≡ length declared
  pub lies : (x : ℕ) (d : FlatVariable) → slice_get declared x ≡ Some d → home_of a.homes x ≡ None
      → slice_get laid x ≡ Some d

abbrev pub laid_so : (z : Setting) → AreLaid z.laid z.declared z.allocation
laid_so z = record { allocated = z.allocated; as_many = z.as_many; lies = z.lies }

-- where code lies, with variables typed otherwise, and registers given out otherwise
abbrev pub with_homes : (z : Setting) (declared : List FlatVariable) (a : Allocation) → AreLaid z.laid declared a
    → Setting
with_homes z declared a are = record {
  code = z.code;
  frame = z.frame;
  size = z.size;
  counts = z.counts;
  declared = declared;
  laid = z.laid;
  controls = z.controls;
  depths = z.depths;
  allocation = a;
  allocated = are.allocated;
  as_many = are.as_many;
  lies = are.lies;
  even = z.even;
  ends = z.ends;
  room = z.room;
}

module _ (z : Setting) (declared : List FlatVariable) (a : Allocation) (are : AreLaid z.laid declared a) where
  abbrev before : Setting
  before = with_homes z declared a are

  -- a control value's mask stays where it has the same home
  pub control_alike : (c v : ℕ) (s t : machine.State)
      → home_of a.homes (length z.laid + c) ≡ home_of z.allocation.homes (length z.laid + c)
      → ((home : ℕ) → home_of z.allocation.homes (length z.laid + c) ≡ Some home → t.regs home ≡ s.regs home)
      → number_at t.bytes 4 (z.frame + control_offset z.laid c)
      ≡ number_at s.bytes 4 (z.frame + control_offset z.laid c)
      → Holds before (control_location (layout_of before) c) s v
      → Holds z (control_location (layout_of z) c) t v
  control_alike c v s t same homes slot there =
      let o = control_offset z.laid c in
      let was = λ (h : Option ℕ). Holds before (at_home h (InSlot o)) s v in
      at_control z c (λ l. Holds z l t v) (λ home at. homes home at ∙ subst was (same ∙ at) there)
      (λ away. slot ∙ subst was (same ∙ away) there)

  -- a word is set that has a home, and all others are typed so, and have the homes that they had before; its mirror
  -- follows it
  module _ (unread : a.unread ≡ z.allocation.unread) (mirrors : a.mirrors ≡ z.allocation.mirrors)
      (x home v : ℕ) (word : WordType) (mutable : Bool)
      (known : slice_get z.declared x ≡ Some (word_as word mutable)) (at : home_of z.allocation.homes x ≡ Some home)
      (alike : (y : ℕ) → y ≢ x → home_of a.homes y ≡ home_of z.allocation.homes y)
      (typed_alike : (y : ℕ) → y ≢ x → slice_get declared y ≡ slice_get z.declared y)
      (fits : v < 2 ^ bits_of word.kind)
      (env : StraightState) (s t : machine.State) (ready : Ready before env s) (held : HeldAt z t)
      (kept : Kept z (base_of z) s t) (there : t.regs home ≡ v)
      (follows : (mirror : Mirror) → mirror_of z.allocation x ≡ Some mirror
      → t.regs mirror.register ≡ sum_of (element_bytes mirror.kind * v) z.frame)
      (others : (r : ℕ) → IsHome z.allocation.count r → r ≢ home
      → ((mirror : Mirror) → mirror_of z.allocation x ≡ Some mirror → r ≢ mirror.register) → t.regs r ≡ s.regs r) where
    -- no variable lives where a control value does
    no_control : (c : ℕ) → length z.laid + c ≢ x
    no_control c e = let below = slice_get_within z.declared x _ known in omega (arith, below, e, z.as_many)

    -- no home is a mirror
    no_mirror : (y other : ℕ) → home_of z.allocation.homes y ≡ Some other → (mirror : Mirror)
        → mirror_of z.allocation x ≡ Some mirror → other ≢ mirror.register
    no_mirror y other here mirror is = z.allocated.mirror_apart x y other mirror is here

    -- another variable has the mirror that it had
    mirror_alike : (y : ℕ) → y ≢ x → mirror_of a y ≡ mirror_of z.allocation y
    mirror_alike y apart =
        ap₂ (λ (h : Option ℕ) (ms : List (Option Mirror)). mirror_if h (unwrap_or (slice_get ms y) None)) (alike y apart)
        mirrors

    -- and that one follows it still
    mirror_stays : (y other : ℕ) (mirror : Mirror) → y ≢ x → mirror_of z.allocation y ≡ Some mirror
        → home_of z.allocation.homes y ≡ Some other
        → t.regs mirror.register ≡ sum_of (element_bytes mirror.kind * t.regs other) z.frame
    mirror_stays y other mirror apart is here =
        others mirror.register (mirror_register z y mirror is)
        (λ e. z.allocated.mirror_apart y x home mirror is at (sym e))
        (λ own there' e. apart (z.allocated.mirrors_apart y x mirror own is there' e))
        ∙ (ready.mirrors_there y other mirror (mirror_alike y apart ∙ is) (alike y apart ∙ here)
        ∙ ap (λ w. sum_of (element_bytes mirror.kind * w) z.frame)
        (sym (others other (z.allocated.allowed y other here)
        (λ same. apart (z.allocated.apart y x home (here ∙ ap Some same) at)) (no_mirror y other here))))

    pub ready_at_home : Ready z (with_variable env x (v ∷ [])) t
    ready_at_home = record {
      held = held;
      fits = λ y e is.
          cond_both (y == x) (v ∷ []) (env.variables y) (λ (l : List ℕ). IsOfKind e l)
          (λ q.
          let same = same_Some (word_as word mutable) e
          (sym known ∙ (ap (λ n. slice_get z.declared n) (sym (eqb-true y x q)) ∙ is)) in
          subst (λ (d : FlatVariable). IsOfKind d (v ∷ [])) same (held_kind (one_held word mutable v fits)))
          (λ q. ready.fits y e (typed_alike y (eqb-false y x q) ∙ is));
      homes_there = λ y other e is here.
          cond_both (y == x) (v ∷ []) (env.variables y) (λ (l : List ℕ). t.regs other ≡ slice_index l 0)
          (λ q.
          let there' = ap (λ n. home_of z.allocation.homes n) (sym (eqb-true y x q)) ∙ here in
          ap t.regs (sym (same_Some home other (sym at ∙ there'))) ∙ there)
          (λ q.
          others other (z.allocated.allowed y other here)
          (λ same. eqb-false y x q (z.allocated.apart y x home (here ∙ ap Some same) at)) (no_mirror y other here)
          ∙ ready.homes_there y other e (typed_alike y (eqb-false y x q) ∙ is) (alike y (eqb-false y x q) ∙ here));
      variables_there = λ y e j is out more.
          cond_both (y == x) (v ∷ []) (env.variables y)
          (λ (l : List ℕ). number_at t.bytes (bytes_of e) (z.frame + place_of z.laid y e j)
          ≡ Some (slice_index l j))
          (λ q. absurd (none-some home (sym out ∙ (ap (λ n. home_of z.allocation.homes n) (eqb-true y x q) ∙ at))))
          (λ q. variables_kept before (base_of z) env s t (omega arith) ready kept y e j
          (typed_alike y (eqb-false y x q) ∙ is) (alike y (eqb-false y x q) ∙ out) more);
      controls_there = λ c among read. control_alike c (mask_of (env.controls c)) s t
          (alike (length z.laid + c) (no_control c))
          (λ other here. others other (z.allocated.allowed (length z.laid + c) other here)
          (λ same. no_control c (z.allocated.apart (length z.laid + c) x home (here ∙ ap Some same) at))
          (no_mirror (length z.laid + c) other here))
          (kept_number z (base_of z) s t kept 4 (control_offset z.laid c) (omega (arith, among)))
          (ready.controls_there c among (ap (λ (l : List Bool). unwrap_or (slice_get l c) false) unread ∙ read));
      mirrors_there = λ y other mirror is here. elim (cases_eq y x) [
        | inl same ↦
            let own : mirror_of z.allocation x ≡ Some mirror = ap (λ n. mirror_of z.allocation n) (sym same) ∙ is in
            let there' : home_of z.allocation.homes x ≡ Some other =
            ap (λ n. home_of z.allocation.homes n) (sym same) ∙ here in
            follows mirror own
            ∙ ap (λ w. sum_of (element_bytes mirror.kind * w) z.frame)
            (sym (ap t.regs (sym (same_Some home other (sym at ∙ there'))) ∙ there))
        | inr apart ↦ mirror_stays y other mirror apart is here
      ];
    }
