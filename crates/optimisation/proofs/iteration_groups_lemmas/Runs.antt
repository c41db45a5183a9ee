-- The code in which loops are over groups runs in step with the code: its variables hold the same, but for the counter
-- of a group, in the place of which the base of the group is read. Its path is fine where that of the code is.
use Rattle.std.proofs.Common.{◌≡◌, ℕ, ◌+◌, ◌^◌, ◌≤◌, ◌<◌, ◌==◌, true, if◌then◌else◌, List, [], ◌∷◌, length}
use Rattle.std.proofs.Common.{Option, None, Some, slice_get, false, slice_set, refl, ap, ap₂, subst, sym, ◌∙◌, arith}
use Rattle.std.proofs.lemmas.Bool.{and_parts, eqb-false, not-true, true≢false}
use Rattle.std.proofs.lemmas.Option.{slice_get_within}
use Rattle.inline.proofs.Face.{with_value-other}
use Rattle.optimisation.specs.Below.{AreTyped, array, array_as, branch, counted, counter_type, first, FlatVariable}
use Rattle.optimisation.specs.Below.{IsTyped, nothing, number, Profile, put, repeats, set, StraightBlock, StraightState}
use Rattle.optimisation.specs.Below.{StraightTree, take, TermTree, types_but, types_of, value_at, Values, with_value}
use Rattle.optimisation.specs.Below.{with_variable, word_as}
use Rattle.optimisation.specs.declared.constants.terms.CounterRange.{CounterRange}
use Rattle.optimisation.specs.declared.iteration_groups.terms.Shift.{Shift}
use Rattle.straight_words.specs.element_words.private.Splitting.{single}
use Rattle.optimisation.specs.iteration_groups.private.Choice.{are_plain, grouped_range, is_plain}
use Rattle.optimisation.specs.iteration_groups.private.Grouping.{grouped, grouped_all, grouped_loop, loop_by, shift_to}
use Rattle.optimisation.specs.iteration_groups.private.Grouping.{shifted}
use Rattle.optimisation.proofs.iteration_groups_lemmas.Chosen.{is_grouped, is_number, word_below}
use Rattle.optimisation.proofs.iteration_groups_lemmas.Groups as groups
use Rattle.optimisation.proofs.iteration_groups_lemmas.Values.{AreAlike, array_apart, Holds, IsApart, IsPlaced, stands}
use Rattle.optimisation.proofs.iteration_groups_lemmas.Values.{all_stand}
use Rattle.straight_words.proofs.over_lemmas.Variables.{but_within}
use Rattle.straight_words.proofs.over_lemmas.Values.{same_path, both, alone, at_index}
use Rattle.straight_words.proofs.over_lemmas.Beside.{AreBeside, within_beside, taken_beside, RunsBeside, FollowsAt}
use Rattle.straight_words.proofs.over_lemmas.Beside.{branch_follows, loop_follows, then_follows}

-- in a group statements have no loop, and do not set the counter
abbrev pub IsKept : Option Shift → StraightTree → Type 0
IsKept None statement = Unit {0}
IsKept (Some shift) statement = is_plain shift.counter statement ≡ true

abbrev pub AreKept : Option Shift → StraightBlock → Type 0
AreKept None body = Unit {0}
AreKept (Some shift) body = are_plain shift.counter body ≡ true

-- so are a statement, and those behind it, and those of two arms
kept_parts : (shift : Option Shift) (statement : StraightTree) (rest : StraightBlock)
    → AreKept shift (first statement rest) → IsKept shift statement × AreKept shift rest
kept_parts None statement rest kept = (tt, tt)
kept_parts (Some shift) statement rest kept =
    and_parts (is_plain shift.counter statement) (are_plain shift.counter rest) kept

kept_arms : (shift : Option Shift) (condition : TermTree) (accepted otherwise : StraightBlock)
    → IsKept shift (branch condition accepted otherwise) → AreKept shift accepted × AreKept shift otherwise
kept_arms None condition accepted otherwise kept = (tt, tt)
kept_arms (Some shift) condition accepted otherwise kept =
    and_parts (are_plain shift.counter accepted) (are_plain shift.counter otherwise) kept

-- what is set is no counter
kept_apart : (shift : Option Shift) (within : Option ℕ) (x : ℕ) (value : TermTree) → IsKept shift (set within x value)
    → IsApart shift x
kept_apart None within x value kept = tt
kept_apart (Some shift) within x value kept = eqb-false x shift.counter (not-true (x == shift.counter) kept)

module _ (declared : List FlatVariable) where
  -- two states in step
  abbrev pub InStep : Option Shift → ℕ → Values → Values → Type 0
  InStep shift w = AreAlike (length declared) shift w

  hold_still : (shift : Option Shift) (w x : ℕ) (m k : Values) (v u : List ℕ) → IsPlaced declared shift w
      → x < length declared → IsApart shift x → Holds shift w m k
      → Holds shift w (with_value m x v) (with_value k x u)
  hold_still None w x m k v u placed below apart hold = tt
  hold_still (Some shift) w x m k v u placed below apart hold = (
    with_value-other k x shift.base u (λ same. omega (arith, placed.base, below, same)) ∙ hold.0,
    with_value-other m x shift.counter v (λ same. apart (sym same)) ∙ hold.1,
  )

  set_both : (shift : Option Shift) (w : ℕ) → IsPlaced declared shift w → {s t : StraightState} (x : ℕ)
      (d : FlatVariable) (v u : List ℕ) → slice_get declared x ≡ Some d → IsApart shift x → u ≡ v
      → AreBeside (InStep shift w) s t → AreBeside (InStep shift w) (with_variable s x v) (with_variable t x u)
  set_both shift w placed {s} {t} x d v u there apart same beside = record {
    variables = record {
      same = λ y below other.
          ap₂ (λ (a b : List ℕ). if y == x then a else b) same (beside.variables.same y below other);
      hold = hold_still shift w x s.variables t.variables v u placed (slice_get_within declared x d there) apart
          beside.variables.hold;
    };
    controls = beside.controls;
  }

  module _ (base : ℕ) (behind : length declared ≤ base) (most : List ℕ) (profile : Profile) (controls : ℕ) where
    -- a loop beside itself, or the loop over groups that it becomes
    either_loop : (w x : ℕ) (low high : TermTree) (body : StraightBlock)
        → IsTyped profile declared controls (repeats x low high body) → {s t : StraightState}
        → AreBeside (InStep None w) s t
        → ((i : ℕ) (u v : StraightState) → AreBeside (InStep None w) u v
        → RunsBeside (InStep None w) most (counted x i u) (counted x i v) body (grouped_all None base body))
        → (are_plain x body ≡ true → (offset v : ℕ) → v + offset < 2 ^ 32 → (u u' : StraightState)
        → AreBeside (InStep (Some (shift_to x base offset)) v) u u'
        → RunsBeside (InStep (Some (shift_to x base offset)) v) most u u' body
        (grouped_all (Some (shift_to x base offset)) base body))
        → (range : Option CounterRange) → grouped_range [] x low high body ≡ range
        → FollowsAt (InStep None w) most s t (repeats x low high body) (loop_by range
        (λ range. grouped_loop x base range (λ offset. grouped_all (Some (shift_to x base offset)) base body))
        (single (repeats x (shifted None low) (shifted None high) (grouped_all None base body))))
    either_loop w x low high body is {s} {t} beside each copy None chosen =
        loop_follows (InStep None w) most x beside
        (stands declared most None w tt (types_of profile declared) (λ y d there. there) is.0 s.variables
        t.variables beside.variables)
        (stands declared most None w tt (types_of profile declared) (λ y d there. there) is.1 s.variables
        t.variables beside.variables)
        each
    either_loop w x low high body is {s} {t} beside each copy (Some range) chosen =
        let loop = is_grouped x low high body range chosen in
        let from = is_number low range.low loop.first in
        let to = is_number high range.high loop.behind in
        let code = λ (offset : ℕ). grouped_all (Some (shift_to x base offset)) base body in
        let same : repeats x (number range.low from.0) (number range.high to.0) body ≡ repeats x low high body =
        ap₂ (λ (a b : TermTree). repeats x a b body) (sym from.1) (sym to.1) in
        subst (λ (one : StraightTree). FollowsAt (InStep None w) most s t one (grouped_loop x base range code)) same
        (groups.loop_follows (length declared) x base behind most body code (copy loop.plain) w range loop.some
        (word_below high range.high to.0 to.1 is.1) s t beside from.0 to.0)

    mutual
      follows : (shift : Option Shift) (w : ℕ) (placed : IsPlaced declared shift w) (statement : StraightTree)
          → IsKept shift statement → IsTyped profile declared controls statement → {s t : StraightState}
          → AreBeside (InStep shift w) s t
          → FollowsAt (InStep shift w) most s t statement (grouped shift base statement)
      follows shift w placed (set within x value) kept is {s} {t} beside =
          let a = stands declared most shift w placed (types_of profile declared) (λ y d there. there)
          is.1.suits.has_type s.variables t.variables beside.variables in
          record {
            beside = within_beside (InStep shift w) within beside (set_both shift w placed x
                (word_as is.1.word is.1.mutable) _ _ is.1.known (kept_apart shift within x value kept)
                (ap (λ v. v ∷ []) a.value) beside);
            path = alone most a.path;
          }
      follows shift w placed (array x size values) kept is {s} {t} beside =
          let a = all_stand declared most shift w placed (types_but profile declared x) (but_within declared x)
          is.word values is.suit beside.variables in
          record {
            beside = set_both shift w placed x (array_as is.word is.mutable size) _ _ is.known
                (array_apart declared shift w x size is.word is.mutable placed is.known) (a.filled size) beside;
            path = alone most a.path;
          }
      follows shift w placed (put within place x size index value) kept is {s} {t} beside =
          let d = array_as is.1.word is.1.mutable size in
          let apart = array_apart declared shift w x size is.1.word is.1.mutable placed is.1.known in
          let same = beside.variables.same x (slice_get_within declared x d is.1.known) apart in
          let i = stands declared most shift w placed (types_of profile declared) (λ y d there. there)
          is.1.index_type s.variables t.variables beside.variables in
          let a = stands declared most shift w placed (types_of profile declared) (λ y d there. there)
          is.1.suits.has_type s.variables t.variables beside.variables in
          record {
            beside = within_beside (InStep shift w) within beside
                (set_both shift w placed x d (slice_set (s.variables x) (value_at s index) (value_at s value)) _
                is.1.known apart (rw (same, i.value, a.value) refl) beside);
            path = alone most (both most i.path (at_index most place size i.value a.path));
          }
      follows shift w placed (take control within condition) kept is {s} {t} beside =
          let a = stands declared most shift w placed (types_of profile declared) (λ y d there. there) is.2.1
          s.variables t.variables beside.variables in
          record {
            beside = taken_beside (InStep shift w) control within beside a.value;
            path = alone most a.path;
          }
      follows shift w placed (branch condition accepted otherwise) kept is {s} {t} beside =
          let arms = kept_arms shift condition accepted otherwise kept in
          branch_follows (InStep shift w) most
          (stands declared most shift w placed (types_of profile declared) (λ y d there. there) is.0 s.variables
          t.variables beside.variables)
          (all_follow shift w placed accepted arms.0 is.1 beside)
          (all_follow shift w placed otherwise arms.1 is.2 beside)
      follows None w placed (repeats x low high body) kept is {s} {t} beside =
          either_loop w x low high body is beside
          (λ i u v step. all_follow None w tt body tt is.3
          (set_both None w tt x (word_as counter_type false) (i ∷ []) (i ∷ []) is.2 tt refl step))
          (λ plain offset v below u u' step. all_follow (Some (shift_to x base offset)) v
          (record { counter = is.2; base = behind; low = below }) body plain is.3 step)
          (grouped_range [] x low high body) refl
      follows (Some shift) w placed (repeats x low high body) kept is beside = absurd (true≢false (sym kept))

      pub all_follow : (shift : Option Shift) (w : ℕ) (placed : IsPlaced declared shift w) (body : StraightBlock)
          → AreKept shift body → AreTyped profile declared controls body → {s t : StraightState}
          → AreBeside (InStep shift w) s t
          → RunsBeside (InStep shift w) most s t body (grouped_all shift base body)
      all_follow shift w placed nothing kept is beside = record { beside = beside; path = same_path most }
      all_follow shift w placed (first statement rest) kept is beside =
          let parts = kept_parts shift statement rest kept in
          let a = follows shift w placed statement parts.0 is.0 beside in
          then_follows a (all_follow shift w placed rest parts.1 is.1 a.beside)
