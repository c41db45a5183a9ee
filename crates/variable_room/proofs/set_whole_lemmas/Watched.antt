-- Two runs of statements, from states that agree but on the elements of an array that were not set: where the
-- statements read none of these, they agree behind them too, and so do the paths.
use Rattle.std.proofs.Common.{◌≡◌, ℕ, zero, suc, ◌+◌, ◌-◌, ◌==◌, ◌&&◌, ◌||◌, not, ◌++◌, Bool, true, false}
use Rattle.std.proofs.Common.{if◌then◌else◌, List, [], ◌∷◌, length, map, replicate, Option, None, Some}
use Rattle.std.proofs.Common.{is_some, nat_le, slice_index, slice_set, inl, inr, refl, ap, ap₂, ◌∙◌, sym, subst}
use Rattle.std.specs.Bool.{then_some}
use Rattle.std.proofs.lemmas.Bool.{and_parts, cases_eq, eq-eqb, eqb-true, false≢true, ne_eqb}
use Rattle.std.proofs.lemmas.Bool.{or_cases}
use Rattle.std.proofs.lemmas.List.{length-map, length-replicate}
use Rattle.std.proofs.lemmas.Option.{cond_some, none-some, same_Some}
use Rattle.inline.proofs.Face.{with_value-other, with_value-same}
use Rattle.variable_room.specs.Below.{after, after_all, array, binary, branch, convert, counted, decided}
use Rattle.variable_room.specs.Below.{element, elements, first, holds, iterations, nothing, number}
use Rattle.variable_room.specs.Below.{Path, path_along, path_at, path_in, path_in_all, path_of_iterations, prefix, put}
use Rattle.variable_room.specs.Below.{repeats, rotate, select, set, StraightBlock, StraightState, StraightTree, take}
use Rattle.variable_room.specs.Below.{TermTree, value_at, value_in, Values, variable, with_element}
use Rattle.variable_room.specs.Below.{with_value, with_variable}
use Rattle.optimisation.specs.declared.constants.terms.CounterRange.{CounterRange}
use Rattle.variable_room.specs.set_whole.Watching.{all_set, behind_loop, between, elements_of, filled, Flags}
use Rattle.variable_room.specs.set_whole.Watching.{in_iteration, is_apart, is_free, is_set, may_read, may_read_all}
use Rattle.variable_room.specs.set_whole.Watching.{may_read_element}
use Rattle.variable_room.specs.set_whole.Watching.{number_at, number_of, put_in, range_of, through, Watch, watched}
use Rattle.variable_room.specs.set_whole.Watching.{watched_all, with_set}
use Rattle.variable_room.proofs.set_whole_lemmas.FlagLemmas.{AreSameWhere, Grows, grows_not, grows_on, grows_set}
use Rattle.variable_room.proofs.set_whole_lemmas.FlagLemmas.{grows_whole, same_all, same_at, same_less, same_list}
use Rattle.variable_room.proofs.set_whole_lemmas.FlagLemmas.{same_put, same_set}
use Rattle.variable_room.proofs.set_whole_lemmas.Counters.{some_of, if_some, then_of, answer_of, none_of, is_other}
use Rattle.variable_room.proofs.set_whole_lemmas.Counters.{AreCounted, number_is, counted_beside, counted_more}
use Rattle.variable_room.proofs.set_whole_lemmas.Counters.{counted_less}

-- States.

pub record AreBeside (w : Watch) (flags : Flags) (s u : StraightState) : Type 0 where
  pub others : (y : ℕ) → (y ≡ w.array → ⊥) → s.variables y ≡ u.variables y
  pub array : AreSameWhere flags (s.variables w.array) (u.variables w.array)
  pub controls : s.controls ≡ u.controls
  pub counters : AreCounted w.counters s.variables

-- what is made of two such states, and of their paths
pub record Follows (w : Watch) (flags next : Flags) (t v : StraightState) (p q : Path) : Type 0 where
  pub beside : AreBeside w next t v
  pub grown : Grows flags next
  pub path : p ≡ q

less_set : {w : Watch} {one other : Flags} {s u : StraightState} → Grows one other → AreBeside w other s u
    → AreBeside w one s u
less_set more beside = record {
  others = beside.others;
  array = same_less more beside.array;
  controls = beside.controls;
  counters = beside.counters;
}

-- where all was set all variables agree
pub all_agree : {w : Watch} {flags : Flags} {s u : StraightState} → AreBeside w flags s u → all_set flags ≡ true
    → (y : ℕ) → s.variables y ≡ u.variables y
all_agree {w} {flags} {s} {u} beside all y =
    elim (cases_eq y w.array) [
      | inl here ↦ ap s.variables here ∙ (same_all beside.array all ∙ ap u.variables (sym here))
      | inr apart ↦ beside.others y apart
    ]

-- Expressions.

record IsSame (m n : Values) (e : TermTree) : Type 0 where
  value : value_in m e ≡ value_in n e
  path : path_in m e ≡ path_in n e

record AreSame (m n : Values) (es : List TermTree) : Type 0 where
  values : map (value_in m) es ≡ map (value_in n) es
  path : path_in_all m es ≡ path_in_all n es

module _ {w : Watch} {flags : Flags} {s u : StraightState} (beside : AreBeside w flags s u) where
  same_known : (index : TermTree) (o : Option ℕ) → number_of w.counters index ≡ o → is_set flags o ≡ true
      → slice_index (s.variables w.array) (value_at s index) ≡ slice_index (u.variables w.array) (value_at s index)
  same_known index None known is = absurd (false≢true is)
  same_known index (Some k) known is =
      rw (number_is w.counters s.variables beside.counters index k known) (same_at beside.array k is)

  same_element : (y : ℕ) (index : TermTree) → may_read_element w flags y index ≡ true
      → slice_index (s.variables y) (value_at s index) ≡ slice_index (u.variables y) (value_at s index)
  same_element y index may =
      let at = λ (numbers : List ℕ). slice_index numbers (value_at s index) in
      elim (or_cases (not (y == w.array) || all_set flags) (is_set flags (number_of w.counters index)) may) [
        | inl some ↦
            elim (or_cases (not (y == w.array)) (all_set flags) some) [
              | inl apart ↦ ap at (beside.others y (is_other y w.array apart))
              | inr all ↦ ap at (all_agree beside all y)
            ]
        | inr known ↦
            elim (cases_eq y w.array) [
              | inl here ↦
                  ap (λ z. at (s.variables z)) here
                  ∙ (same_known index (number_of w.counters index) refl known
                  ∙ ap (λ z. at (u.variables z)) (sym here))
              | inr apart ↦ ap at (beside.others y apart)
            ]
      ]

  same : (e : TermTree) → may_read w flags e ≡ true → IsSame s.variables u.variables e
  same (variable y) is =
      record { value = ap (λ numbers. slice_index numbers 0) (beside.others y (is_other y w.array is)); path = refl }
  same (prefix operator width operand) is =
      let a = same operand is in record { value = rw a.value refl; path = a.path }
  same (binary place operator width left right) is =
      let parts = and_parts (may_read w flags left) (may_read w flags right) is in
      let a = same left parts.0 in
      let b = same right parts.1 in
      record { value = rw (a.value, b.value) refl; path = rw (a.value, b.value, a.path, b.path) refl }
  same (rotate width operand amount) is =
      let a = same operand is in record { value = rw a.value refl; path = a.path }
  same (convert kind operand) is = let a = same operand is in record { value = rw a.value refl; path = a.path }
  same (select condition accepted otherwise) is =
      let outer = and_parts (may_read w flags condition && may_read w flags accepted) (may_read w flags otherwise) is in
      let inner = and_parts (may_read w flags condition) (may_read w flags accepted) outer.0 in
      let c = same condition inner.0 in
      let a = same accepted inner.1 in
      let b = same otherwise outer.1 in
      record { value = rw (c.value, a.value, b.value) refl; path = rw (c.path, a.path, b.path) refl }
  same (element place y size index) is =
      let parts = and_parts (may_read w flags index) (may_read_element w flags y index) is in
      let i = same index parts.0 in
      record {
        value = same_element y index parts.1 ∙ ap (slice_index (u.variables y)) i.value;
        path = rw (i.value, i.path) refl;
      }
  same e is = record { value = refl; path = refl }

  all_same : (es : List TermTree) → may_read_all w flags es ≡ true → AreSame s.variables u.variables es
  all_same [] is = record { values = refl; path = refl }
  all_same (e ∷ es) is =
      let parts = and_parts (may_read w flags e) (may_read_all w flags es) is in
      let a = same e parts.0 in
      let b = all_same es parts.1 in
      record { values = rw (a.value, b.values) refl; path = rw (a.path, b.path) refl }

same_elements : {m n : Values} (size : ℕ) (es : List TermTree) → AreSame m n es
    → elements m size es ≡ elements n size es
same_elements size [] all = refl
same_elements size (e ∷ es) all = all.values

elements_count : (m : Values) (size : ℕ) (es : List TermTree) → length (elements m size es) ≡ elements_of size es
elements_count m size [] = length-replicate size 0
elements_count m size (e ∷ es) = length-map (e ∷ es) (value_in m)

-- Statements.

either : (b : Bool) {w : Watch} {flags : Flags} {s t u v : StraightState} → AreBeside w flags s u
    → AreBeside w flags t v → AreBeside w flags (if b then s else t) (if b then u else v)
either true one other = one
either false one other = other

either_path : (b : Bool) {p q p' q' : Path} → p ≡ p' → q ≡ q' → (if b then p else q) ≡ (if b then p' else q')
either_path true one other = one
either_path false one other = other

put_apart : (w : Watch) (flags : Flags) (within : Option ℕ) (y : ℕ) (index : TermTree) → (y == w.array) ≡ false
    → flags ≡ put_in w flags within y index
put_apart w flags None y index apart = rw apart refl
put_apart w flags (Some control) y index apart = refl

grows_with : (flags : Flags) (o : Option ℕ) → Grows flags (with_set flags o)
grows_with flags None = grows_not flags
grows_with flags (Some i) = grows_set flags i

grows_either : (b : Bool) {flags one other : Flags} → Grows flags one → Grows flags other
    → Grows flags (if b then one else other)
grows_either true one other = one
grows_either false one other = other

grows_put : (w : Watch) (flags : Flags) (within : Option ℕ) (y : ℕ) (index : TermTree)
    → Grows flags (put_in w flags within y index)
grows_put w flags None y index =
    grows_either (y == w.array) (grows_with flags (number_of w.counters index)) (grows_not flags)
grows_put w flags (Some control) y index = grows_not flags

module _ {w : Watch} {flags : Flags} {s u : StraightState} (beside : AreBeside w flags s u) where
  same_hold : (within : Option ℕ) → holds s within ≡ holds u within
  same_hold None = refl
  same_hold (Some control) = ap (λ (f : ℕ → Bool). f control) beside.controls

  -- another variable is set to the same
  other_set : (y : ℕ) (v : List ℕ) → (y ≡ w.array → ⊥) → number_at w.counters y ≡ None
      → AreBeside w flags (with_variable s y v) (with_variable u y v)
  other_set y v apart free = record {
    others = λ z other.
        elim (cases_eq z y) [
          | inl here ↦ rw here (with_value-same s.variables y v ∙ sym (with_value-same u.variables y v))
          | inr beyond ↦
              with_value-other s.variables y z v beyond
              ∙ (beside.others z other ∙ sym (with_value-other u.variables y z v beyond))
        ];
    array =
        let here = with_value-other s.variables y w.array v (λ e. apart (sym e)) in
        let there = with_value-other u.variables y w.array v (λ e. apart (sym e)) in
        subst (λ vs. AreSameWhere flags vs (with_value u.variables y v w.array)) (sym here)
        (subst (AreSameWhere flags (s.variables w.array)) (sym there) beside.array);
    controls = beside.controls;
    counters = counted_beside w.counters s.variables y v free beside.counters;
  }

  -- so is the array, to what is the same where this was set
  array_set : (next : Flags) (vs ws : List ℕ) → AreSameWhere next vs ws → number_at w.counters w.array ≡ None
      → AreBeside w next (with_variable s w.array vs) (with_variable u w.array ws)
  array_set next vs ws are free = record {
    others = λ z other.
        with_value-other s.variables w.array z vs other
        ∙ (beside.others z other ∙ sym (with_value-other u.variables w.array z ws other));
    array =
        let here = with_value-same s.variables w.array vs in
        let there = with_value-same u.variables w.array ws in
        subst (λ xs. AreSameWhere next xs (with_value u.variables w.array ws w.array)) (sym here)
        (subst (AreSameWhere next vs) (sym there) are);
    controls = beside.controls;
    counters = counted_beside w.counters s.variables w.array vs free beside.counters;
  }

  -- an element of the array is set
  element_set : (within : Option ℕ) (index : TermTree) (v : ℕ) → number_at w.counters w.array ≡ None
      → AreBeside w (put_in w flags within w.array index)
      (if holds s within then with_element s w.array (value_at s index) v else s)
      (if holds s within then with_element u w.array (value_at s index) v else u)
  element_set (Some control) index v free =
      either (s.controls control)
      (array_set flags _ _ (same_put beside.array (value_at s index) v) free) beside
  element_set None index v free =
      subst (λ b. AreBeside w (if b then with_set flags (number_of w.counters index) else flags)
      (with_element s w.array (value_at s index) v) (with_element u w.array (value_at s index) v))
      (sym (eq-eqb w.array w.array refl)) (by_number (number_of w.counters index) refl)
    where
      by_number : (o : Option ℕ) → number_of w.counters index ≡ o
          → AreBeside w (with_set flags o) (with_element s w.array (value_at s index) v)
          (with_element u w.array (value_at s index) v)
      by_number None known = array_set flags _ _ (same_put beside.array (value_at s index) v) free
      by_number (Some k) known =
          rw (number_is w.counters s.variables beside.counters index k known)
          (array_set (slice_set flags k true) _ _ (same_set beside.array k v) free)

  -- an element of any array is
  any_set : (within : Option ℕ) (y : ℕ) (index : TermTree) (v : ℕ) → number_at w.counters y ≡ None
      → AreBeside w (put_in w flags within y index)
      (if holds s within then with_element s y (value_at s index) v else s)
      (if holds s within then with_element u y (value_at s index) v else u)
  any_set within y index v free =
      elim (cases_eq y w.array) [
        | inl here ↦
            subst (λ z. AreBeside w (put_in w flags within z index)
            (if holds s within then with_element s z (value_at s index) v else s)
            (if holds s within then with_element u z (value_at s index) v else u)) (sym here)
            (element_set within index v (ap (number_at w.counters) (sym here) ∙ free))
        | inr apart ↦
            subst (λ next. AreBeside w next
            (if holds s within then with_element s y (value_at s index) v else s)
            (if holds s within then with_element u y (value_at s index) v else u))
            (put_apart w flags within y index (ne_eqb y w.array apart))
            (either (holds s within)
            (subst (λ numbers. AreBeside w flags
            (with_variable s y (slice_set (s.variables y) (value_at s index) v))
            (with_variable u y (slice_set numbers (value_at s index) v))) (beside.others y apart)
            (other_set y (slice_set (s.variables y) (value_at s index) v) apart free)) beside)
      ]

  -- a new array is set
  new_set : (y : ℕ) (next : Flags) (vs : List ℕ) → number_at w.counters y ≡ None
      → filled w flags y (length vs) ≡ Some next
      → AreBeside w next (with_variable s y vs) (with_variable u y vs) × Grows flags next
  new_set y next vs free is =
      elim (cases_eq y w.array) [
        | inl here ↦
            let all = subst (λ b. (if b then then_some (length vs == length flags) (replicate (length flags) true)
            else Some flags) ≡ Some next) (eq-eqb y w.array here) is in
            let parts = some_of (length vs == length flags) (replicate (length flags) true) next all in
            let count : length vs ≡ length (replicate (length flags) true) =
            eqb-true (length vs) (length flags) parts.0 ∙ sym (length-replicate (length flags) true) in (
              subst (λ z. AreBeside w next (with_variable s z vs) (with_variable u z vs)) (sym here)
                  (array_set next vs vs
                  (subst (λ f. AreSameWhere f vs vs) parts.1 (same_list (replicate (length flags) true) vs count))
                  (ap (number_at w.counters) (sym here) ∙ free)),
              subst (Grows flags) parts.1 (grows_whole flags),
            )
        | inr apart ↦
            let all = subst (λ b. (if b then then_some (length vs == length flags) (replicate (length flags) true)
            else Some flags) ≡ Some next) (ne_eqb y w.array apart) is in
            let stays = same_Some flags next all in (
              subst (λ f. AreBeside w f (with_variable s y vs) (with_variable u y vs)) stays
                  (other_set y vs apart free),
              subst (Grows flags) stays (grows_not flags),
            )
      ]

-- Loops.

iterations_follow : (w : Watch) (flags : Flags) (f : ℕ → StraightState → StraightState) (p : ℕ → StraightState → Path)
    → ((i : ℕ) (s u : StraightState) → AreBeside w flags s u → AreBeside w flags (f i s) (f i u) × (p i s ≡ p i u))
    → (n i : ℕ) (s u : StraightState) → AreBeside w flags s u
    → AreBeside w flags (iterations n i f s) (iterations n i f u)
    × (path_of_iterations n i f p s ≡ path_of_iterations n i f p u)
iterations_follow w flags f p each zero i s u beside = (beside, refl)
iterations_follow w flags f p each (suc n) i s u beside =
    let here = each i s u beside in
    let rest = iterations_follow w flags f p each n (i + 1) (f i s) (f i u) here.0 in
    (rest.0, ap₂ (λ (a b : Path). a ++ b) here.1 rest.1)

through_follows : (w : Watch) (steps : ℕ → Flags → Option Flags) (f : ℕ → StraightState → StraightState)
    (p : ℕ → StraightState → Path)
    → ((i : ℕ) (flags next : Flags) (s u : StraightState) → steps i flags ≡ Some next → AreBeside w flags s u
    → Follows w flags next (f i s) (f i u) (p i s) (p i u))
    → (n i : ℕ) (flags next : Flags) (s u : StraightState) → through n i steps flags ≡ Some next
    → AreBeside w flags s u
    → Follows w flags next (iterations n i f s) (iterations n i f u) (path_of_iterations n i f p s)
    (path_of_iterations n i f p u)
through_follows w steps f p each zero i flags next s u is beside =
    let stays = same_Some flags next is in
    record {
      beside = subst (λ g. AreBeside w g s u) stays beside;
      grown = subst (Grows flags) stays (grows_not flags);
      path = refl;
    }
through_follows w steps f p each (suc n) i flags next s u is beside =
    let mid = then_of (through n (i + 1) steps) (steps i flags) next is in
    let here = each i flags mid.0 s u mid.1 beside in
    let rest = through_follows w steps f p each n (i + 1) mid.0 next (f i s) (f i u) mid.2 here.beside in
    record {
      beside = rest.beside;
      grown = grows_on here.grown rest.grown;
      path = ap₂ (λ (a b : Path). a ++ b) here.path rest.path;
    }

-- a range is between two numbers that are known
range_is : (room : ℕ) (a b : Option ℕ) (range : CounterRange) → range_of room a b ≡ Some range
    → (a ≡ Some range.low) × (b ≡ Some range.high)
range_is room None b range is = absurd (none-some range is)
range_is room (Some x) None range is = absurd (none-some range is)
range_is room (Some x) (Some y) range is =
    let same = (cond_some (nat_le (y - x) room) (record { low = x; high = y }) range is).1 in (
      ap (λ (r : CounterRange). Some r.low) same,
      ap (λ (r : CounterRange). Some r.high) same,
    )

module _ (w : Watch) (y : ℕ) (low high : TermTree) (body : StraightBlock) (apart : y ≡ w.array → ⊥)
    (free : number_at w.counters y ≡ None) where
  -- what each iteration makes of a state, and its path
  abbrev turn : ℕ → StraightState → StraightState
  turn i t = after_all (counted y i t) body

  abbrev turn_path : ℕ → StraightState → Path
  turn_path i t = path_along (counted y i t) body

  -- where an iteration begins in both
  begun : (flags : Flags) (range : CounterRange) (i : ℕ) (s u : StraightState) → AreBeside w flags s u
      → AreBeside (in_iteration w y range i) flags (counted y i s) (counted y i u)
  begun flags range i s u beside =
      let both = other_set beside y (i ∷ []) apart free in
      record {
        others = both.others;
        array = both.array;
        controls = both.controls;
        counters = counted_more w.counters s.variables y i free beside.counters;
      }

  ended : (flags : Flags) (range : CounterRange) (i : ℕ) (s u : StraightState)
      → AreBeside (in_iteration w y range i) flags s u → AreBeside w flags s u
  ended flags range i s u beside = record {
    others = beside.others;
    array = beside.array;
    controls = beside.controls;
    counters = counted_less w.counters s.variables y i free beside.counters;
  }

  -- a body follows, from any flags, and as an iteration at any number
  abbrev BodyFollows : Watch → Type 0
  BodyFollows v = (flags next : Flags) (s u : StraightState) → watched_all v flags body ≡ Some next
      → AreBeside v flags s u
      → Follows v flags next (after_all s body) (after_all u body) (path_along s body) (path_along u body)

  loop_follows : (o : Option CounterRange)
      → range_of w.room (number_of w.counters low) (number_of w.counters high) ≡ o → BodyFollows w
      → ((range : CounterRange) (i : ℕ) → BodyFollows (in_iteration w y range i))
      → (flags next : Flags) (s u : StraightState)
      → behind_loop o (λ range i g. watched_all (in_iteration w y range i) g body) (watched_all w flags body) flags
      ≡ Some next
      → AreBeside w flags s u
      → Follows w flags next (iterations (value_at s high - value_at s low) (value_at s low) turn s)
      (iterations (value_at s high - value_at s low) (value_at s low) turn u)
      (path_of_iterations (value_at s high - value_at s low) (value_at s low) turn turn_path s)
      (path_of_iterations (value_at s high - value_at s low) (value_at s low) turn turn_path u)
  loop_follows None range_none any each flags next s u is beside =
      let parts = some_of (is_some (watched_all w flags body)) flags next is in
      let inside = answer_of (watched_all w flags body) parts.0 in
      let run = iterations_follow w flags turn turn_path (λ i t v at.
      let one = any flags inside.0 (counted y i t) (counted y i v) inside.1 (other_set at y (i ∷ []) apart free) in
      (less_set one.grown one.beside, one.path))
      (value_at s high - value_at s low) (value_at s low) s u beside in
      record {
        beside = subst (λ f. AreBeside w f (iterations (value_at s high - value_at s low) (value_at s low) turn s)
            (iterations (value_at s high - value_at s low) (value_at s low) turn u)) parts.1 run.0;
        grown = subst (Grows flags) parts.1 (grows_not flags);
        path = run.1;
      }
  loop_follows (Some range) range_some any each flags next s u is beside =
      let bounds = range_is w.room (number_of w.counters low) (number_of w.counters high) range range_some in
      let from = number_is w.counters s.variables beside.counters low range.low bounds.0 in
      let to = number_is w.counters s.variables beside.counters high range.high bounds.1 in
      rw (from, to)
      (through_follows w (λ i next. watched_all (in_iteration w y range i) next body) turn turn_path
      (λ i f g t v sets at.
      let one = each range i f g (counted y i t) (counted y i v) sets (begun f range i t v at) in
      record { beside = ended g range i _ _ one.beside; grown = one.grown; path = one.path })
      (range.high - range.low) range.low flags next s u is beside)

mutual
  follows : (w : Watch) (flags next : Flags) (statement : StraightTree) {s u : StraightState}
      → watched w flags statement ≡ Some next → AreBeside w flags s u
      → Follows w flags next (after s statement) (after u statement) (path_at s statement) (path_at u statement)
  follows w flags next (set within y value) {s} {u} is beside =
      let tests = some_of (is_apart w y && may_read w flags value) flags next is in
      let parts = and_parts (is_apart w y) (may_read w flags value) tests.0 in
      let apart = and_parts (not (y == w.array)) (is_free w y) parts.0 in
      let v = same beside value parts.1 in
      record {
        beside = subst (λ f. AreBeside w f (after s (set within y value)) (after u (set within y value))) tests.1
            (rw (← v.value, ← same_hold beside within)
            (either (holds s within) (other_set beside y (value_at s value ∷ []) (is_other y w.array apart.0)
            (none_of (number_at w.counters y) apart.1)) beside));
        grown = subst (Grows flags) tests.1 (grows_not flags);
        path = v.path;
      }
  follows w flags next (array y size values) {s} {u} is beside =
      let tests = if_some (is_free w y && may_read_all w flags values)
      (filled w flags y (elements_of size values)) next is in
      let parts = and_parts (is_free w y) (may_read_all w flags values) tests.0 in
      let all = all_same beside values parts.1 in
      let new = new_set beside y next (elements s.variables size values) (none_of (number_at w.counters y) parts.0)
      (rw (elements_count s.variables size values) tests.1) in
      record {
        beside = rw (← same_elements size values all) new.0;
        grown = new.1;
        path = all.path;
      }
  follows w flags next (put within place y size index value) {s} {u} is beside =
      let tests = some_of (is_free w y && may_read w flags index && may_read w flags value)
      (put_in w flags within y index) next is in
      let outer = and_parts (is_free w y && may_read w flags index) (may_read w flags value) tests.0 in
      let inner = and_parts (is_free w y) (may_read w flags index) outer.0 in
      let i = same beside index inner.1 in
      let v = same beside value outer.1 in
      record {
        beside = subst (λ f. AreBeside w f (after s (put within place y size index value))
            (after u (put within place y size index value))) tests.1
            (rw (← v.value, ← i.value, ← same_hold beside within)
            (any_set beside within y index (value_at s value) (none_of (number_at w.counters y) inner.0)));
        grown = subst (Grows flags) tests.1 (grows_put w flags within y index);
        path = rw (v.path, i.path, i.value) refl;
      }
  follows w flags next (take control within condition) {s} {u} is beside =
      let tests = some_of (may_read w flags condition) flags next is in
      let c = same beside condition tests.0 in
      record {
        beside = subst (λ f. AreBeside w f (after s (take control within condition))
            (after u (take control within condition))) tests.1
            (record {
              others = beside.others;
              array = beside.array;
              controls = rw (c.value, same_hold beside within, beside.controls) refl;
              counters = beside.counters;
            });
        grown = subst (Grows flags) tests.1 (grows_not flags);
        path = c.path;
      }
  follows w flags next (branch condition accepted otherwise) {s} {u} is beside =
      let tests = some_of (may_read w flags condition && is_some (watched_all w flags accepted)
      && is_some (watched_all w flags otherwise)) flags next is in
      let outer = and_parts (may_read w flags condition && is_some (watched_all w flags accepted))
      (is_some (watched_all w flags otherwise)) tests.0 in
      let inner = and_parts (may_read w flags condition) (is_some (watched_all w flags accepted)) outer.0 in
      let c = same beside condition inner.0 in
      let first_arm = answer_of (watched_all w flags accepted) inner.1 in
      let other_arm = answer_of (watched_all w flags otherwise) outer.1 in
      let one = all_follow w flags first_arm.0 accepted first_arm.1 beside in
      let other = all_follow w flags other_arm.0 otherwise other_arm.1 beside in
      record {
        beside = subst (λ f. AreBeside w f (after s (branch condition accepted otherwise))
            (after u (branch condition accepted otherwise))) tests.1
            (rw (← c.value)
            (either (value_at s condition == 0) (less_set other.grown other.beside) (less_set one.grown one.beside)));
        grown = subst (Grows flags) tests.1 (grows_not flags);
        path = rw (← c.value, ← c.path)
            (ap (λ (p : Path). path_in s.variables condition ++ decided (value_at s condition) ∷ p)
            (either_path (value_at s condition == 0) other.path one.path));
      }
  follows w flags next (repeats y low high body) {s} {u} is beside =
      let tests = if_some (is_apart w y && may_read w flags low && may_read w flags high)
      (behind_loop (range_of w.room (number_of w.counters low) (number_of w.counters high))
      (λ range i next. watched_all (in_iteration w y range i) next body) (watched_all w flags body) flags) next is in
      let outer = and_parts (is_apart w y && may_read w flags low) (may_read w flags high) tests.0 in
      let inner = and_parts (is_apart w y) (may_read w flags low) outer.0 in
      let apart = and_parts (not (y == w.array)) (is_free w y) inner.0 in
      let l = same beside low inner.1 in
      let h = same beside high outer.1 in
      let run = loop_follows w y low high body (is_other y w.array apart.0)
      (none_of (number_at w.counters y) apart.1)
      (range_of w.room (number_of w.counters low) (number_of w.counters high)) refl
      (λ f g t v sets at. all_follow w f g body sets at)
      (λ range i f g t v sets at. all_follow (in_iteration w y range i) f g body sets at) flags next s u tests.1 beside
      in
      record {
        beside = rw (← l.value, ← h.value) run.beside;
        grown = run.grown;
        path = rw (← l.value, ← h.value, ← l.path, ← h.path, ← run.path) refl;
      }

  pub all_follow : (w : Watch) (flags next : Flags) (body : StraightBlock) {s u : StraightState}
      → watched_all w flags body ≡ Some next → AreBeside w flags s u
      → Follows w flags next (after_all s body) (after_all u body) (path_along s body) (path_along u body)
  all_follow w flags next nothing {s} {u} is beside =
      let stays = same_Some flags next is in
      record {
        beside = subst (λ f. AreBeside w f s u) stays beside;
        grown = subst (Grows flags) stays (grows_not flags);
        path = refl;
      }
  all_follow w flags next (first statement rest) {s} {u} is beside =
      let mid = then_of (λ f. watched_all w f rest) (watched w flags statement) next is in
      let one = follows w flags mid.0 statement mid.1 beside in
      let others = all_follow w mid.0 next rest mid.2 one.beside in
      record {
        beside = others.beside;
        grown = grows_on one.grown others.grown;
        path = ap₂ (λ (a b : Path). a ++ b) one.path others.path;
      }
