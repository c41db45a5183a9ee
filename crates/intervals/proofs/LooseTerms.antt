-- What an expression comes to in a loose run: a value of its kind, within its interval where it is public, on a path
-- with no fault where it has no violation.
use Rattle.std.proofs.Common.{◌≡◌, ℕ, ◌<◌, ◌==◌, nat_le, Bool, true, false, if◌then◌else◌, List, [], ◌∷◌, ◌++◌}
use Rattle.std.proofs.Common.{Option, Some, None, unwrap_or, option_map, slice_index, refl, sym, ap, subst, arith}
use Rattle.std.proofs.lemmas.Bool.Decides.{nat_tests}
use Rattle.intervals.specs.Below.{AreFine, array_as, because, BinaryOperator, Boolean, counter_type, Divide, divided}
use Rattle.intervals.specs.Below.{divides, Divisor, DivisorMayBeZero, equality, Fits, FlatVariable, TermHasType, Index}
use Rattle.intervals.specs.Below.{indexed, IndexOutOfRange, Interval, IsWithinKind, IsWord, joined, Kind, logic, Makes}
use Rattle.intervals.specs.Below.{marks_of, multiplied, multiplies, of_binary, of_conversion, of_element, of_number}
use Rattle.intervals.specs.Below.{of_prefix, of_rotation, of_selection, of_truth, of_variable, operated, operation_of}
use Rattle.intervals.specs.Below.{order, Path, Place, prefix_value, Profile, Public, Remainder, rotated_left, Secret}
use Rattle.intervals.specs.Below.{TermTree, Types, types_of, Uint32, Values, when, width_of, word_as, WordType}
use Rattle.intervals.proofs.Below.{bit_fits, fine_both, element_fits, either_fits, number_fits, operated_fits}
use Rattle.intervals.proofs.Below.{prefix_fits, wrapped_fits}
use Rattle.intervals.specs.Intervals.{Bounds, known, full_at, full_of, interval}
use Rattle.intervals.specs.Loose.{LooselyComes, to_number, to_truth, to_variable, to_prefix, to_binary, to_rotation}
use Rattle.intervals.specs.Loose.{to_conversion, to_selection, to_element, to_anything}
use Rattle.intervals.specs.Ranges.{divisor_violations, index_violations, term_violations}
use Rattle.intervals.proofs.LooseIntervals.{IsIn, truth_in, word_in, kind_in, prefix_in, operated_in, converted_in}
use Rattle.intervals.proofs.LooseIntervals.{hull_in, word_of_kind}
use Rattle.intervals.proofs.LooseTypes.{IsListed, one_type, joined_public}
use Rattle.language.specs.declared.why.Why.{Why}
use Rattle.language.specs.WellTyped as typing

-- a variable keeps its value, which lies within this interval
pub record KeepsItsValue (types : Types) (m : Values) (x : ℕ) (i : Interval) : Type 0 where
  pub word : WordType
  pub typed : types.at x ≡ Some (word_as word false)
  pub public : word.label ≡ Public
  pub within : IsIn i (slice_index (m x) 0)

-- what is known holds: of each variable in scope its type, and the interval of each that keeps its value
pub record BoundsHold (declared : List FlatVariable) (types : Types) (bounds : Bounds) (m : Values) : Type 0 where
  pub fits : Fits types m
  pub kept : (x : ℕ) (i : Interval) → known bounds x ≡ Some i → KeepsItsValue types m x i
  pub listed : IsListed declared types

-- no violations in two lists, none in each
pub none_in : {X : Type 0} (xs ys : List X) → xs ++ ys ≡ [] → (xs ≡ []) × (ys ≡ [])
none_in [] ys h = (refl, h)
none_in (x ∷ xs) ys h = absurd cc

pub both_public : {profile : Profile} {o : _} {a b c : WordType} → Makes profile o a b c → c.label ≡ Public
    → (a.label ≡ Public) × (b.label ≡ Public)
both_public (typing.division p) h = (refl, refl)
both_public other h = joined_public _ _ h

-- what is made of words of a width is one
bit_word : (kind : Kind) (v : ℕ) → v < 2 → IsWord (width_of kind) v
bit_word Boolean v h = omega (arith, h)
bit_word other v h = omega (arith, h)

made_word : {profile : Profile} {o : _} {a b c : WordType} → Makes profile o a b c → (v : ℕ) → IsWithinKind c.kind v
    → IsWord (width_of a.kind) v
made_word (equality {kind = kind}) v h = bit_word kind v h
made_word (order {kind = kind} p) v h = bit_word kind v h
made_word logic v h = bit_word Boolean v h
made_word other v h = word_of_kind _ v h

-- a divisor is public
divisor_public : (operator : BinaryOperator) → divides operator ≡ true → {profile : Profile} {a b c : WordType}
    → Makes profile (operation_of operator) a b c → b.label ≡ Public
divisor_public Divide is (typing.division p) = refl
divisor_public Remainder is (typing.division p) = refl
divisor_public operator is makes = absurd cc

pub secret_is_not : (a b : WordType) → a ≡ b → a.label ≡ Public → b.label ≡ Secret → ⊥
secret_is_not a b same public secret = let labels = ap (λ (t : WordType). t.label) same in absurd cc

module _ (declared : List FlatVariable) (types : Types) (bounds : Bounds) (m : Values)
    (holds : BoundsHold declared types bounds m) where
  pub element_of : (x i : ℕ) (d : FlatVariable) → types.at x ≡ Some d → IsWithinKind d.word.kind (slice_index (m x) i)
  element_of x i d is = element_fits d.word.kind (m x) i (holds.fits x d is).within

  pub loose_fits : {profile : Profile} {e : TermTree} {v : ℕ} {p : Path} {w : WordType}
      → LooselyComes (types_of profile declared) m e v p → TermHasType types e w → IsWithinKind w.kind v
  loose_fits to_number (of_number below) = below
  loose_fits (to_truth {value = value}) of_truth = bit_fits value
  loose_fits (to_variable {x = x}) (of_variable {word = word} {mutable = mutable} is) =
      element_of x 0 (word_as word mutable) is
  loose_fits (to_prefix {operator = operator} {a = a} c) (of_prefix {kind = kind} t takes width) =
      subst (λ w. IsWithinKind kind (prefix_value operator w a)) (sym width) (prefix_fits operator kind a takes)
  loose_fits (to_binary {operator = operator} {a = a} {b = b} c d) (of_binary {whole = whole} t u makes width) =
      subst (λ w. IsWithinKind whole.kind (operated operator w a b)) (sym width)
      (operated_fits operator a b makes (loose_fits c t) (loose_fits d u))
  loose_fits (to_rotation {amount = amount} {a = a} c) (of_rotation {kind = kind} t numeric low high width) =
      subst (λ w. IsWithinKind kind (rotated_left w a amount)) (sym width)
      (number_fits kind _ numeric (wrapped_fits (width_of kind) _))
  loose_fits (to_conversion {a = a} c) (of_conversion {kind = kind} t numeric) =
      number_fits kind _ numeric (wrapped_fits (width_of kind) a)
  loose_fits (to_selection {c = z} {a = a} {b = b} c d e) (of_selection {kind = kind} t u v) =
      either_fits kind (z == 0) a b (loose_fits d u) (loose_fits e v)
  loose_fits (to_element {x = x} {i = i} c) (of_element {size = size} {word = word} {mutable = mutable} is t) =
      element_of x i (array_as word mutable size) is
  loose_fits {w = w} (to_anything {word = word} {v = v} c t secret within) u =
      subst (λ (k : WordType). IsWithinKind k.kind v) (sym (one_type declared types holds.listed u t)) within

  -- a variable's kind, by the list of all
  pub full_of_variable : (x v : ℕ) (d : FlatVariable) → types.at x ≡ Some d → IsWithinKind d.word.kind v
      → IsIn (full_at declared x) v
  full_of_variable x v d is within =
      subst (λ (o : Option FlatVariable).
      IsIn (unwrap_or (option_map (λ (e : FlatVariable). full_of e.word.kind) o) (full_of Uint32)) v)
      (sym (holds.listed x d is)) (kind_in d.word.kind v within)

  variable_in : (x : ℕ) (d : FlatVariable) → types.at x ≡ Some d → (o : Option Interval) → known bounds x ≡ o
      → IsIn (unwrap_or o (full_at declared x)) (slice_index (m x) 0)
  variable_in x d is (Some i) there = (holds.kept x i there).within
  variable_in x d is None there = full_of_variable x (slice_index (m x) 0) d is (element_of x 0 d is)

  pub loose_in : {profile : Profile} {e : TermTree} {v : ℕ} {p : Path} {w : WordType}
      → LooselyComes (types_of profile declared) m e v p → TermHasType types e w → w.label ≡ Public
      → IsIn (interval declared bounds e) v
  loose_in to_number (of_number below) public = (omega arith, omega arith)
  loose_in (to_truth {value = value}) of_truth public = truth_in value
  loose_in (to_variable {x = x}) (of_variable {word = word} {mutable = mutable} is) public =
      variable_in x (word_as word mutable) is (known bounds x) refl
  loose_in (to_prefix {operator = operator} {width = width} {a = a} c) t public = prefix_in operator width a
  loose_in (to_binary {place = place} {operator = operator} {width = width} {left = left} {right = right} {a = a} {b =
      b} c d) (of_binary {one = one} t u makes same) public =
      let labels = both_public makes public in
      let word : IsWord width a = rw (sym same) at (word_of_kind one.kind a (loose_fits c t)) in
      operated_in width (interval declared bounds left) (interval declared bounds right) a b (loose_in c t labels.0)
      (loose_in d u labels.1) word operator
      (rw (sym same) at (made_word makes (operated operator width a b)
      (loose_fits (to_binary {place = place} {operator = operator} {width = width} c d)
      (of_binary t u makes same))))
  loose_in (to_rotation {width = width} {a = a} c) t public = word_in width _ (wrapped_fits width _)
  loose_in (to_conversion {operand = operand} {a = a} c) (of_conversion {kind = kind} t numeric) public =
      converted_in kind (interval declared bounds operand) a numeric (loose_in c t public)
  loose_in (to_selection {accepted = accepted} {otherwise = otherwise} {c = z} {a = a} {b = b} c d e)
      (of_selection {l = l} {m = n} {n = k} t u v) public =
      let labels = joined_public l (joined n k) public in
      let arms = joined_public n k labels.1 in
      hull_in (interval declared bounds accepted) (interval declared bounds otherwise) (z == 0) a b
      (loose_in d u arms.0) (loose_in e v arms.1)
  loose_in (to_element {x = x} {i = i} c) (of_element {size = size} {word = word} {mutable = mutable} is t) public =
      full_of_variable x (slice_index (m x) i) (array_as word mutable size) is
      (element_of x i (array_as word mutable size) is)
  loose_in {w = w} (to_anything {word = word} c t secret within) u public =
      absurd (secret_is_not w word (one_type declared types holds.listed u t) public secret)

  module _ (iterations : List ℕ) where
    index_below : (size : ℕ) (index : Interval) (place : Place) → index_violations place size index ≡ []
        → index.high < size
    index_below size index place none = by (nat_le size index.high) refl none
      where
        why : Why
        why = Index (record { index = index; length = size })

        by : (b : Bool) → nat_le size index.high ≡ b → because why place (when b IndexOutOfRange) ≡ [] → index.high < size
        by true e n = absurd cc
        by false e n = grind (arith, nat_tests, e)

    divisor_some : (operator : BinaryOperator) (divisor : Interval) (place : Place) → divides operator ≡ true
        → divisor_violations place operator divisor ≡ [] → 0 < divisor.low
    divisor_some operator divisor place is none = by (divisor.low == 0) refl (rw is at none)
      where
        by : (b : Bool) → (divisor.low == 0) ≡ b → because (Divisor divisor) place (when b DivisorMayBeZero) ≡ []
            → 0 < divisor.low
        by true e n = absurd cc
        by false e n = grind (arith, nat_tests, e)

    marks_fine : (place : Place) (operator : BinaryOperator) (a b : ℕ) → (divides operator ≡ true → 0 < b)
        → AreFine iterations (marks_of place operator a b)
    marks_fine place operator a b some = by (divides operator) refl (multiplies operator)
      where
        by : (d : Bool) → divides operator ≡ d → (m : Bool)
            → AreFine iterations (if d then divided place a b ∷ [] else (if m then multiplied a b ∷ [] else []))
        by true e m = (some e, tt)
        by false e true = (tt, tt)
        by false e false = tt

    pub loose_below : (place : Place) (size : ℕ) {profile : Profile} {e : TermTree} {i : ℕ} {p : Path}
        → LooselyComes (types_of profile declared) m e i p → TermHasType types e counter_type
        → index_violations place size (interval declared bounds e) ≡ [] → i < size
    loose_below place size {e = e} c t none =
        let inside = loose_in c t refl in
        let high = index_below size (interval declared bounds e) place none in omega (arith, inside, high)

    pub loose_fine : {profile : Profile} {e : TermTree} {v : ℕ} {p : Path} {w : WordType}
        → LooselyComes (types_of profile declared) m e v p → TermHasType types e w
        → term_violations declared bounds e ≡ []
        → AreFine iterations p
    loose_fine (to_prefix c) (of_prefix t takes width) none = loose_fine c t none
    loose_fine (to_binary {place = place} {operator = operator} {left = left} {right = right} {a = a} {b = b} {p =
        p} {q = q} c d) (of_binary t u makes width) none =
        let parts = none_in (term_violations declared bounds left ++ term_violations declared bounds right) _ none in
        let operands = none_in (term_violations declared bounds left)
        (term_violations declared bounds right) parts.0 in
        fine_both iterations (p ++ q) (marks_of place operator a b)
        (fine_both iterations p q (loose_fine c t operands.0) (loose_fine d u operands.1))
        (marks_fine place operator a b (λ divide.
        let some = divisor_some operator (interval declared bounds right) place divide parts.1 in
        let inside = loose_in d u (divisor_public operator divide makes) in
        omega (arith, some, inside)))
    loose_fine (to_rotation c) (of_rotation t numeric low high width) none = loose_fine c t none
    loose_fine (to_conversion c) (of_conversion t numeric) none = loose_fine c t none
    loose_fine (to_selection {condition = condition} {accepted = accepted} {otherwise = otherwise} {p = p} {q =
        q} {r = r} c d e) (of_selection t u v) none =
        let parts = none_in (term_violations declared bounds condition ++ term_violations declared bounds accepted)
        (term_violations declared bounds otherwise) none in
        let firsts = none_in (term_violations declared bounds condition)
        (term_violations declared bounds accepted) parts.0 in
        fine_both iterations (p ++ q) r (fine_both iterations p q (loose_fine c t firsts.0) (loose_fine d u firsts.1))
        (loose_fine e v parts.1)
    loose_fine (to_element {place = place} {size = size} {index = index} {i = i} {path = path} c)
        (of_element is t) none =
        let parts = none_in (term_violations declared bounds index)
        (index_violations place size (interval declared bounds index)) none in
        fine_both iterations path (indexed place size i ∷ []) (loose_fine c t parts.0)
        (loose_below place size c t parts.1, tt)
    loose_fine (to_anything c t secret within) u none = loose_fine c u none
    loose_fine other t none = tt
