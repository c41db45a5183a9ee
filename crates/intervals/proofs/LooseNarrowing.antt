-- What a public condition tells holds in a loose run.
use Rattle.std.proofs.Common.{◌≡◌, ◌≢◌, ◌⊎◌, ⊎_elim, inl, inr, ℕ, zero, suc, ◌+◌, ◌-◌, ◌<◌, ◌≤◌, ◌==◌, ◌&&◌, min, max}
use Rattle.std.proofs.Common.{nat_lt, nat_le, Bool, true, false, if◌then◌else◌, List, [], ◌∷◌, ◌++◌, Option, Some, None}
use Rattle.std.proofs.Common.{slice_index, refl, sym, ap, arith}
use Rattle.std.specs.Option.{option_to_list}
use Rattle.std.proofs.Math.Nat.{le-min, max-le}
use Rattle.std.proofs.lemmas.Bool.{and_parts, cases_Bool}
use Rattle.std.proofs.lemmas.Bool.Decides.{nat_tests}
use Rattle.std.proofs.lemmas.Option.{none-some, same_Some}
use Rattle.intervals.specs.Below.{BinaryOperator, LogicalAnd, Equal, FlatVariable, TermHasType, Interval, Label, Less}
use Rattle.intervals.specs.Below.{LessOrEqual, of_binary, of_variable, operated, Path, Profile, Public, Secret}
use Rattle.intervals.specs.Below.{TermTree, truth_of, Types, types_of, Values, variable, word_as, word_of, WordType}
use Rattle.intervals.specs.declared.said.SaidOfVariable.{SaidOfVariable}
use Rattle.intervals.specs.Intervals.{Bounds, known, with_bound, between, full_at, interval}
use Rattle.intervals.specs.Loose.{LooselyComes, to_variable, to_binary, to_anything}
use Rattle.intervals.specs.Narrowing.{is_both, meet, met, met_all, met_at, named, said_where_false, said_where_true}
use Rattle.intervals.specs.Narrowing.{says, told_false, told_true, told_where_false, told_where_true, where_false}
use Rattle.intervals.specs.Narrowing.{where_true, with_meet}
use Rattle.intervals.proofs.LooseIntervals.{IsIn}
use Rattle.intervals.proofs.LooseTerms.{BoundsHold, KeepsItsValue, both_public, element_of, full_of_variable, loose_in}
use Rattle.intervals.proofs.LooseTerms.{secret_is_not}
use Rattle.intervals.proofs.LooseTypes.{one_type}

-- What is known of a variable after something was learned of one.

-- what was put at a number is there, and at no other
pub at_number : (bounds : Bounds) (x : ℕ) (i : Interval) (y : ℕ) (j : Interval)
    → known (with_bound bounds x i) y ≡ Some j
    → ((y ≡ x) × (i ≡ j)) ⊎ (known bounds y ≡ Some j)
at_number [] x i y j h = inr h
at_number (b ∷ bs) zero i zero j h = inl (refl, same_Some i j h)
at_number (b ∷ bs) zero i (suc y) j h = inr h
at_number (b ∷ bs) (suc x) i zero j h = inr h
at_number (b ∷ bs) (suc x) i (suc y) j h =
    ⊎_elim (λ here. inl (ap suc here.0, here.1)) (λ there. inr there) (at_number bs x i y j h)

-- all that is said of variables is so
abbrev pub AreSo : Values → List SaidOfVariable → Type 0
AreSo m [] = Unit {0}
AreSo m (said ∷ rest) = IsIn said.interval (slice_index (m said.variable) 0) × AreSo m rest

so_both : (m : Values) (xs ys : List SaidOfVariable) → AreSo m xs → AreSo m ys → AreSo m (xs ++ ys)
so_both m [] ys one other = other
so_both m (x ∷ xs) ys one other = (one.0, so_both m xs ys one.1 other)

abbrev Kept : Types → Values → Bounds → Type 0
Kept types m bounds = (x : ℕ) (i : Interval) → known bounds x ≡ Some i → KeepsItsValue types m x i

module _ (types : Types) (m : Values) where
  -- a meet of two intervals in which a value lies
  met_kept : (bounds : Bounds) (x : ℕ) (before i : Interval) → Kept types m bounds → known bounds x ≡ Some before
      → IsIn i (slice_index (m x) 0) → Kept types m (with_meet bounds x (meet before i))
  met_kept bounds x before i kept there so = by (nat_le (max before.low i.low) (min before.high i.high))
    where
      both : Interval
      both = between (max before.low i.low) (min before.high i.high)

      here : KeepsItsValue types m x both
      here =
          let old = kept x before there in
          record {
            word = old.word;
            typed = old.typed;
            public = old.public;
            within = (max-le old.within.0 so.0, le-min old.within.1 so.1);
          }

      learned : Kept types m (with_bound bounds x both)
      learned y j h = ⊎_elim (λ new. rw (sym new.0) at (rw new.1 at here)) (λ old. kept y j old)
          (at_number bounds x both y j h)

      by : (b : Bool) → Kept types m (with_meet bounds x (if b then Some both else None))
      by true = learned
      by false = kept

  said_kept : (bounds : Bounds) (said : SaidOfVariable) → Kept types m bounds
      → IsIn said.interval (slice_index (m said.variable) 0) → Kept types m (met bounds said)
  said_kept bounds said kept so = by (known bounds said.variable) refl
    where
      by : (o : Option Interval) → known bounds said.variable ≡ o
          → Kept types m (met_at bounds said.variable o said.interval)
      by None e = kept
      by (Some before) e = met_kept bounds said.variable before said.interval kept e so

  all_kept : (told : List SaidOfVariable) (bounds : Bounds) → Kept types m bounds → AreSo m told
      → Kept types m (met_all bounds told)
  all_kept [] bounds kept so = kept
  all_kept (said ∷ rest) bounds kept so = all_kept rest (met bounds said) (said_kept bounds said kept so.0) so.1

-- What a comparison tells.

is_true : (b : Bool) → word_of b ≢ 0 → b ≡ true
is_true true h = refl
is_true false h = absurd (h refl)

is_false : (b : Bool) → word_of b ≡ 0 → b ≡ false
is_false true h = absurd (omega (arith, h))
is_false false h = refl

not_zero : (v : ℕ) → truth_of v ≡ true → v ≢ 0
not_zero v h is = grind (arith, nat_tests)

module _ (m : Values) (x b : ℕ) (e : Interval) (inside : IsIn e b) where
  true_so : (operator : BinaryOperator) (w : _) → operated operator w (slice_index (m x) 0) b ≢ 0
      → AreSo m (option_to_list (said_where_true operator x e))
  true_so Less w h = by (nat_lt 0 e.high) refl
    where
      less : slice_index (m x) 0 < b
      less = let t = is_true (nat_lt (slice_index (m x) 0) b) h in grind (arith, nat_tests, t)

      by : (c : Bool) → nat_lt 0 e.high ≡ c → AreSo m (option_to_list (if c then says x 0 (e.high - 1) else None))
      by true some = ((omega arith, omega (arith, less, inside)), tt)
      by false some = tt
  true_so LessOrEqual w h =
      let t = is_true (nat_le (slice_index (m x) 0) b) h in
      let less : slice_index (m x) 0 ≤ b = grind (arith, nat_tests, t) in
      ((omega arith, omega (arith, less, inside)), tt)
  true_so Equal w h =
      let t = is_true (slice_index (m x) 0 == b) h in
      let same : slice_index (m x) 0 ≡ b = grind (arith, nat_tests, t) in
      ((omega (arith, same, inside), omega (arith, same, inside)), tt)
  true_so operator w h = tt

  false_so : (operator : BinaryOperator) (w : _) (greatest : ℕ) → slice_index (m x) 0 ≤ greatest
      → operated operator w (slice_index (m x) 0) b ≡ 0
      → AreSo m (option_to_list (said_where_false operator x greatest e))
  false_so Less w greatest most h =
      let t = is_false (nat_lt (slice_index (m x) 0) b) h in
      let more : b ≤ slice_index (m x) 0 = grind (arith, nat_tests, t) in
      ((omega (arith, more, inside), most), tt)
  false_so LessOrEqual w greatest most h = by (nat_lt e.low greatest)
    where
      more : b < slice_index (m x) 0
      more = let t = is_false (nat_le (slice_index (m x) 0) b) h in grind (arith, nat_tests, t)

      by : (c : Bool) → AreSo m (option_to_list (if c then says x (e.low + 1) greatest else None))
      by true = ((omega (arith, more, inside), most), tt)
      by false = tt
  false_so operator w greatest most h = tt

-- Conditions.

is_both_alone : (operator : BinaryOperator) → is_both operator ≡ true → operator ≡ LogicalAnd
is_both_alone LogicalAnd is = refl
is_both_alone operator is = absurd cc

named_variable : (e : TermTree) (x : ℕ) → named e ≡ Some x → e ≡ variable x
named_variable (variable y) x is = ap variable (same_Some y x is)
named_variable other x is = absurd (none-some x is)

module _ (declared : List FlatVariable) (types : Types) (bounds : Bounds) (m : Values)
    (holds : BoundsHold declared types bounds m) where
  public_value : {profile : Profile} {x v : ℕ} {p : Path} {w : WordType}
      → LooselyComes (types_of profile declared) m (variable x) v p → TermHasType types (variable x) w
      → w.label ≡ Public
      → v ≡ slice_index (m x) 0
  public_value to_variable t public = refl
  public_value {w = w} (to_anything {word = word} c t secret within) u public =
      absurd (secret_is_not w word (one_type declared types holds.listed u t) public secret)

  named_value : {profile : Profile} {e : TermTree} {v : ℕ} {p : Path} {w : WordType}
      → LooselyComes (types_of profile declared) m e v p → TermHasType types e w → w.label ≡ Public → (x : ℕ)
      → named e ≡ Some x
      → v ≡ slice_index (m x) 0
  named_value {profile = profile} {e = e} {v = v} {p = p} {w = w} c t public x is =
      let same = named_variable e x is in
      public_value (rw same at c) (rw same at t) public

  greatest_value : {x : ℕ} {w : WordType} → TermHasType types (variable x) w
      → slice_index (m x) 0 ≤ (full_at declared x).high
  greatest_value {x = x} (of_variable {word = word} {mutable = mutable} is) =
      (full_of_variable declared types bounds m holds x (slice_index (m x) 0) (word_as word mutable) is
      (element_of declared types bounds m holds x 0 (word_as word mutable) is)).1

  comparison_true : (operator : BinaryOperator) (w : _) (o : Option ℕ) (e : Interval) (a b : ℕ)
      → ((x : ℕ) → o ≡ Some x → a ≡ slice_index (m x) 0) → IsIn e b
      → operated operator w a b ≢ 0 → AreSo m (option_to_list (told_where_true operator o e))
  comparison_true operator w None e a b value inside h = tt
  comparison_true operator w (Some x) e a b value inside h =
      true_so m x b e inside operator w (rw (value x refl) at h)

  comparison_false : (operator : BinaryOperator) (w : _) (o : Option ℕ) (e : Interval) (a b : ℕ)
      → ((x : ℕ) → o ≡ Some x → (a ≡ slice_index (m x) 0) × (slice_index (m x) 0 ≤ (full_at declared x).high))
      → IsIn e b
      → operated operator w a b ≡ 0 → AreSo m (option_to_list (told_where_false declared operator o e))
  comparison_false operator w None e a b value inside h = tt
  comparison_false operator w (Some x) e a b value inside h =
      false_so m x b e inside operator w (full_at declared x).high (value x refl).1
      (rw (value x refl).0 at h)

  condition_true : {profile : Profile} {e : TermTree} {v : ℕ} {p : Path} {w : WordType}
      → LooselyComes (types_of profile declared) m e v p → TermHasType types e w → w.label ≡ Public → v ≢ 0
      → AreSo m (told_true declared bounds e)
  condition_true (to_binary {operator = operator} {width = width} {left = left} {right = right} {a = a} {b = b} c d)
      (of_binary t u makes same) public h =
      let labels = both_public makes public in
      elim (cases_Bool (is_both operator)) [
        | inl is ↦ (
            let truths = and_parts (truth_of a) (truth_of b) (is_true (truth_of a && truth_of b)
            (rw (is_both_alone operator is) at h)) in
            rw is (so_both m (told_true declared bounds left) (told_true declared bounds right)
            (condition_true c t labels.0 (not_zero a truths.0)) (condition_true d u labels.1 (not_zero b truths.1))))
        | inr other ↦ rw other (comparison_true operator width (named left) (interval declared bounds right) a b
            (named_value c t labels.0) (loose_in declared types bounds m holds d u labels.1) h)
      ]
  condition_true {w = w} (to_anything {word = word} c t secret within) u public h =
      absurd (secret_is_not w word (one_type declared types holds.listed u t) public secret)
  condition_true other t public h = tt

  condition_false : {profile : Profile} {e : TermTree} {v : ℕ} {p : Path} {w : WordType}
      → LooselyComes (types_of profile declared) m e v p → TermHasType types e w → w.label ≡ Public → v ≡ 0
      → AreSo m (option_to_list (told_false declared bounds e))
  condition_false (to_binary {operator = operator} {width = width} {left = left} {right = right} {a = a} {b = b} c d)
      (of_binary {one = one} t u makes same) public h =
      let labels = both_public makes public in
      comparison_false operator width (named left) (interval declared bounds right) a b
      (λ x is. (
        named_value c t labels.0 x is,
        greatest_value (rw (named_variable left x is) at t),
      ))
      (loose_in declared types bounds m holds d u labels.1) h
  condition_false {w = w} (to_anything {word = word} c t secret within) u public h =
      absurd (secret_is_not w word (one_type declared types holds.listed u t) public secret)
  condition_false other t public h = tt

  -- what is known in an arm holds where a run takes it
  pub holds_where_true : (label : Label) {profile : Profile} {e : TermTree} {v : ℕ} {p : Path} {w : WordType}
      → LooselyComes (types_of profile declared) m e v p → TermHasType types e w → w.label ≡ label → v ≢ 0
      → BoundsHold declared types (where_true declared bounds label e) m
  holds_where_true Public {e = e} c t public h = record {
    fits = holds.fits;
    kept = all_kept types m (told_true declared bounds e) bounds holds.kept (condition_true c t public h);
    listed = holds.listed;
  }
  holds_where_true Secret c t label h = holds

  pub holds_where_false : (label : Label) {profile : Profile} {e : TermTree} {v : ℕ} {p : Path} {w : WordType}
      → LooselyComes (types_of profile declared) m e v p → TermHasType types e w → w.label ≡ label → v ≡ 0
      → BoundsHold declared types (where_false declared bounds label e) m
  holds_where_false Public {e = e} c t public h = record {
    fits = holds.fits;
    kept = all_kept types m (option_to_list (told_false declared bounds e)) bounds holds.kept
        (condition_false c t public h);
    listed = holds.listed;
  }
  holds_where_false Secret c t label h = holds
