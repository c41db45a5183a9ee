-- Where two states hold the same in public variables, a public expression has one value in both, and of the path of
-- any expression the same is seen. Where they hold the same in all variables, any expression has one value and one
-- path.
use Rattle.std.proofs.Common.{◌≡◌, ◌≢◌, ℕ, ◌==◌, List, [], ◌∷◌, ◌++◌, map, if◌then◌else◌, slice_index, Option, None}
use Rattle.std.proofs.Common.{Some, refl, ap, ap₂, ◌∙◌, true≢false}
use Rattle.std.specs.Option.{option_map}
use Rattle.word.specs.Operators.{converted, rotated_left}
use Rattle.branch_removal.specs.Below.{AllSuit, BinaryOperator, both_public as public_factors, divided}
use Rattle.branch_removal.specs.Below.{division as divides_public, TermHasType, indexed, is_secret, IsResult, joined}
use Rattle.branch_removal.specs.Below.{Label, Makes, marks_of, multiplication, multiplied, of_binary, of_conversion}
use Rattle.branch_removal.specs.Below.{of_element, of_number, of_prefix, of_rotation, of_selection, of_truth}
use Rattle.branch_removal.specs.Below.{of_variable, operated, operation_of, P1, P2, Path, path_in, path_in_all}
use Rattle.branch_removal.specs.Below.{path_of_result, Place, prefix_value, Profile, Public, Secret, seen, TermSuits}
use Rattle.branch_removal.specs.Below.{TermTree, Types, value_in, Values, width_of, WordType}
use Rattle.language.specs.declared.operators.BinaryOperator.TheVariants.{Multiply}
use Rattle.language.specs.declared.operators.BinaryOperator.TheVariants.{Divide, HighProduct, Remainder}
use Rattle.language.specs.declared.operation.Operation.{Operation}
use Rattle.intervals.proofs.LooseTypes.{joined_public}
use Rattle.branch_removal.proofs.SeenLemmas.{both_seen}
use Rattle.branch_removal.proofs.Agreement.{Agree, everything, what_is_public}

pub secret≢public : Secret ≢ Public
secret≢public h = true≢false (ap is_secret h)

-- of two operations the same is seen where their public operands are the same: what an observer sees of an operation
-- is public
same_marks : (profile : Profile) (place : Place) (operator : BinaryOperator) {one other whole : WordType}
    → Makes profile (operation_of operator) one other whole
    → (a b c d : ℕ) → (one.label ≡ Public → a ≡ c) → (other.label ≡ Public → b ≡ d)
    → seen profile (marks_of place operator a b) ≡ seen profile (marks_of place operator c d)
same_marks P1 place Multiply makes a b c d left right = refl
same_marks P2 place Multiply (multiplication numeric public_factors) a b c d left right =
    ap₂ (λ u v. multiplied u v ∷ []) (left refl) (right refl)
same_marks P1 place HighProduct makes a b c d left right = refl
same_marks P2 place HighProduct (multiplication numeric public_factors) a b c d left right =
    ap₂ (λ u v. multiplied u v ∷ []) (left refl) (right refl)
same_marks profile place Divide (divides_public numeric) a b c d left right =
    ap₂ (λ u v. divided place u v ∷ []) (left refl) (right refl)
same_marks profile place Remainder (divides_public numeric) a b c d left right =
    ap₂ (λ u v. divided place u v ∷ []) (left refl) (right refl)
same_marks profile place operator makes a b c d left right = refl

-- What is looked at goes by labels: by all of them, or by the public one alone.
module _ (types : Types) (one other : Values) where
  module _ (Asked : Label → Type 0) (public : Asked Public)
      (both : (m n : Label) → Asked (joined m n) → Asked m × Asked n)
      (flows : (wanted label : Label) → (wanted ≡ Public → label ≡ Public) → Asked wanted → Asked label)
      (agree : Agree (λ d. Asked d.word.label) types one other) where
    -- what is made of two words is asked only where both are
    asked_operands : {profile : Profile} {operation : Operation} {a b whole : WordType}
        → Makes profile operation a b whole → Asked whole.label → Asked a.label × Asked b.label
    asked_operands (divides_public numeric) label = (public, public)
    asked_operands makes label = both _ _ label

    same_value : {e : TermTree} {whole : WordType} → TermHasType types e whole → Asked whole.label
        → value_in one e ≡ value_in other e
    same_value (of_number below) label = refl
    same_value of_truth label = refl
    same_value (of_variable {x = x} is) label = ap (λ numbers. slice_index numbers 0) (agree x _ is label)
    same_value (of_prefix {operator = operator} {width = width} has takes even) label =
        ap (prefix_value operator width) (same_value has label)
    same_value (of_binary {operator = operator} {width = width} has more makes even) label =
        let labels = asked_operands makes label in
        ap₂ (operated operator width) (same_value has labels.0) (same_value more labels.1)
    same_value (of_rotation {width = width} {amount = amount} has numeric low high even) label =
        ap (λ v. rotated_left width v amount) (same_value has label)
    same_value (of_conversion {kind = kind} has numeric) label =
        ap (converted (width_of kind)) (same_value has label)
    same_value (of_selection {condition = condition} {accepted = accepted} {otherwise = otherwise} {l = l} {m =
        m} {n = n} chooser has more) label =
        let outer = both l (joined m n) label in
        let labels = both m n outer.1 in
        ap (λ z. if z == 0 then value_in one otherwise else value_in one accepted) (same_value chooser outer.0)
        ∙ ap₂ (λ z u. if value_in other condition == 0 then z else u) (same_value more labels.1)
        (same_value has labels.0)
    same_value (of_element {x = x} is index) label = ap₂ slice_index (agree x _ is label) (same_value index public)

    same_values : (wanted : WordType) (es : List TermTree) → AllSuit types wanted es → Asked wanted.label
        → map (value_in one) es ≡ map (value_in other) es
    same_values wanted [] suits label = refl
    same_values wanted (e ∷ es) suits label =
        ap₂ (λ (v : ℕ) (vs : List ℕ). v ∷ vs) (same_value suits.0.has_type (flows _ _ suits.0.label label))
        (same_values wanted es suits.1 label)

  module _ (agree : Agree what_is_public types one other) where
    pub public_value : {e : TermTree} {whole : WordType} → TermHasType types e whole → whole.label ≡ Public
        → value_in one e ≡ value_in other e
    public_value has label =
        same_value (λ l. l ≡ Public) refl joined_public (λ wanted label flow. flow) agree has label

    -- so does what suits where a public value is wanted
    pub public_suited : (wanted : WordType) (e : TermTree) → TermSuits types wanted e → wanted.label ≡ Public
        → value_in one e ≡ value_in other e
    public_suited wanted e suits label = public_value suits.has_type (suits.label label)

    pub public_all : (wanted : WordType) (es : List TermTree) → AllSuit types wanted es → wanted.label ≡ Public
        → map (value_in one) es ≡ map (value_in other) es
    public_all wanted es suits label =
        same_values (λ l. l ≡ Public) refl joined_public (λ wanted label flow. flow) agree wanted es suits label

    -- what is seen of the path is public
    pub one_seen : {e : TermTree} {whole : WordType} → TermHasType types e whole
        → seen types.profile (path_in one e) ≡ seen types.profile (path_in other e)
    one_seen (of_number below) = refl
    one_seen of_truth = refl
    one_seen (of_variable is) = refl
    one_seen (of_prefix has takes even) = one_seen has
    one_seen (of_binary {place = place} {operator = operator} {left = left} {right = right} has more makes even) =
        let a = value_in one left in
        let b = value_in one right in
        let c = value_in other left in
        let d = value_in other right in
        both_seen types.profile (path_in one left ++ path_in one right) (marks_of place operator a b)
        (path_in other left ++ path_in other right) (marks_of place operator c d)
        (both_seen types.profile (path_in one left) (path_in one right) (path_in other left) (path_in other right)
        (one_seen has) (one_seen more))
        (same_marks types.profile place operator makes a b c d (λ label. public_value has label)
        (λ label. public_value more label))
    one_seen (of_rotation has numeric low high even) = one_seen has
    one_seen (of_conversion has numeric) = one_seen has
    one_seen (of_selection {condition = condition} {accepted = accepted} {otherwise = otherwise} chooser has more) =
        both_seen types.profile (path_in one condition ++ path_in one accepted) (path_in one otherwise)
        (path_in other condition ++ path_in other accepted) (path_in other otherwise)
        (both_seen types.profile (path_in one condition) (path_in one accepted) (path_in other condition)
        (path_in other accepted) (one_seen chooser) (one_seen has))
        (one_seen more)
    one_seen (of_element {place = place} {size = size} {index = index} is has) =
        both_seen types.profile (path_in one index) (indexed place size (value_in one index) ∷ [])
        (path_in other index) (indexed place size (value_in other index) ∷ [])
        (one_seen has) (ap (λ i. indexed place size i ∷ []) (public_value has refl))

    pub all_seen : (wanted : WordType) (es : List TermTree) → AllSuit types wanted es
        → seen types.profile (path_in_all one es) ≡ seen types.profile (path_in_all other es)
    all_seen wanted [] suits = refl
    all_seen wanted (e ∷ es) suits =
        both_seen types.profile (path_in one e) (path_in_all one es) (path_in other e) (path_in_all other es)
        (one_seen suits.0.has_type) (all_seen wanted es suits.1)

    pub result_seen : (returned : Option WordType) (value : Option TermTree) → IsResult types returned value
        → seen types.profile (path_of_result one value) ≡ seen types.profile (path_of_result other value)
    result_seen None None result = refl
    result_seen (Some word) (Some value) result = one_seen result.has_type
    result_seen returned value result = absurd result

  module _ (agree : Agree everything types one other) where
    pub one_value : {e : TermTree} {whole : WordType} → TermHasType types e whole → value_in one e ≡ value_in other e
    one_value has = same_value (λ l. Unit {0}) tt (λ m n asked. (tt, tt)) (λ wanted label flow asked. tt) agree has tt

    pub all_values : (wanted : WordType) (es : List TermTree) → AllSuit types wanted es
        → map (value_in one) es ≡ map (value_in other) es
    all_values wanted es suits =
        same_values (λ l. Unit {0}) tt (λ m n asked. (tt, tt)) (λ wanted label flow asked. tt) agree wanted es suits tt

    -- and any expression one path
    pub one_path : {e : TermTree} {whole : WordType} → TermHasType types e whole → path_in one e ≡ path_in other e
    one_path (of_number below) = refl
    one_path of_truth = refl
    one_path (of_variable is) = refl
    one_path (of_prefix has takes even) = one_path has
    one_path (of_binary {place = place} {operator = operator} has more makes even) =
        ap₂ (λ (p q : Path). p ++ q) (ap₂ (λ (p q : Path). p ++ q) (one_path has) (one_path more))
        (ap₂ (marks_of place operator) (one_value has) (one_value more))
    one_path (of_rotation has numeric low high even) = one_path has
    one_path (of_conversion has numeric) = one_path has
    one_path (of_selection chooser has more) =
        ap₂ (λ (p q : Path). p ++ q) (ap₂ (λ (p q : Path). p ++ q) (one_path chooser) (one_path has)) (one_path more)
    one_path (of_element {place = place} {size = size} is index) =
        ap₂ (λ (p : Path) (i : ℕ). p ++ indexed place size i ∷ []) (one_path index) (one_value index)

    pub one_path_all : (wanted : WordType) (es : List TermTree) → AllSuit types wanted es
        → path_in_all one es ≡ path_in_all other es
    one_path_all wanted [] suits = refl
    one_path_all wanted (e ∷ es) suits =
        ap₂ (λ (p q : Path). p ++ q) (one_path suits.0.has_type) (one_path_all wanted es suits.1)

    pub one_result : (returned : Option WordType) (value : Option TermTree) → IsResult types returned value
        → option_map (value_in one) value ≡ option_map (value_in other) value
    one_result None None result = refl
    one_result (Some word) (Some value) result = ap Some (one_value result.has_type)
    one_result returned value result = absurd result
