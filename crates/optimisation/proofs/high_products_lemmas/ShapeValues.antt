-- The value of an expression that is the upper word of a product: what its operators make of the halves of two words,
-- which are of 32 bits where the variables hold what they are declared as.
use Rattle.std.proofs.Common.{◌≡◌, ℕ, ◌^◌, ◌==◌, ◌<◌, ◌&&◌, Bool, true, false, if◌then◌else◌, bit_and, Option, None}
use Rattle.std.proofs.Common.{Some, option_and_then, slice_index, refl, sym, ap, ◌∙◌, subst}
use Rattle.std.proofs.lemmas.Bool.{and_parts, eqb-true, false≢true}
use Rattle.std.proofs.lemmas.Option.{none-some, same_Some}
use Rattle.std.specs.Bool.{then_some}
use Rattle.word.specs.Operators.{product, sum}
use Rattle.language.specs.Operators.{high_product}
use Rattle.inline.proofs.Fitting.{value_fits}
use Rattle.optimisation.specs.Below.{Add, binary, BinaryOperator, BitAnd, bits, Fits, Multiply, number, of_binary}
use Rattle.optimisation.specs.Below.{of_variable, operated, shifted_right, ShiftRight, TermHasType, TermTree, Types}
use Rattle.optimisation.specs.Below.{value_in, Values, variable, W32, Width, WordType}
use Rattle.optimisation.specs.constants.private.Fields.{is_bit_and, is_shift_right}
use Rattle.optimisation.specs.constants.private.Simplification.{variable_of}
use Rattle.optimisation.specs.declared.high_products.shapes.Factors.{Factors}
use Rattle.optimisation.specs.declared.high_products.shapes.Half.{Half}
use Rattle.optimisation.specs.declared.high_products.shapes.Half.TheVariants.{High, Low}
use Rattle.optimisation.specs.high_products.private.Shapes.{factors, high_half, is_add, is_carry, is_first_sum}
use Rattle.optimisation.specs.high_products.private.Shapes.{is_found}
use Rattle.optimisation.specs.high_products.private.Shapes.{is_half, is_lower, is_multiply, is_number, is_operation}
use Rattle.optimisation.specs.high_products.private.Shapes.{is_product, is_second_sum, is_upper, low_half, of_product}
use Rattle.optimisation.specs.high_products.private.Shapes.{of_sum, of_three, of_two, Shape, upper_word}
use Rattle.optimisation.proofs.constants_lemmas.Bounded.{within_32}
use Rattle.optimisation.proofs.high_products_lemmas.Products as products

-- What tests tell.

adds : (o : BinaryOperator) → is_add o ≡ true → o ≡ Add
adds Add is = refl
adds o is = absurd (false≢true is)

multiplied : (o : BinaryOperator) → is_multiply o ≡ true → o ≡ Multiply
multiplied Multiply is = refl
multiplied o is = absurd (false≢true is)

moves : (o : BinaryOperator) → is_shift_right o ≡ true → o ≡ ShiftRight
moves ShiftRight is = refl
moves o is = absurd (false≢true is)

masks : (o : BinaryOperator) → is_bit_and o ≡ true → o ≡ BitAnd
masks BitAnd is = refl
masks o is = absurd (false≢true is)

is_wide : (w : Width) → (bits w == 32) ≡ true → w ≡ W32
is_wide W32 is = refl
is_wide w is = absurd (false≢true is)

is_variable : (e : TermTree) (x : ℕ) → variable_of e ≡ Some x → e ≡ variable x
is_variable (variable y) x is = ap variable (same_Some y x is)
is_variable e x is = absurd (none-some x is)

found_where : {A : Type 0} (b : Bool) (o : Option A) (r : A) → (if b then o else None) ≡ Some r
    → (b ≡ true) × (o ≡ Some r)
found_where true o r is = (refl, is)
found_where false o r is = absurd (none-some r is)

found_one : (x : ℕ) (o : Option ℕ) → is_found x o ≡ true → o ≡ Some x
found_one x None is = absurd (false≢true is)
found_one x (Some y) is = ap Some (eqb-true y x is)

found_both : (a b : Option ℕ) (f : Factors) → factors a b ≡ Some f → (a ≡ Some f.one) × (b ≡ Some f.other)
found_both (Some x) (Some y) f is =
    let same = same_Some (record { one = x; other = y }) f is in
    (ap (λ (g : Factors). Some g.one) same, ap (λ (g : Factors). Some g.other) same)
found_both (Some x) None f is = absurd (none-some f is)
found_both None b f is = absurd (none-some f is)

-- factors that were found, and pass a test
found_also : (test : Factors → Bool) (o : Option Factors) (f : Factors)
    → option_and_then (λ g. then_some (test g) g) o ≡ Some f → (o ≡ Some f) × (test f ≡ true)
found_also test None f is = absurd (none-some f is)
found_also test (Some g) f is = by_test (test g) refl is
  where
    by_test : (b : Bool) → test g ≡ b → then_some b g ≡ Some f → (Some g ≡ Some f) × (test f ≡ true)
    by_test true passes same = (same, subst (λ (h : Factors). test h ≡ true) (same_Some g f same) passes)
    by_test false fails same = absurd (none-some f same)

-- the operands of a sum, the first of which has factors
record IsSum (found : TermTree → Option Factors) (also : Factors → Shape) (o : BinaryOperator) (width : Width)
    (left right : TermTree) (f : Factors) : Type 0 where
  operator : o ≡ Add
  wide : width ≡ W32
  first : found left ≡ Some f
  second : also f right ≡ true

is_sum : (found : TermTree → Option Factors) (also : Factors → Shape) (o : BinaryOperator) (width : Width)
    (left right : TermTree) (f : Factors)
    → (if is_add o && (bits width == 32) then option_and_then (λ g. then_some (also g right) g) (found left) else None)
    ≡ Some f
    → IsSum found also o width left right f
is_sum found also o width left right f is =
    let got = found_where (is_add o && (bits width == 32)) _ f is in
    let test = and_parts (is_add o) (bits width == 32) got.0 in
    let operands = found_also (λ g. also g right) (found left) f got.1 in
    record { operator = adds o test.0; wide = is_wide width test.1; first = operands.0; second = operands.1 }

-- Values.

module _ (m : Values) where
  abbrev word_in : ℕ → ℕ
  word_in x = slice_index (m x) 0

  abbrev half_of : Half → ℕ
  half_of (High x) = shifted_right W32 (word_in x) 16
  half_of (Low x) = bit_and (word_in x) 65535

  -- what passes a test has this value
  abbrev Means : Shape → ℕ → Type 0
  Means shape v = (e : TermTree) → shape e ≡ true → value_in m e ≡ v

  -- what has factors has this value of them
  abbrev Gives : (TermTree → Option Factors) → (Factors → ℕ) → Type 0
  Gives found v = (e : TermTree) (f : Factors) → found e ≡ Some f → value_in m e ≡ v f

  operation_means : (is : BinaryOperator → Bool) (operator : BinaryOperator)
      → ((o : BinaryOperator) → is o ≡ true → o ≡ operator) → (one other : Shape) (v w : ℕ) → Means one v
      → Means other w → Means (is_operation is one other) (operated operator W32 v w)
  operation_means is operator only one other v w first second (binary place o width left right) passes =
      let all = and_parts (is o && (bits width == 32) && one left) (other right) passes in
      let front = and_parts (is o && (bits width == 32)) (one left) all.0 in
      let test = and_parts (is o) (bits width == 32) front.0 in
      rw (only o test.0, is_wide width test.1, first left front.1, second right all.1) refl
  operation_means is operator only one other v w first second e passes = absurd (false≢true passes)

  number_means : (n : ℕ) → Means (is_number n) n
  number_means n (number value kind) is = eqb-true value n is
  number_means n e is = absurd (false≢true is)

  high_gives : (e : TermTree) (x : ℕ) → high_half e ≡ Some x → value_in m e ≡ half_of (High x)
  high_gives (binary place o width left right) x is =
      let found = found_where (is_shift_right o && (bits width == 32) && is_number 16 right) (variable_of left) x is in
      let all = and_parts (is_shift_right o && (bits width == 32)) (is_number 16 right) found.0 in
      let test = and_parts (is_shift_right o) (bits width == 32) all.0 in
      rw (moves o test.0, is_wide width test.1, is_variable left x found.1, number_means 16 right all.1) refl
  high_gives e x is = absurd (none-some x is)

  low_gives : (e : TermTree) (x : ℕ) → low_half e ≡ Some x → value_in m e ≡ half_of (Low x)
  low_gives (binary place o width left right) x is =
      let found = found_where (is_bit_and o && (bits width == 32) && is_number 65535 right) (variable_of left) x is in
      let all = and_parts (is_bit_and o && (bits width == 32)) (is_number 65535 right) found.0 in
      let test = and_parts (is_bit_and o) (bits width == 32) all.0 in
      rw (masks o test.0, is_variable left x found.1, number_means 65535 right all.1) refl
  low_gives e x is = absurd (none-some x is)

  half_means : (h : Half) → Means (is_half h) (half_of h)
  half_means (High x) e is = high_gives e x (found_one x (high_half e) is)
  half_means (Low x) e is = low_gives e x (found_one x (low_half e) is)

  -- products of halves, and their halves

  abbrev product_of : Half → Half → ℕ
  product_of one other = product W32 (half_of one) (half_of other)

  product_means : (one other : Half) → Means (is_product one other) (product_of one other)
  product_means one other = operation_means is_multiply Multiply multiplied (is_half one) (is_half other) (half_of one)
      (half_of other) (half_means one) (half_means other)

  upper_means : (one other : Half) → Means (is_upper one other) (shifted_right W32 (product_of one other) 16)
  upper_means one other = operation_means is_shift_right ShiftRight moves (is_product one other) (is_number 16)
      (product_of one other) 16 (product_means one other) (number_means 16)

  lower_means : (one other : Half) → Means (is_lower one other) (bit_and (product_of one other) 65535)
  lower_means one other = operation_means is_bit_and BitAnd masks (is_product one other) (is_number 65535)
      (product_of one other) 65535 (product_means one other) (number_means 65535)

  -- what is carried

  abbrev first_sum : Factors → ℕ
  first_sum f = sum W32 (shifted_right W32 (product_of (Low f.one) (Low f.other)) 16)
      (bit_and (product_of (High f.one) (Low f.other)) 65535)

  abbrev second_sum : Factors → ℕ
  second_sum f = sum W32 (first_sum f) (bit_and (product_of (Low f.one) (High f.other)) 65535)

  first_means : (f : Factors) → Means (is_first_sum f) (first_sum f)
  first_means f =
      operation_means is_add Add adds (is_upper (Low f.one) (Low f.other)) (is_lower (High f.one) (Low f.other)) _ _
      (upper_means (Low f.one) (Low f.other)) (lower_means (High f.one) (Low f.other))

  second_means : (f : Factors) → Means (is_second_sum f) (second_sum f)
  second_means f =
      operation_means is_add Add adds (is_first_sum f) (is_lower (Low f.one) (High f.other)) (first_sum f) _
      (first_means f) (lower_means (Low f.one) (High f.other))

  carry_means : (f : Factors) → Means (is_carry f) (shifted_right W32 (second_sum f) 16)
  carry_means f = operation_means is_shift_right ShiftRight moves (is_second_sum f) (is_number 16) (second_sum f) 16
      (second_means f) (number_means 16)

  -- the sums from the first product on

  product_gives : Gives of_product (λ f. product_of (High f.one) (High f.other))
  product_gives (binary place o width left right) f is =
      let got = found_where (is_multiply o && (bits width == 32)) (factors (high_half left) (high_half right)) f is in
      let test = and_parts (is_multiply o) (bits width == 32) got.0 in
      let both = found_both (high_half left) (high_half right) f got.1 in
      rw (
        multiplied o test.0,
        is_wide width test.1,
        high_gives left f.one both.0,
        high_gives right f.other both.1,
      ) refl
  product_gives e f is = absurd (none-some f is)

  sum_gives : (found : TermTree → Option Factors) (also : Factors → Shape) (v w : Factors → ℕ) → Gives found v
      → ((f : Factors) → Means (also f) (w f)) → Gives (of_sum found also) (λ f. sum W32 (v f) (w f))
  sum_gives found also v w first second (binary place o width left right) f is =
      let parts = is_sum found also o width left right f is in
      rw (parts.operator, parts.wide, first left f parts.first, second f right parts.second) refl
  sum_gives found also v w first second e f is = absurd (none-some f is)

  upper_word_gives : Gives upper_word (λ f. products.of_halves (half_of (High f.one)) (half_of (Low f.one))
      (half_of (High f.other)) (half_of (Low f.other)))
  upper_word_gives =
      sum_gives of_three is_carry _ _
      (sum_gives of_two (λ f. is_upper (Low f.one) (High f.other)) _ _
      (sum_gives of_product (λ f. is_upper (High f.one) (Low f.other)) _ _ product_gives
      (λ f. upper_means (High f.one) (Low f.other)))
      (λ f. upper_means (Low f.one) (High f.other)))
      carry_means

  module _ (types : Types) (fits : Fits types m) where
    variable_below : (e : TermTree) {word : WordType} → TermHasType types e word → (x : ℕ)
        → variable_of e ≡ Some x → word_in x < 2 ^ 32
    variable_below (variable y) (of_variable {word = word} {mutable = mutable} there) x is =
        subst (λ z. word_in z < 2 ^ 32) (same_Some y x is)
        (within_32 word.kind (word_in y) (value_fits types m fits (of_variable {mutable = mutable} there)))
    variable_below e has x is = absurd (none-some x is)

    high_below : (e : TermTree) {word : WordType} → TermHasType types e word → (x : ℕ) → high_half e ≡ Some x
        → word_in x < 2 ^ 32
    high_below (binary place o width left right) (of_binary has more makes even) x is =
        let test = is_shift_right o && (bits width == 32) && is_number 16 right in
        variable_below left has x (found_where test (variable_of left) x is).1
    high_below e has x is = absurd (none-some x is)

    -- the factors of a well-typed expression are words of 32 bits
    abbrev HasWords : (TermTree → Option Factors) → Type 0
    HasWords found =
        (e : TermTree) (word : WordType) → TermHasType types e word → (f : Factors) → found e ≡ Some f
        → (word_in f.one < 2 ^ 32) × (word_in f.other < 2 ^ 32)

    product_has : HasWords of_product
    product_has (binary place o width left right) word (of_binary has more makes even) f is =
        let got = found_where (is_multiply o && (bits width == 32)) (factors (high_half left) (high_half right)) f is in
        let both = found_both (high_half left) (high_half right) f got.1 in
        (high_below left has f.one both.0, high_below right more f.other both.1)
    product_has e word has f is = absurd (none-some f is)

    sum_has : (found : TermTree → Option Factors) (also : Factors → Shape) → HasWords found
        → HasWords (of_sum found also)
    sum_has found also known (binary place o width left right) word (of_binary {one = one} has more makes even) f is =
        known left one has f (is_sum found also o width left right f is).first
    sum_has found also known e word has f is = absurd (none-some f is)

    upper_word_has : HasWords upper_word
    upper_word_has =
        sum_has of_three is_carry
        (sum_has of_two (λ f. is_upper (Low f.one) (High f.other))
        (sum_has of_product (λ f. is_upper (High f.one) (Low f.other)) product_has))

    -- the operator has the value that the expression has
    pub same_value : (e : TermTree) (word : WordType) → TermHasType types e word → (f : Factors)
        → upper_word e ≡ Some f
        → high_product (slice_index (m f.one) 0) (slice_index (m f.other) 0) ≡ value_in m e
    same_value e word has f is =
        let words = upper_word_has e word has f is in
        sym (upper_word_gives e f is ∙ products.upper_word (word_in f.one) (word_in f.other) words.0 words.1)
