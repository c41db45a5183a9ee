-- A well-typed expression's value is within its kind.
use Rattle.std.proofs.Common.{ℕ, ◌*◌, ◌^◌, ◌<◌, ◌==◌, ◌&&◌, ◌||◌, Bool, true, false, not, nat_lt, nat_le}
use Rattle.std.proofs.Common.{if◌then◌else◌, List}
use Rattle.std.proofs.Common.{length, All, slice_index, ⊎_elim, arith}
use Rattle.std.proofs.lemmas.Nat.{div_below, mul-lt, or_lt, pow_pos, xor_lt}
use Rattle.std.specs.Int.Bits.{and_lt}
use Rattle.std.proofs.Math.Nat.{div-le_self, mod-le}
use Rattle.std.proofs.lemmas.Bool.{cases_lt}
use Rattle.std.proofs.lemmas.List.{get_or_past}
use Rattle.inline.specs.Below.{arithmetic, BinaryOperator, Boolean, complemented, division, equality, IsNumberKind}
use Rattle.inline.specs.Below.{high_product, Kind, logic, Makes, multiplication, operated, operation_of, order}
use Rattle.inline.specs.Below.{prefix_value}
use Rattle.inline.specs.Below.{PrefixOperator, Profile, quotient, remainder, shift, Takes, truth_of, Width, width_of}
use Rattle.inline.specs.Below.{word_of, WordType, wrapped}
use Rattle.word.specs.declared.width.Width.TheVariants.{W8, W16, W32}
use Rattle.word.specs.Widths.{bits, IsWord}
use Rattle.inline.specs.Fitting.{IsWithinKind, Fits}
use Rattle.inline.specs.Flat.{TermTree, word_as, array_as}
use Rattle.inline.specs.FlatMeaning.{Values, value_in}
use Rattle.inline.specs.FlatTyping.{Types, TermHasType, of_number, of_truth, of_variable, of_prefix, of_binary}
use Rattle.inline.specs.FlatTyping.{of_rotation, of_conversion, of_selection, of_element, TermSuits}
use Rattle.language.specs.declared.operators.BinaryOperator.TheVariants.{LogicalOr, LogicalAnd, Equal, Unequal, Less}
use Rattle.language.specs.declared.operators.BinaryOperator.TheVariants.{LessOrEqual, Greater, GreaterOrEqual, BitOr}
use Rattle.language.specs.declared.operators.BinaryOperator.TheVariants.{BitXor, BitAnd, ShiftLeft, ShiftRight, Add}
use Rattle.language.specs.declared.operators.BinaryOperator.TheVariants.{Subtract, Multiply, Divide, Remainder}
use Rattle.language.specs.declared.operators.BinaryOperator.TheVariants.{HighProduct}
use Rattle.language.specs.declared.operators.PrefixOperator.TheVariants.{Not, Complement, Negate}

-- Words.

pub some_bit : (k : Kind) → IsWithinKind k 0
some_bit Boolean = omega arith
some_bit other = omega arith

pub bit_fits : (b : Bool) → word_of b < 2
bit_fits true = omega arith
bit_fits false = omega arith

-- a number of a kind has its kind's bits
pub number_fits : (k : Kind) (v : ℕ) → IsNumberKind k → IsWord (width_of k) v → IsWithinKind k v
number_fits Boolean v numeric h = absurd numeric
number_fits other v numeric h = h

pub wrapped_fits : (w : Width) (n : ℕ) → IsWord w (wrapped w n)
wrapped_fits W8 n = omega arith
wrapped_fits other n = omega arith

pub complement_fits : (w : Width) (n : ℕ) → IsWord w (complemented w n)
complement_fits W8 n = omega arith
complement_fits other n = omega arith

pub fits_number : (k : Kind) (v : ℕ) → IsNumberKind k → IsWithinKind k v → IsWord (width_of k) v
fits_number Boolean v numeric h = absurd numeric
fits_number other v numeric h = h

quotient_fits : (w : Width) (a b : ℕ) → IsWord w a → IsWord w (quotient a b)
quotient_fits w a b low = omega (arith, div-le_self a b)

remainder_fits : (w : Width) (a b : ℕ) → IsWord w a → IsWord w (remainder a b)
remainder_fits w a b low = omega (arith, mod-le a b)

word_below : (w : Width) (a : ℕ) → IsWord w a → a < 2 ^ 32
word_below W8 a low = omega (arith, low)
word_below W16 a low = omega (arith, low)
word_below W32 a low = low

high_product_fits : (w : Width) (a b : ℕ) → IsWord w a → IsWord w b → IsWord w (high_product a b)
high_product_fits w a b low high =
    div_below (a * b) (2 ^ 32) (2 ^ bits w) (pow_pos 32) (mul-lt a b (2 ^ bits w) (2 ^ 32) low (word_below w b high))

-- Operators.

pub prefix_fits : (operator : PrefixOperator) (k : Kind) (a : ℕ) → Takes operator k
    → IsWithinKind k (prefix_value operator (width_of k) a)
prefix_fits Not k a is = rw is (bit_fits (not (truth_of a)))
prefix_fits Complement k a numeric = number_fits k _ numeric (complement_fits (width_of k) a)
prefix_fits Negate k a numeric = number_fits k _ numeric (wrapped_fits (width_of k) _)

pub operated_fits : {profile : Profile} (operator : BinaryOperator) {one other whole : WordType} (a b : ℕ)
    → Makes profile (operation_of operator) one other whole
    → IsWithinKind one.kind a → IsWithinKind other.kind b
    → IsWithinKind whole.kind (operated operator (width_of one.kind) a b)
operated_fits LogicalOr a b logic low high = bit_fits (truth_of a || truth_of b)
operated_fits LogicalAnd a b logic low high = bit_fits (truth_of a && truth_of b)
operated_fits Equal a b equality low high = bit_fits (a == b)
operated_fits Unequal a b equality low high = bit_fits (not (a == b))
operated_fits Less a b (order numeric) low high = bit_fits (nat_lt a b)
operated_fits LessOrEqual a b (order numeric) low high = bit_fits (nat_le a b)
operated_fits Greater a b (order numeric) low high = bit_fits (nat_lt b a)
operated_fits GreaterOrEqual a b (order numeric) low high = bit_fits (nat_le b a)
operated_fits BitOr a b (arithmetic numeric) low high = or_lt _ a b low high
operated_fits BitXor a b (arithmetic numeric) low high = xor_lt _ a b low high
operated_fits BitAnd a b (arithmetic numeric) low high = and_lt _ a b low high
operated_fits ShiftLeft a b (shift {kind = k} numeric) low high =
    number_fits k _ numeric (wrapped_fits (width_of k) _)
operated_fits ShiftRight a b (shift {kind = k} numeric) low high =
    number_fits k _ numeric (wrapped_fits (width_of k) _)
operated_fits Add a b (arithmetic {kind = k} numeric) low high = number_fits k _ numeric (wrapped_fits (width_of k) _)
operated_fits Subtract a b (arithmetic {kind = k} numeric) low high =
    number_fits k _ numeric (wrapped_fits (width_of k) _)
operated_fits Multiply a b (multiplication {kind = k} numeric may) low high =
    number_fits k _ numeric (wrapped_fits (width_of k) _)
operated_fits Divide a b (division {kind = k} numeric) low high =
    number_fits k _ numeric (quotient_fits (width_of k) a b (fits_number k a numeric low))
operated_fits Remainder a b (division {kind = k} numeric) low high =
    number_fits k _ numeric (remainder_fits (width_of k) a b (fits_number k a numeric low))
operated_fits HighProduct a b (multiplication {kind = k} numeric may) low high =
    number_fits k _ numeric
    (high_product_fits (width_of k) a b (fits_number k a numeric low) (fits_number k b numeric high))

-- an element is within the kind, or 0 where there is none
pub element_fits : (kind : Kind) (numbers : List ℕ) (i : ℕ) → All (IsWithinKind kind) numbers
    → IsWithinKind kind (slice_index numbers i)
element_fits kind numbers i within = ⊎_elim (λ low. within i 0 low)
    (λ past. rw (get_or_past numbers i 0 past) (some_bit kind))
    (cases_lt i (length numbers))

pub either_fits : (kind : Kind) (b : Bool) (x y : ℕ) → IsWithinKind kind x → IsWithinKind kind y
    → IsWithinKind kind (if b then y else x)
either_fits kind true x y one other = other
either_fits kind false x y one other = one

module _ (types : Types) (m : Values) (fits : Fits types m) where
  pub value_fits : {e : TermTree} {whole : WordType} → TermHasType types e whole → IsWithinKind whole.kind
      (value_in m e)
  value_fits (of_number below) = below
  value_fits (of_truth {value = value}) = bit_fits value
  value_fits (of_variable {x = x} {word = word} {mutable = mutable} is) =
      element_fits word.kind (m x) 0 (fits x (word_as word mutable) is).within
  value_fits (of_prefix {operator = operator} {operand = operand} {kind = kind} has takes width) =
      rw width (prefix_fits operator kind (value_in m operand) takes)
  value_fits (of_binary {operator = operator} {left = left} {right = right} has more makes width) =
      rw width (operated_fits operator (value_in m left) (value_in m right) makes (value_fits has) (value_fits more))
  value_fits (of_rotation {kind = kind} has numeric low high width) =
      rw width (number_fits kind _ numeric (wrapped_fits (width_of kind) _))
  value_fits (of_conversion {kind = kind} {operand = operand} has numeric) =
      number_fits kind _ numeric (wrapped_fits (width_of kind) (value_in m operand))
  value_fits (of_selection {condition = condition} {accepted = accepted} {otherwise = otherwise} {kind = kind} chooser
      has more) =
      either_fits kind (value_in m condition == 0) (value_in m accepted) (value_in m otherwise) (value_fits has)
      (value_fits more)
  value_fits (of_element {x = x} {size = size} {index = index} {word = word} {mutable = mutable} is has) =
      element_fits word.kind (m x) (value_in m index) (fits x (array_as word mutable size) is).within

  -- and what suits is within the kind that is wanted
  pub suited_fits : (wanted : WordType) (e : TermTree) → TermSuits types wanted e
      → IsWithinKind wanted.kind (value_in m e)
  suited_fits wanted e suits = rw (← suits.kind) (value_fits suits.has_type)
