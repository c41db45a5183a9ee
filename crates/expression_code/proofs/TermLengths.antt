-- What is known of a term: how many temporaries it has at once, how many instructions it is, and which variables it
-- names.
use Rattle.std.proofs.Common.{◌≡◌, ℕ, ◌+◌, ◌*◌, ◌%◌, ◌<◌, ◌≤◌, ◌==◌, Bool, true, false, cond, nat_lt, List, length}
use Rattle.std.proofs.Common.{Option, None, Some, ◌-◌, arith, length-append, unwrap_or}
use Rattle.std.proofs.lemmas.Option.{slice_get_within}
use Rattle.expression_code.proofs.Below.{address_code, around_code, binary}
use Rattle.expression_code.proofs.Below.{BinaryOperator, bits, code_by, chooses_zero, constant_code}
use Rattle.expression_code.proofs.Below.{convert, convert_code, copy_code, element, fetch_code, Finish}
use Rattle.expression_code.proofs.Below.{finish_code, FlatVariable, TermHasType, height_of, InRegister}
use Rattle.expression_code.proofs.Below.{InSlot, Instr, into_by, into_code, IsAmong, is_at_home}
use Rattle.expression_code.proofs.Below.{keep_code}
use Rattle.expression_code.proofs.Below.{keeps_words, Kind, left_row, load_code, Location, mask_code}
use Rattle.expression_code.proofs.Below.{move_code, opposite_in, placed_code}
use Rattle.expression_code.proofs.Below.{narrow_code, narrowed_in, near_place, number_code, NumberRow}
use Rattle.expression_code.proofs.Below.{NumberStep, number_step_code, of_binary, of_conversion}
use Rattle.expression_code.proofs.Below.{of_element, of_number, of_prefix, of_rotation, of_selection}
use Rattle.expression_code.proofs.Below.{of_truth, of_variable, operand, operator_code, prefix}
use Rattle.expression_code.proofs.Below.{prefix_code, PrefixOperator, Profile, raise_code, register_of}
use Rattle.expression_code.proofs.Below.{right_row, rotate, rotate_code, row_of, scale_code, select}
use Rattle.expression_code.proofs.Below.{step_code, store_code, temporary, term_nodes, TermTree, Types}
use Rattle.expression_code.proofs.Below.{types_of, variable, variable_location, Width, WordType}
use Rattle.expression_code.proofs.Below.{working_register, sum_offset, complement_code, is_sign}
use Rattle.expression_code.specs.FrameBytes.{joined_word}
use Rattle.expression_code.specs.Below.{Boolean, LogicalAnd, LogicalOr, Multiply, W8}
use Rattle.expression_code.specs.declared.numbers.Finish.TheVariants.{Narrowed}
use Rattle.expression_code.specs.declared.numbers.NumberStep.TheVariants.{KeepsLow}
use Rattle.expression_code.specs.Layout.{TermLayout}
use Rattle.language.specs.declared.operators.PrefixOperator.TheVariants as prefixes

-- Variables.

-- all that a well-typed expression names are known, where the variables that are known are
pub typed_within : (count : ℕ) (types : Types) → ((x : ℕ) (d : FlatVariable) → types.at x ≡ Some d → x < count)
    → {e : TermTree} {word : WordType} → TermHasType types e word → IsAmong count e
typed_within count types known (of_number below) = tt
typed_within count types known of_truth = tt
typed_within count types known (of_variable {x = x} is) = known x _ is
typed_within count types known (of_prefix has takes same) = typed_within count types known has
typed_within count types known (of_binary has more makes same) =
    (typed_within count types known has, typed_within count types known more)
typed_within count types known (of_rotation has numeric low high same) = typed_within count types known has
typed_within count types known (of_conversion has numeric) = typed_within count types known has
typed_within count types known (of_selection has chooses more) =
    (typed_within count types known has, typed_within count types known chooses, typed_within count types known more)
typed_within count types known (of_element {x = x} is has) = (known x _ is, typed_within count types known has)

pub typed_among : (profile : Profile) (declared : List FlatVariable) {e : TermTree} {word : WordType}
    → TermHasType (types_of profile declared) e word → IsAmong (length declared) e
typed_among profile declared has =
    typed_within (length declared) (types_of profile declared) (λ x d is. slice_get_within declared x d is) has

-- Temporaries.

pub height : (e : TermTree) → height_of e + 1 ≤ term_nodes e
height (prefix operator width operand) = omega (arith, height operand)
height (binary place operator width one other) = omega (arith, height one, height other)
height (rotate width operand amount) = omega (arith, height operand)
height (convert kind operand) = omega (arith, height operand)
height (select condition accepted otherwise) = omega (arith, height condition, height accepted, height otherwise)
height (element place x size index) = omega (arith, height index)
height e = omega arith

-- Instructions.

pub one_of : (b : Bool) (xs ys : List Instr) (n : ℕ) → length xs ≤ n → length ys ≤ n → length (cond b xs ys) ≤ n
one_of true xs ys n h k = h
one_of false xs ys n h k = k

-- of what there may be of a code, each is short, and so is the other one
pub code_length : {T : Type 0} (o : Option T) (code : T → List Instr) (other : List Instr) (n : ℕ)
    → ((x : T) → length (code x) ≤ n) → length other ≤ n → length (code_by o code other) ≤ n
code_length None code other n some more = more
code_length (Some x) code other n some more = some x

pub load_length : (r o : ℕ) → length (load_code r o) ≤ 3
load_length r o = one_of (nat_lt o 2048) _ _ 3 (omega arith) (omega arith)

pub store_length : (r o : ℕ) → length (store_code r o) ≤ 3
store_length r o = one_of (nat_lt o 2048) _ _ 3 (omega arith) (omega arith)

pub constant_length : (r n : ℕ) → length (constant_code r n) ≤ 2
constant_length r n = one_of (nat_lt n 2048) _ _ 2 (omega arith) (omega arith)

pub move_length : (d r : ℕ) → length (move_code d r) ≤ 1
move_length d r = one_of (d == r) _ _ 1 (omega arith) (omega arith)

copy_length : (d : ℕ) (l : Location) → length (copy_code d l) ≤ 3
copy_length d (InRegister r) = omega (arith, move_length d r)
copy_length d (InSlot o) = load_length d o

pub fetch_length : (l : Location) (spare : ℕ) → length (fetch_code l spare) ≤ 3
fetch_length (InRegister r) spare = omega arith
fetch_length (InSlot o) spare = load_length spare o

keep_length : (l : Location) → length (keep_code l) ≤ 3
keep_length (InRegister r) = omega arith
keep_length (InSlot o) = store_length 29 o

pub narrow_length : (d r : ℕ) (w : Width) → length (narrow_code d r w) ≤ 2
narrow_length d r W8 = omega arith
narrow_length d r width = omega arith

pub convert_length : (d r : ℕ) (w : Width) → length (convert_code d r w) ≤ 3
convert_length d r w = simp length-append (omega (arith, narrow_length d r w, move_length d (narrowed_in d r w)))

pub finish_length : (d : ℕ) (w : Width) (finish : Finish) → length (finish_code d w finish) ≤ 2
finish_length d w Narrowed = omega (arith, narrow_length d d w)
finish_length d w finish = omega arith

-- of the rows there are, the longest
row_length : (d t l r : ℕ) (w : Width) (o : BinaryOperator)
    → length (step_code d t l r (row_of o).step) + length (finish_code d w (row_of o).finish) ≤ 4
row_length d t l r w LogicalOr = omega arith
row_length d t l r w LogicalAnd = omega arith
row_length d t l r w Multiply = omega (arith, narrow_length d d w)
row_length d t l r w o = omega (arith, finish_length d w (row_of o).finish)

pub operator_length : (d t l r : ℕ) (o : BinaryOperator) (w : Width) → length (operator_code d t l r o w) ≤ 4
operator_length d t l r o w = simp length-append (row_length d t l r w o)

number_step_length : (d r : ℕ) (step : NumberStep) → length (number_step_code d r step) ≤ 2
number_step_length d r (KeepsLow others) = omega arith
number_step_length d r step = omega arith

pub number_length : (d r : ℕ) (w : Width) (row : NumberRow) → length (number_code d r w row) ≤ 4
number_length d r w row =
    simp length-append (omega (arith, number_step_length d r row.step, finish_length d w row.finish))

complement_length : (immediates : Bool) (d r : ℕ) → length (complement_code immediates d r) ≤ 2
complement_length true d r = omega arith
complement_length false d r = omega arith

pub prefix_length : (immediates : Bool) (d r : ℕ) (o : PrefixOperator) (w : Width)
    → length (prefix_code immediates d r o w) ≤ 4
prefix_length immediates d r prefixes.Not w = omega arith
prefix_length immediates d r prefixes.Complement w =
    simp length-append (omega (arith, complement_length immediates d r, narrow_length d d w))
prefix_length immediates d r prefixes.Negate w = omega (arith, narrow_length d d w)

pub rotate_length : (d r : ℕ) (w : Width) (amount : ℕ) → length (rotate_code d r w amount) ≤ 7
rotate_length d r w amount =
    let around : length (around_code d (narrowed_in d r w) w (amount % bits w)) ≤ 5 =
    one_of (amount % bits w == 0) _ _ 5 (omega (arith, move_length d (narrowed_in d r w)))
    (omega (arith, narrow_length d d w)) in
    simp length-append (omega (arith, narrow_length d r w, around))

pub mask_length : (is_opposite : Bool) (m c : ℕ) → length (mask_code is_opposite m c) ≤ 1
mask_length true m c = omega arith
mask_length false m c = omega arith

scale_length : (d r : ℕ) (kind : Kind) → length (scale_code d r kind) ≤ 2
scale_length d r Boolean = omega arith
scale_length d r kind = omega arith

pub address_length : (d r : ℕ) (kind : Kind) (o : ℕ) → length (address_code d r kind o) ≤ 4
address_length d r kind o =
    let raise : length (raise_code d o) ≤ 2 = one_of (nat_lt o 2048) _ _ 2 (omega arith) (omega arith) in
    simp length-append (omega (arith, scale_length d r kind, raise))

-- at most 16 instructions a node, three fewer where none keep the value in its place
module _ (layout : TermLayout) where
  abbrev own : ℕ → ℕ
  own place = working_register layout.allocation.count place 29

  placed_length : (other : Option BinaryOperator) (place : ℕ) (e : TermTree)
      → length (into_by layout other (own place) place e) ≤ 16 * term_nodes e - 3
      → length (placed_code layout place e (into_by layout other (own place) place e)) ≤ 16 * term_nodes e
  placed_length other place e few =
      one_of (is_at_home layout.allocation e) _ _ _ (omega arith)
      (simp length-append (omega (
        arith,
        few,
        height e,
        keep_length (temporary layout.allocation.count layout.free place),
      )))

  into_short : (other : Option BinaryOperator) (d place : ℕ) (e : TermTree)
      → length (into_by layout other d place e) ≤ 16 * term_nodes e - 3
  into_short other d place (variable x) =
      omega (arith, copy_length d (variable_location layout.declared layout.allocation x))
  into_short other d place (prefix operator width (binary source shift narrow one two)) =
      let e = binary source shift narrow one two in
      let left = placed_length None place one (into_short None (own place) place one) in
      let short = into_short None (own place) place (binary source shift narrow one two) in
      let whole = placed_length None place e short in
      one_of (is_sign layout.allocation operator width shift two) _ _ _
      (omega (arith, length-append {A = Instr}, left, fetch_length))
      (omega (arith, length-append {A = Instr}, whole, fetch_length, prefix_length))
  into_short other d place (prefix operator width e) =
      let placed = placed_length None place e (into_short None (own place) place e) in
      omega (arith, length-append {A = Instr}, placed, fetch_length, prefix_length)
  into_short other d place (binary source operator width one two) =
      let emitted = unwrap_or other operator in
      let left = placed_length None place one (into_short None (own place) place one) in
      let right = placed_length None place two (into_short None (own place) place two) in
      let next = placed_length None (place + 1) two (into_short None (own (place + 1)) (place + 1) two) in
      code_length (joined_word layout.declared layout.allocation emitted width one two) _ _ _ (λ o. omega (arith, load_length d o))
      (code_length (right_row layout.allocation emitted two) _ _ _
      (λ row.
      let made = number_length d (register_of (operand layout place one) 29) width row in
      omega (arith, length-append {A = Instr}, left, fetch_length, made))
      (code_length (left_row layout.allocation emitted one) _ _ _
      (λ row.
      let made = number_length d (register_of (operand layout place two) 29) width row in
      omega (arith, length-append {A = Instr}, right, fetch_length, made))
      (omega (arith, length-append {A = Instr}, left, next, fetch_length, operator_length))))
  into_short other d place (rotate width e amount) =
      let placed = placed_length None place e (into_short None (own place) place e) in
      omega (arith, length-append {A = Instr}, placed, fetch_length, rotate_length)
  into_short other d place (convert kind e) =
      let placed = placed_length None place e (into_short None (own place) place e) in
      one_of (keeps_words layout.allocation kind) _ _ _ (omega (arith, into_short None d place e))
      (omega (arith, length-append {A = Instr}, placed, fetch_length, convert_length))
  into_short other d place (select condition accepted otherwise) =
      let opposite = opposite_in layout.allocation condition in
      let first = placed_length opposite place condition (into_short opposite (own place) place condition) in
      let second = placed_length None (place + 1) accepted (into_short None (own (place + 1)) (place + 1) accepted) in
      let third = placed_length None (place + 2) otherwise (into_short None (own (place + 2)) (place + 2) otherwise) in
      one_of (chooses_zero layout.allocation otherwise) _ _ _
      (omega (arith, length-append {A = Instr}, first, second, fetch_length, mask_length))
      (omega (arith, length-append {A = Instr}, first, second, third, fetch_length, mask_length))
  into_short other d place (element source x size (binary sum operator width one two)) =
      let index = binary sum operator width one two in
      let left = placed_length None place one (into_short None (own place) place one) in
      let whole = placed_length None place index (into_short None (own place) place (binary sum operator width one two)) in
      code_length (near_place layout.declared layout.allocation x index) _ _ _ (λ o. omega arith)
      (code_length (sum_offset layout.declared layout.allocation x operator two) _ _ _
      (λ o. omega (arith, length-append {A = Instr}, left, fetch_length, address_length))
      (omega (arith, length-append {A = Instr}, whole, fetch_length, address_length)))
  into_short other d place (element source x size index) =
      let placed = placed_length None place index (into_short None (own place) place index) in
      code_length (near_place layout.declared layout.allocation x index) _ _ _ (λ o. omega arith)
      (omega (arith, length-append {A = Instr}, placed, fetch_length, address_length))
  into_short other d place e = omega (arith, constant_length)

  pub into_length : (d place : ℕ) (e : TermTree)
      → length (into_code layout d place e) + 3 ≤ 16 * term_nodes e
  into_length d place e = omega (arith, into_short None d place e, height e)
