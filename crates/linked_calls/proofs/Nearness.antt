-- The code around a body is short where the function has a copier, so that each call reaches it.
use Rattle.std.proofs.Common.{◌≡◌, ℕ, ◌+◌, ◌*◌, ◌^◌, ◌<◌, ◌≤◌, ◌==◌, ◌&&◌, Bool, true, false, nat_lt, if◌then◌else◌, List}
use Rattle.std.proofs.Common.{[], ◌∷◌, ◌++◌, length, Option, Some, None, refl, arith, length-append}
use Rattle.std.proofs.lemmas.Bool.{and_parts, ltb-true}
use Rattle.expression_code.proofs.TermLengths.{constant_length, load_length, one_of, store_length}
use Rattle.linked_calls.proofs.Below.{address_code, argument_code, argument_register, arguments_code, body_words, Boolean}
use Rattle.linked_calls.proofs.Below.{copied_code, copy_out_code, Fields, FixedArray, Form, Instr, Kind}
use Rattle.linked_calls.proofs.Below.{kept_of, leave_code, load_code, meant_code, MutableArray}
use Rattle.linked_calls.proofs.Below.{restore_code, result_code, results_code, ResultSlot, room_of, saved_registers}
use Rattle.linked_calls.proofs.Below.{SingleWord, Slot, stacked_offset, Uint16, Uint32}
use Rattle.linked_calls.proofs.Below.{Uint8, until_equal, up_code, wipe_code}
use Rattle.linked_calls.proofs.CopyElements.{element_code}
use Rattle.linked_calls.proofs.CopyLengths.{called_short, copied_short}
use Rattle.linked_calls.proofs.MovedBytes.{goes_as_it_is}
use Rattle.linked_calls.proofs.Parts.{loads_length}
use Rattle.linked_calls.proofs.Rooms.{written_few}
use Rattle.linked_calls.specs.FunctionCode.{array_code, called_code, copier_of, end_code, goes_by_call}
use Rattle.linked_calls.specs.FunctionCode.{is_any_worth, is_near, is_skipped, needed_code}
use Rattle.linked_calls.specs.FunctionCode.{round_of}
use Rattle.linked_calls.specs.Below.{Addi, Immediate}
use Rattle.linked_calls.specs.declared.pace.Pace.{Pace}
use Rattle.linked_calls.specs.declared.pace.Pace.TheVariants.{Fast, Small}
use Rattle.linked_calls.specs.declared.round.Round.{Round}

-- a function that has a copier is near
pub is_near_where : (image : Fields) (pace : Pace) (round : Round) → copier_of image pace ≡ Some round
    → length image.words + 128 * length image.slots < 2 ^ 16
is_near_where image Small round has = cc
is_near_where image Fast round has = by (is_near image && is_any_worth image.slots) refl has
  where
    by : (b : Bool) → is_near image && is_any_worth image.slots ≡ b
        → (if b then Some (round_of image.slots) else None) ≡ Some round
        → length image.words + 128 * length image.slots < 2 ^ 16
    by true near has =
        ltb-true (length image.words + 128 * length image.slots) (2 ^ 16)
        (and_parts (is_near image) (is_any_worth image.slots) near).0
    by false near has = cc

address_short : (r offset : ℕ) → length (address_code r offset) ≤ 3
address_short r offset =
    one_of (nat_lt offset 2048) _ _ 3 (omega arith) (omega (arith, constant_length, length-append {A = Instr}))

meant_short : (r : ℕ) (kind : Kind) → length (meant_code r kind) ≤ 2
meant_short r Boolean = omega arith
meant_short r Uint8 = omega arith
meant_short r Uint16 = omega arith
meant_short r Uint32 = omega arith

array_short : (pace : Pace) (copier : Option Round) (behind : ℕ) (inward : Bool) (kind : Kind) (count : ℕ)
    → length (array_code pace copier behind (element_code inward kind) (goes_as_it_is inward kind) kind count) ≤ 51
array_short pace None behind inward kind count = copied_short pace inward kind count
array_short pace (Some round) behind inward kind count =
    by (goes_by_call round (goes_as_it_is inward kind) kind count)
  where
    by : (b : Bool)
        → length (if b then called_code round behind kind count else copied_code pace (element_code inward kind) kind count)
        ≤ 51
    by true = omega (arith, called_short round behind kind count)
    by false = copied_short pace inward kind count

argument_short : (image : Fields) (pace : Pace) (behind i : ℕ) (slot : Slot) (form : Form)
    → length (argument_code image pace behind i slot form) ≤ 64
argument_short image pace behind i slot SingleWord =
    omega (
      arith,
      one_of (nat_lt i 8) [] (load_code 5 (stacked_offset image i)) 3 (omega arith)
          (load_length 5 (stacked_offset image i)),
      meant_short (argument_register i) slot.param.kind,
      store_length (argument_register i) slot.offset,
      length-append {A = Instr},
    )
argument_short image pace behind i slot form =
    omega (
      arith,
      one_of (nat_lt i 8) (Immediate Addi 5 (10 + i) 0 ∷ []) (load_code 5 (stacked_offset image i)) 3 (omega arith)
          (load_length 5 (stacked_offset image i)),
      address_short 6 slot.offset,
      array_short pace (copier_of image pace) behind true slot.param.kind slot.param.length,
      length-append {A = Instr},
    )

needed_short : (image : Fields) (pace : Pace) (behind i : ℕ) (slot : Slot) (skipped : Bool)
    → length (if skipped then [] else argument_code image pace behind i slot slot.param.form) ≤ 64
needed_short image pace behind i slot true = omega arith
needed_short image pace behind i slot false = argument_short image pace behind i slot slot.param.form

pub arguments_short : (image : Fields) (pace : Pace) (spared : List Bool) (behind i : ℕ) (slots : List Slot)
    → length (arguments_code image pace spared behind i slots) ≤ 64 * length slots
arguments_short image pace spared behind i [] = omega arith
arguments_short image pace spared behind i (slot ∷ slots) =
    let rest = arguments_code image pace spared behind (i + 1) slots in
    omega (
      arith,
      arguments_short image pace spared behind (i + 1) slots,
      needed_short image pace (length rest + behind) i slot (is_skipped spared i slot),
      length-append (needed_code image pace spared (length rest + behind) i slot) rest,
    )

output_short : (image : Fields) (pace : Pace) (behind i : ℕ) (slot : Slot) (form : Form)
    → length (copy_out_code image pace behind i slot form) ≤ 64
output_short image pace behind i slot SingleWord = omega arith
output_short image pace behind i slot FixedArray = omega arith
output_short image pace behind i slot MutableArray =
    omega (
      arith,
      load_length 6,
      address_short 5 slot.offset,
      array_short pace (copier_of image pace) behind false slot.param.kind slot.param.length,
      length-append {A = Instr},
    )

pub results_short : (image : Fields) (pace : Pace) (behind i : ℕ) (slots : List Slot)
    → length (results_code image pace behind i slots) ≤ 64 * length slots
results_short image pace behind i [] = omega arith
results_short image pace behind i (slot ∷ slots) =
    let rest = results_code image pace behind (i + 1) slots in
    omega (
      arith,
      results_short image pace behind (i + 1) slots,
      output_short image pace (length rest + behind) i slot slot.param.form,
      length-append (copy_out_code image pace (length rest + behind) i slot slot.param.form) rest,
    )

wiped_short : (room : ℕ) → length (wipe_code room) ≤ 18
wiped_short room = one_of (room == 0) [] (until_equal 2 5 up_code) 18 (omega arith) (omega arith)

pub body_few : (words : List ℕ) → length (body_words words) ≤ length words
body_few [] = omega arith
body_few (word ∷ []) = omega arith
body_few (word ∷ next ∷ words) = let few = body_few (next ∷ words) in omega arith

restored_short : (image : Fields) → length (restore_code image) ≤ 16
restored_short image =
    let kept = written_few (body_words image.words) saved_registers in
    let loaded = loads_length 5 0 (kept_of image) in
    omega (arith, address_short 5, length-append {A = Instr})

pub end_short : (image : Fields) (pace : Pace) → length (end_code image pace) ≤ 64
end_short image Fast =
    let wiped = wiped_short (room_of image) in
    omega (arith, restored_short image, length-append {A = Instr})
end_short image Small = omega (arith, restored_short image)

result_short : (returned : Option ResultSlot) → length (result_code returned) ≤ 3
result_short None = omega arith
result_short (Some slot) = load_length 10 slot.offset

pub leave_short : (image : Fields) (pace : Pace) → length (leave_code image pace) ≤ 64 * length image.slots + 67
leave_short image pace =
    let results = results_code image pace (length (end_code image pace)) 0 image.slots in
    let all = length-append (result_code image.returned ++ results) (end_code image pace) in
    let first = length-append (result_code image.returned) results in
    omega (
      arith,
      result_short image.returned,
      results_short image pace (length (end_code image pace)) 0 image.slots,
      end_short image pace,
    )
