-- The code that takes an array into its slot, and the code that hands it back: the places of both, and then the array
-- itself.
use Rattle.std.specs.Prelude.{bit_and, bit_or, is_some}
use Rattle.std.proofs.Common.{◌≡◌, ◌≢◌, ℕ, ◌+◌, ◌*◌, ◌%◌, ◌^◌, ◌<◌, ◌≤◌, ◌==◌, Bool, true, false, List, [], ◌∷◌, ◌++◌}
use Rattle.std.proofs.Common.{length, Option, Some, inl, inr, refl, sym, ap, ◌∙◌, subst, arith, nat_lt, if◌then◌else◌}
use Rattle.std.proofs.Common.{length-append}
use Rattle.std.proofs.lemmas.Bool.{lt-ltb, ltb-false, ltb-true}
use Rattle.std.proofs.lemmas.Bool.Decides.{nat_tests}
use Rattle.std.proofs.lemmas.List.{map-id}
use Rattle.std.proofs.lemmas.Nat.{and_mask, and_or_apart, or_comm}
use Rattle.expression_code.proofs.program_logic_lemmas.Counted.{computes_runs, makes_on, Runs, Setting, weaken_runs}
use Rattle.linked_calls.proofs.Below.{argument_code, argument_offset, array_bytes, array_code}
use Rattle.linked_calls.proofs.Below.{ArrayIsHandedBack, ArrayIsTaken, CanBeCopied, copy_out_code, Data}
use Rattle.linked_calls.proofs.Below.{element_bytes, Fields, FixedArray, handed_steps, HasArray, Instr, IsArrayTaken}
use Rattle.linked_calls.proofs.Below.{IsCopying, IsHandedBack, load_code, MachineCode, MutableArray, number_at, passed_in}
use Rattle.linked_calls.proofs.Below.{number_or_zero, numbers_at, place_before, place_behind, Placed, Placed-left}
use Rattle.linked_calls.proofs.Below.{Placed-right, Pointed, pointer_in_code, pointer_out_code, register, register-at}
use Rattle.linked_calls.proofs.Below.{sign_extended, Slot, slot_of, stacked_offset, sum_of, taken_steps, unwritten}
use Rattle.linked_calls.proofs.Below.{with_numbers, with_register, with_result}
use Rattle.linked_calls.proofs.CopyArrays.{BeginsArray, IsTested, whole_here}
use Rattle.linked_calls.proofs.CopyElements.{element_code, elements_fit, some_bytes, word_even}
use Rattle.linked_calls.proofs.CopyNumbers.{CanCopy, HasCopied, Numbers}
use Rattle.linked_calls.proofs.MovedBytes.{goes_as_it_is}
use Rattle.linked_calls.proofs.Parts.{address_runs, load_runs}
use Rattle.linked_calls.proofs.Pieces.{MayAt, placed}
use Rattle.linked_calls.proofs.PlacedRuns.{does_here, here, RunsHere, then_here}
use Rattle.linked_calls.specs.Below.{Addi, Immediate, Word}
use Rattle.linked_calls.specs.Copies.{CopierStands}
use Rattle.linked_calls.specs.FunctionCode.{address_code, copier_of, places_in_code, places_out_code}
use Rattle.linked_calls.specs.declared.pace.Pace.{Pace}
use Rattle.linked_calls.specs.declared.round.Round.{Round}
use Rattle.rv_machine.specs.declared.observation.Event.TheVariants as event

-- a move of a word
moved : (x v : ℕ) → x ≡ v → v < 2 ^ 32 → sum_of x (sign_extended 12 0) ≡ v
moved x v is below = grind (arith, nat_tests)

-- the lowest bits of a slot's place are zeros, so those of both places are the pointer's
pub two_bits : (x y : ℕ) → y % 4 ≡ 0 → bit_and (bit_or (x % 2 ^ 32) (y % 2 ^ 32)) 3 ≡ x % 4
two_bits x y even =
    let none : y % 2 ^ 32 % 4 ≡ 0 = omega arith in
    let four : x % 2 ^ 32 % 4 ≡ x % 4 = omega arith in
    and_or_apart 3 (x % 2 ^ 32) (y % 2 ^ 32) (and_mask (y % 2 ^ 32) 2 ∙ none) ∙ and_mask (x % 2 ^ 32) 2 ∙ four

pub two_bits_back : (x y : ℕ) → x % 4 ≡ 0 → bit_and (bit_or (x % 2 ^ 32) (y % 2 ^ 32)) 3 ≡ y % 4
two_bits_back x y even = ap (λ b. bit_and b 3) (or_comm (x % 2 ^ 32) (y % 2 ^ 32)) ∙ two_bits y x even

-- a copier that stands behind code stands behind its end
stands_on : (code : MachineCode) (p : ℕ) (xs ys : List Instr) (behind : ℕ) (copier : Option Round)
    → CopierStands code (p + 4 * length (xs ++ ys)) behind copier
    → CopierStands code (p + 4 * length xs + 4 * length ys) behind copier
stands_on code p xs ys behind copier stands =
    let e : p + 4 * length (xs ++ ys) ≡ p + 4 * length xs + 4 * length ys = omega (arith, length-append xs ys) in
    subst (λ q. CopierStands code q behind copier) e stands

module _ (slot : Slot) (spot : Pointed) (place : ℕ) (can : CanBeCopied slot spot place) (z : Setting) where
  -- a pointer that is loaded
  pub loaded_runs : (r : ℕ) → r < 32 → r ≢ 0 → r ≢ 2 → (argument : Data → Option ℕ) (offset : ℕ)
      → spot.frame + offset ≡ place
      → ((s : Data) → argument s ≡ number_at s.bytes 4 place)
      → z.allowed spot.frame (Some (event.Load place Word))
      → Runs z (length (load_code r offset)) (load_code r offset) (HasArray slot spot argument)
      (λ s t. t ≡ with_result r spot.pointer s)
  loaded_runs r few nonzero other argument offset there is allowed =
      let raw = λ (s : Data). number_or_zero (number_at s.bytes 4 (spot.frame + offset)) in
      let at = λ (s : Data). is s ∙ ap (λ a. number_at s.bytes 4 a) (sym there) in
      weaken_runs z {P' = HasArray slot spot argument}
      (load_runs z spot.frame offset (omega (arith, there, can.place_aligned)) (omega (arith, there, can.place_ends))
      (λ s has. record { stack = has.stack; there = ap is_some (sym (at s) ∙ has.points) })
      r few nonzero other
      (subst (λ a. z.allowed spot.frame (Some (event.Load a Word))) (sym there) allowed))
      (λ s has. has)
      (λ s t has made. made ∙ ap (λ v. with_result r v s) (ap number_or_zero (sym (at s) ∙ has.points)))

  -- and one that is in a register
  pub moved_runs : (argument : Data → Option ℕ) (r : ℕ) → r < 32 → r ≢ 0 → ((s : Data) → argument s ≡ Some (s.regs r))
      → Runs z 1 (Immediate Addi 5 r 0 ∷ []) (HasArray slot spot argument) (λ s t. t ≡ with_result 5 spot.pointer s)
  moved_runs argument r few nonzero is =
      weaken_runs z {P' = HasArray slot spot argument}
      (computes_runs z (λ q. q == 5) (Immediate Addi 5 r 0 ∷ [])
      (λ regs. with_register regs 5 (sum_of (register regs r) (sign_extended 12 0))) (simp (lt-ltb r 32 few))
      (λ regs. refl))
      (λ s has. has)
      (λ s t has made.
      let some = some_bytes slot.param.kind in
      let one = elements_fit slot.param.kind 0 slot.param.length can.some in
      let low = can.array_ends in
      let points : register s.regs r ≡ spot.pointer =
      register-at s.regs r nonzero ∙ ap number_or_zero (sym (is s) ∙ has.points) in
      made ∙ ap (λ v. with_result 5 v s) (moved (register s.regs r) spot.pointer points (omega arith)))

  abbrev bytes : ℕ
  bytes = array_bytes slot

  abbrev at_slot : ℕ
  at_slot = slot_of slot spot

  -- the array, from where it is to where it goes
  abbrev between : ℕ → ℕ → Numbers
  between source target = record {
    kind = slot.param.kind;
    count = slot.param.length;
    frame = spot.frame;
    source = source;
    target = target;
  }

  slot_even : at_slot % element_bytes slot.param.kind ≡ 0
  slot_even = word_even slot.param.kind at_slot can.slot_aligned

  -- into its slot

  can_in : MayAt z spot.frame event.Load spot.pointer (spot.pointer + bytes)
      → MayAt z spot.frame event.Store at_slot (at_slot + bytes) → CanCopy z (between spot.pointer at_slot)
  can_in loads stores =
      let high = can.slot_ends in
      record {
        source_even = can.array_aligned;
        target_even = slot_even;
        source_ends = can.array_ends;
        target_ends = omega arith;
        few = omega arith;
        apart = can.apart;
        loads = loads;
        stores = stores;
      }

  tested_in : IsTested (between spot.pointer at_slot) spot.pointer
  tested_in = record {
    is = two_bits spot.pointer at_slot can.slot_aligned;
    even = λ even. (even, can.slot_aligned);
  }

  -- and back

  can_out : MayAt z spot.frame event.Load at_slot (at_slot + bytes)
      → MayAt z spot.frame event.Store spot.pointer (spot.pointer + bytes) → CanCopy z (between at_slot spot.pointer)
  can_out loads stores =
      let high = can.slot_ends in
      record {
        source_even = slot_even;
        target_even = can.array_aligned;
        source_ends = omega arith;
        target_ends = can.array_ends;
        few = omega arith;
        apart = elim can.apart [ inl before ↦ inr before | inr behind ↦ inl behind ];
        loads = loads;
        stores = stores;
      }

  tested_out : IsTested (between at_slot spot.pointer) spot.pointer
  tested_out = record {
    is = two_bits_back at_slot spot.pointer can.slot_aligned;
    even = λ even. (can.slot_aligned, even);
  }

  module _ (argument : Data → Option ℕ) where
    -- the places, by some code for the pointer

    abbrev placed_in : Data → Data
    placed_in s = with_result 6 (sum_of slot.offset (s.regs 2)) (with_result 5 spot.pointer s)

    abbrev placed_out : Data → Data
    placed_out s = with_result 6 spot.pointer (with_result 5 (sum_of slot.offset (s.regs 2)) s)

    slot_offset : slot.offset < 2 ^ 32
    slot_offset = let high = can.slot_ends in omega arith

    in_runs : (pointer : List Instr)
        → Runs z (length pointer) pointer (HasArray slot spot argument) (λ s t. t ≡ with_result 5 spot.pointer s)
        → Runs z (length (pointer ++ address_code 6 slot.offset)) (pointer ++ address_code 6 slot.offset)
        (HasArray slot spot argument) (λ s t. t ≡ placed_in s)
    in_runs pointer points =
        makes_on z {P' = λ s. Unit {0}} {f = λ s. with_result 5 spot.pointer s} points
        (address_runs z 6 slot.offset (omega arith) (λ e. omega arith) (λ e. omega arith) slot_offset)
        (λ s has. tt) (λ s u has made. made)

    out_runs : (pointer : List Instr) → ((s : Data) (v : ℕ) → argument (with_result 5 v s) ≡ argument s)
        → Runs z (length pointer) pointer (HasArray slot spot argument) (λ s t. t ≡ with_result 6 spot.pointer s)
        → Runs z (length (address_code 5 slot.offset ++ pointer)) (address_code 5 slot.offset ++ pointer)
        (HasArray slot spot argument) (λ s t. t ≡ placed_out s)
    out_runs pointer still points =
        makes_on z {P' = HasArray slot spot argument} {f = λ s. with_result 5 (sum_of slot.offset (s.regs 2)) s}
        (address_runs z 5 slot.offset (omega arith) (λ e. omega arith) (λ e. omega arith) slot_offset) points
        (λ s has. record {
          stack = has.stack;
          points = still s (sum_of slot.offset (s.regs 2)) ∙ has.points;
          array_there = has.array_there;
          slot_there = has.slot_there;
          bytes = has.bytes;
        })
        (λ s u has made. made)

    places_in : (s : Data) → HasArray slot spot argument s → BeginsArray (between spot.pointer at_slot) (placed_in s)
    places_in s has =
        let some = some_bytes slot.param.kind in
        let one = elements_fit slot.param.kind 0 slot.param.length can.some in
        let low = can.array_ends in
        let high = can.slot_ends in
        record {
          places = record {
            stack = has.stack;
            source = omega arith;
            target = omega (arith, has.stack);
            from_there = has.array_there;
            to_there = has.slot_there;
          };
          bytes = has.bytes;
        }

    places_out : (s : Data) → HasArray slot spot argument s → BeginsArray (between at_slot spot.pointer) (placed_out s)
    places_out s has =
        let some = some_bytes slot.param.kind in
        let one = elements_fit slot.param.kind 0 slot.param.length can.some in
        let low = can.array_ends in
        let high = can.slot_ends in
        record {
          places = record {
            stack = has.stack;
            source = omega (arith, has.stack);
            target = omega arith;
            from_there = has.slot_there;
            to_there = has.array_there;
          };
          bytes = has.bytes;
        }

-- into a slot from where the argument points
module _ (image : Fields) (slot : Slot) (spot : Pointed) (can : CanBeCopied slot spot (place_before image spot))
    (z : Setting)
    (place : 8 ≤ spot.index → z.allowed spot.frame (Some (event.Load (place_before image spot) Word)))
    (loads : MayAt z spot.frame event.Load spot.pointer (spot.pointer + array_bytes slot))
    (stores : MayAt z spot.frame event.Store (slot_of slot spot) (slot_of slot spot + array_bytes slot)) where
  abbrev argument : Data → Option ℕ
  argument = passed_in image spot.frame spot.index

  -- by whether a register holds the pointer

  abbrev passed_by : Bool → Data → Option ℕ
  passed_by b s = if b then Some (s.regs (10 + spot.index)) else number_at s.bytes 4 (place_before image spot)

  abbrev code_by : Bool → List Instr
  code_by b = if b then Immediate Addi 5 (10 + spot.index) 0 ∷ [] else load_code 5 (stacked_offset image spot.index)

  pointer_by : (b : Bool) → nat_lt spot.index 8 ≡ b
      → Runs z (length (code_by b)) (code_by b) (HasArray slot spot argument) (λ s t. t ≡ with_result 5 spot.pointer s)
  pointer_by true h =
      let few = ltb-true spot.index 8 h in
      moved_runs slot spot (place_before image spot) can z argument (10 + spot.index) (omega arith)
      (λ e. omega arith) (λ s. ap (λ b. passed_by b s) h)
  pointer_by false h =
      loaded_runs slot spot (place_before image spot) can z 5 (omega arith) (λ e. omega arith) (λ e. omega arith) argument
      (stacked_offset image spot.index) refl (λ s. ap (λ b. passed_by b s) h) (place (ltb-false spot.index 8 h))

  pub taken_runs : (pace : Pace) (p behind : ℕ) → Placed z.code p (argument_code image pace behind spot.index slot FixedArray)
      → CopierStands z.code (p + 4 * length (argument_code image pace behind spot.index slot FixedArray)) behind
      (copier_of image pace)
      → RunsHere z p (taken_steps image pace spot.index slot spot.pointer)
      (argument_code image pace behind spot.index slot FixedArray) (HasArray slot spot argument) (IsArrayTaken slot spot)
  taken_runs pace p behind stands shared =
      let at = place_before image spot in
      let array = between slot spot at can z spot.pointer (slot_of slot spot) in
      let places = places_in_code image spot.index slot in
      let kind = slot.param.kind in
      let code = array_code pace (copier_of image pace) behind (element_code true kind) (goes_as_it_is true kind) kind
      slot.param.length in
      then_here z {xs = places} {ys = code} {P = HasArray slot spot argument} {R = λ s t. t ≡ placed_in slot spot at can z argument s}
      {S = IsArrayTaken slot spot}
      (here z (Placed-left z.code p places code stands)
      (in_runs slot spot at can z argument (pointer_in_code image spot.index) (pointer_by (nat_lt spot.index 8) refl)))
      (whole_here z true array (can_in slot spot at can z loads stores) spot.pointer (tested_in slot spot at can z) pace
      (copier_of image pace) (p + 4 * length places) behind (Placed-right z.code p places code stands)
      (stands_on z.code p places code behind (copier_of image pace) shared))
      (λ s t has made. subst (BeginsArray array) (sym made) (places_in slot spot at can z argument s has))
      (λ s t u has made copied. ended s u (subst (λ (x : Data). HasCopied true array x u) made copied))
    where
      ended : (s u : Data)
          → HasCopied true (between slot spot (place_before image spot) can z spot.pointer (slot_of slot spot))
          (placed_in slot spot (place_before image spot) can z argument s) u → IsArrayTaken slot spot s u
      ended s u copied = record {
        bytes = copied.bytes;
        others = λ q g h l m o. copied.others q g h l m o
            ∙ unwritten (with_register s.regs 5 spot.pointer) 6 (sum_of slot.offset (s.regs 2)) q h
            ∙ unwritten s.regs 5 spot.pointer q g;
      }

-- from a slot to where the argument points
pub handed_runs : (image : Fields) (pace : Pace) (slot : Slot) (spot : Pointed) → CanBeCopied slot spot (place_behind image spot)
    → (z : Setting)
    → z.allowed spot.frame (Some (event.Load (place_behind image spot) Word))
    → MayAt z spot.frame event.Load (slot_of slot spot) (slot_of slot spot + array_bytes slot)
    → MayAt z spot.frame event.Store spot.pointer (spot.pointer + array_bytes slot)
    → (p behind : ℕ) → Placed z.code p (copy_out_code image pace behind spot.index slot MutableArray)
    → CopierStands z.code (p + 4 * length (copy_out_code image pace behind spot.index slot MutableArray)) behind
    (copier_of image pace)
    → RunsHere z p (handed_steps image pace spot.index slot spot.pointer)
    (copy_out_code image pace behind spot.index slot MutableArray)
    (HasArray slot spot (λ s. number_at s.bytes 4 (place_behind image spot))) (IsHandedBack slot spot)
handed_runs image pace slot spot can z place loads stores p behind stands shared =
    let argument = λ (s : Data). number_at s.bytes 4 (place_behind image spot) in
    let at = place_behind image spot in
    let array = between slot spot at can z (slot_of slot spot) spot.pointer in
    let places = places_out_code image spot.index slot in
    let kind = slot.param.kind in
    let code = array_code pace (copier_of image pace) behind (element_code false kind) (goes_as_it_is false kind) kind
    slot.param.length in
    then_here z {xs = places} {ys = code} {P = HasArray slot spot argument} {R = λ s t. t ≡ placed_out slot spot at can z argument s}
    {S = IsHandedBack slot spot}
    (here z (Placed-left z.code p places code stands)
    (out_runs slot spot at can z argument (pointer_out_code image spot.index) (λ s v. refl)
    (loaded_runs slot spot at can z 6 (omega arith) (λ e. omega arith) (λ e. omega arith) argument
    (argument_offset image spot.index) refl (λ s. refl) place)))
    (whole_here z false array (can_out slot spot at can z loads stores) spot.pointer (tested_out slot spot at can z) pace
    (copier_of image pace) (p + 4 * length places) behind (Placed-right z.code p places code stands)
    (stands_on z.code p places code behind (copier_of image pace) shared))
    (λ s t has made. subst (BeginsArray array) (sym made) (places_out slot spot at can z argument s has))
    (λ s t u has made copied. ended argument s u (subst (λ (x : Data). HasCopied false array x u) made copied))
  where
    ended : (argument : Data → Option ℕ) (s u : Data)
        → HasCopied false (between slot spot (place_behind image spot) can z (slot_of slot spot) spot.pointer)
        (placed_out slot spot (place_behind image spot) can z argument s) u → IsHandedBack slot spot s u
    ended argument s u copied = record {
      bytes = copied.bytes
          ∙ ap (λ (vs : List ℕ). with_numbers s.bytes (element_bytes slot.param.kind) spot.pointer vs)
          (map-id (numbers_at s.bytes (element_bytes slot.param.kind) (slot_of slot spot) slot.param.length));
      others = λ q g h l m o. copied.others q g h l m o
          ∙ unwritten (with_register s.regs 5 (sum_of slot.offset (s.regs 2))) 6 spot.pointer q h
          ∙ unwritten s.regs 5 (sum_of slot.offset (s.regs 2)) q g;
    }

abbrev copying : MachineCode → Slot → Pointed → ℕ → ℕ → ℕ → Setting
copying code slot spot place from to = record {
  code = code;
  allowed = IsCopying spot.frame place (array_bytes slot) from to;
  silent = λ sp. tt;
}

pub array_is_taken : ArrayIsTaken
array_is_taken code start behind image pace slot spot there shared can =
    let z = copying code slot spot (place_before image spot) spot.pointer (slot_of slot spot) in
    does_here z
    (taken_runs image slot spot can z (λ many. (inl refl, refl)) (λ a size lies. (inr lies, refl))
    (λ a size lies. (lies, refl)) pace start behind
    (placed code start (argument_code image pace behind spot.index slot FixedArray) there) shared)

pub array_is_handed_back : ArrayIsHandedBack
array_is_handed_back code start behind image pace slot spot there shared can =
    let z = copying code slot spot (place_behind image spot) (slot_of slot spot) spot.pointer in
    does_here z
    (handed_runs image pace slot spot can z (inl refl, refl) (λ a size lies. (inr lies, refl)) (λ a size lies. (lies, refl))
    start behind (placed code start (copy_out_code image pace behind spot.index slot MutableArray) there) shared)
