-- The code behind the body, all of it: the result, the arrays, the caller's registers, the room wiped, and the last
-- instruction, which goes back.
use Rattle.compilation.specs.Needs.{Needs}
use Rattle.std.specs.Prelude.{unwrap_or, is_some, IfSome}
use Rattle.std.specs.Option.{option_map}
use Rattle.std.proofs.Common.{◌≡◌, ℕ, suc, ◌+◌, ◌*◌, ◌%◌, ◌^◌, ◌<◌, ◌≤◌, ◌==◌, Bool, true, false, if◌then◌else◌}
use Rattle.std.proofs.Common.{List, [], ◌∷◌, ◌++◌, length, Option}
use Rattle.std.proofs.Common.{Some, None, drop, inl, refl, sym, ap, ◌∙◌, subst, arith, length-append}
use Rattle.std.proofs.lemmas.List.Elements.{All-head}
use Rattle.expression_code.proofs.program_logic_lemmas.Counted.{computes_runs, Runs, Setting, weaken_runs}
use Rattle.linked_calls.proofs.Below.{AreZeroed, arguments_end, arrays_in, at, ByteMap}
use Rattle.linked_calls.proofs.Below.{clear_registers_code, MachineCode, Data, Fields, frame_room}
use Rattle.linked_calls.proofs.Below.{Instr, IsAt, IsImage, IsLeft, IsOfCall, IsSite, JumpRegister}
use Rattle.linked_calls.proofs.Below.{kept_registers, LeadsWithin, number_at, Placed, Placed-left, Placed-right}
use Rattle.linked_calls.proofs.Below.{HasRoomBounds, leave_code, restore_code, result_code, results_code, results_in}
use Rattle.linked_calls.proofs.Below.{ResultSlot, room_base, until_equal, up_code}
use Rattle.linked_calls.proofs.Below.{above_frame, body_words, kept_of, room_of}
use Rattle.linked_calls.proofs.Below.{saved_registers, scratch_registers, CallSite, State, unwritten, wipe_code}
use Rattle.linked_calls.proofs.Below.{with_arrays, with_register, with_result, word_in}
use Rattle.linked_calls.specs.Below.{IsResultSlot, result_end, slots_end}
use Rattle.linked_calls.proofs.AllArguments.{AreKnown, ArgumentsBegin, call_setting, copying_registers}
use Rattle.linked_calls.proofs.AllResults.{all_handed_apart, all_handed_are, HandsBack, results_here}
use Rattle.linked_calls.proofs.Between.{AreReady, CanLeave, Leaves, LeavesEverywhere, leave_at, leave_steps}
use Rattle.linked_calls.proofs.Between.{saved_at, untouched_registers}
use Rattle.linked_calls.proofs.GoingBack.{goes_back}
use Rattle.linked_calls.proofs.KeptRegisters.{left_same, left_then}
use Rattle.linked_calls.proofs.KnownArguments.{all_known}
use Rattle.linked_calls.proofs.SectionSteps.{cleared_steps, jump_steps, leave_steps_are, outputs_steps, restored_steps}
use Rattle.linked_calls.proofs.SharedCode.{onward_runs}
use Rattle.linked_calls.proofs.Parts.{load_runs, same_number}
use Rattle.linked_calls.proofs.Bytes.{number_there}
use Rattle.linked_calls.proofs.Pieces.{placed}
use Rattle.linked_calls.proofs.PlacedRuns.{goes, here, RunsHere, RunsTo, then_here, then_to, to_end}
use Rattle.linked_calls.proofs.Restoring.{BeginsLast, Clears, Leaving, leaving_runs, restored}
use Rattle.linked_calls.proofs.Rooms.{RoomNumbers, room_numbers}
use Rattle.linked_calls.proofs.SameRegisters.{IsNone, all_same, same_beside, same_then, still_same}
use Rattle.linked_calls.proofs.SavedRegisters.{saved_same}
use Rattle.linked_calls.proofs.Standing.{last_placed, leave_placed, results_copier}
use Rattle.expression_code.proofs.program_logic_lemmas.Pieces.{stop_here}
use Rattle.expression_code.specs.program_logic.Pieces.{always}
use Rattle.linked_calls.specs.Callable.{return_at}
use Rattle.linked_calls.specs.Calls.{onward_at, tail_ahead, tail_at}
use Rattle.linked_calls.specs.FunctionCode.{end_code, onward_code, shared_tail, tail_code, tail_entry, up_to_last}
use Rattle.linked_calls.specs.declared.pace.Pace.{Pace}
use Rattle.linked_calls.specs.declared.pace.Pace.TheVariants.{Fast, Small}

-- Where the code stands.

-- the result and the arrays

abbrev first : Fields → Pace → List Instr
first image pace = result_code image.returned ++ results_code image pace (length (end_code image pace)) 0 image.slots

-- the tail but for its last instruction

abbrev clearing : ℕ → List Instr
clearing room = wipe_code room ++ clear_registers_code scratch_registers

abbrev returning : List Instr
returning = JumpRegister 0 1 0 ∷ []

-- where the registers are restored, and where that ends

abbrev restore_at : Fields → Needs → Pace → CallSite → ℕ
restore_at image needs pace site = leave_at image needs pace site + 4 * length (first image pace)

abbrev restored_at : Fields → Needs → Pace → CallSite → ℕ
restored_at image needs pace site = restore_at image needs pace site + 4 * length (restore_code image)

-- and where the tail is entered
abbrev tail_from : Fields → Needs → Pace → CallSite → ℕ
tail_from image needs Fast site = restored_at image needs Fast site
tail_from image needs Small site = tail_at image site

restore_placed : (image : Fields) (pace : Pace) (code : MachineCode) (p : ℕ) → Placed code p (end_code image pace)
    → Placed code p (restore_code image)
restore_placed image Fast code p placed = Placed-left code p (restore_code image) (tail_code (room_of image)) placed
restore_placed image Small code p placed = placed

-- a tail, at a multiple of 4 and below the end of memory
pub record TailStands (code : MachineCode) (p : ℕ) (is : List Instr) : Type 0 where
  pub aligned : p % 4 ≡ 0
  pub below : p < 2 ^ 32
  pub there : Placed code p is

-- the shared one, where it is entered
shared_stands : (code : MachineCode) (p room : ℕ) → Placed code p shared_tail
    → TailStands code (p + tail_entry room) (tail_code room)
shared_stands code p room stands = by (room == 0) refl
  where
    by : (none : Bool) → (room == 0) ≡ none → TailStands code (p + tail_entry room) (tail_code room)
    by true none =
        let rest = Placed-right code p (wipe_code 16) (clear_registers_code scratch_registers ++ returning) stands in
        rw none (record { aligned = rest.0; below = omega (arith, rest.1); there = rest })
    by false none =
        let same : p + 0 ≡ p = omega arith in
        rw (none, same) (record { aligned = stands.0; below = omega (arith, stands.1); there = stands })

tail_length : (room : ℕ) → (length (tail_code room) ≡ length (clearing room) + 1) × (length (tail_code room) ≤ 21)
tail_length room = (length-append (clearing room) returning, by (room == 0))
  where
    by : (none : Bool)
        → length ((if none then [] else until_equal 2 5 up_code) ++ clear_registers_code scratch_registers ++ returning) ≤ 21
    by true = omega arith
    by false = omega arith

module _ (image : Fields) {needs : Needs} {pace : Pace} (code : MachineCode) (site : CallSite) (is : IsImage image)
    (at_site : IsSite image needs pace code site)
    (numbers : RoomNumbers image site) where
  abbrev z : Setting
  z = call_setting image code site

  abbrev base : ℕ
  base = room_base image site

  abbrev end : ℕ
  end = arguments_end image site

  known : AreKnown image site 0 image.slots
  known = all_known image site is at_site.arrays numbers

  -- room and arguments are data, and the arrays are ready
  abbrev Starts : Data → Type 0
  Starts = ArgumentsBegin image site (λ bytes. AreReady image site bytes 0 image.slots)

  -- The result.

  abbrev result_of : ByteMap → Option ResultSlot → ℕ
  result_of bytes returned = unwrap_or (option_map (λ (slot : ResultSlot). word_in base bytes slot.offset) returned) 0

  result_runs : (returned : Option ResultSlot) (low : ℕ)
      → IfSome returned (λ (slot : ResultSlot). IsResultSlot low slot)
      → IfSome returned (λ (slot : ResultSlot). result_end slot ≤ image.frame_bytes)
      → Runs z (length (result_code returned)) (result_code returned) Starts
      (λ s t. t ≡ with_result 10 (result_of s.bytes returned) s)
  result_runs None low slot inside =
      computes_runs z (λ q. q == 10) (result_code None) (λ regs. with_register regs 10 0) refl (λ regs. refl)
  result_runs (Some slot) low is_slot inside =
      weaken_runs z (load_runs z base slot.offset (omega arith) (omega arith)
      (λ s begins. record {
        stack = begins.stack;
        there = number_there s.bytes 4 (base + slot.offset) (λ x l h. begins.there x (omega arith) (omega arith));
      })
      10 (omega arith) (λ e. omega arith) (λ e. omega arith) (inl ((omega arith, omega arith), omega arith)))
      (λ s begins. begins)
      (λ s t begins made. made ∙ ap (λ v. with_result 10 v s) (same_number (number_at s.bytes 4 (base + slot.offset))))

  -- And the arrays.

  abbrev left_bytes : ByteMap → ByteMap
  left_bytes bytes = with_arrays site bytes 0 image.slots (arrays_in base bytes image.slots)

  in_room : (bytes : ByteMap) (x : ℕ) → base ≤ x → x < end → left_bytes bytes x ≡ bytes x
  in_room bytes x low high =
      ap (λ (b : ByteMap). b x) (sym (all_handed_are image code site numbers bytes 0 image.slots known))
      ∙ all_handed_apart image code site numbers bytes 0 image.slots x known low high

  record Handed (s t : Data) : Type 0 where
    result : t.regs 10 ≡ result_of s.bytes image.returned
    bytes : t.bytes ≡ left_bytes s.bytes
    others : (q : ℕ) → IsNone (10 ∷ copying_registers) q → t.regs q ≡ s.regs q

  -- Where they stand.

  abbrev start : ℕ
  start = leave_at image needs pace site

  abbrev result : List Instr
  result = result_code image.returned

  abbrev results : List Instr
  results = results_code image pace (length (end_code image pace)) 0 image.slots

  all_placed : Placed code start (first image pace ++ end_code image pace)
  all_placed = leave_placed image code site at_site

  first_placed : Placed code start (result ++ results)
  first_placed = Placed-left code start (first image pace) (end_code image pace) all_placed

  end_placed : Placed code (restore_at image needs pace site) (end_code image pace)
  end_placed = Placed-right code start (first image pace) (end_code image pace) all_placed

  results_behind : start + 4 * length result + 4 * (length results + length (end_code image pace))
      ≡ start + 4 * length (leave_code image pace)
  results_behind =
      let a = length-append (first image pace) (end_code image pace) in
      let b = length-append result results in
      omega arith

  handed_here : RunsHere z start (length result + outputs_steps image pace site.pointers 0 image.slots) (result ++ results)
      Starts Handed
  handed_here =
      then_here z {xs = result} {ys = results} {P = Starts} {R = λ s t. t ≡ with_result 10 (result_of s.bytes image.returned) s}
      {S = Handed}
      (here z (Placed-left code start result results first_placed)
      (result_runs image.returned (slots_end 0 image.slots) is.returned is.returned_inside))
      (results_here image code site numbers pace (start + 4 * length result) (length (end_code image pace)) known
      (Placed-right code start result results first_placed)
      (results_copier image code site at_site (start + 4 * length result) results_behind))
      (λ s t begins made. subst (ArgumentsBegin image site (λ bytes. AreReady image site bytes 0 image.slots)) (sym made)
      (record {
        stack = begins.stack;
        bytes = begins.bytes;
        there = begins.there;
        ready = begins.ready;
      }))
      (λ s t u begins made takes. ended s t u made takes)
    where
      ended : (s t u : Data) → t ≡ with_result 10 (result_of s.bytes image.returned) s
          → HandsBack (λ x. with_arrays site x.bytes 0 image.slots (arrays_in base x.bytes image.slots)) t u → Handed s u
      ended s t u made takes =
          let from = subst
          (λ (x : Data). HandsBack (λ y. with_arrays site y.bytes 0 image.slots (arrays_in base y.bytes image.slots)) x u)
          made takes in
          record {
            result = (same_beside copying_registers u.regs (with_register s.regs 10 (result_of s.bytes image.returned))
                from.others (10 ∷ []) refl).0;
            bytes = from.bytes;
            others = λ q none. from.others q none.1
                ∙ unwritten s.regs 10 (result_of s.bytes image.returned) q none.0;
          }

  -- The caller's registers.

  leaving : Leaving z (body_words image.words) base (frame_room image) (above_frame image)
  leaving =
      let ends = numbers.ends in
      leaving_runs z (body_words image.words) base (frame_room image) (above_frame image) numbers.even numbers.whole
      numbers.above_whole (omega (arith, numbers.above_least)) numbers.above_most (omega arith)
      (λ x low high. inl ((omega arith, omega arith), omega arith))
      (λ sp x low high above. inl ((omega arith, omega arith), above))

  abbrev top : ℕ
  top = base + (frame_room image + above_frame image)

  abbrev back_again : Data → Data
  back_again = restored (body_words image.words) base (frame_room image) (above_frame image)

  -- results and arrays are handed back, and the registers are the caller's
  record Restored (s u : Data) : Type 0 where
    middle : Data
    handed : Handed s middle
    begins : BeginsLast base top middle
    same : u ≡ back_again middle

  abbrev restored_steps_all : ℕ
  restored_steps_all =
      length (result_code image.returned) + outputs_steps image pace site.pointers 0 image.slots + restored_steps image

  restored_here : RunsHere z start restored_steps_all (first image pace ++ restore_code image) Starts Restored
  restored_here =
      let ends = numbers.ends in
      let begins_last = λ (s t : Data) (begins : Starts s) (handed : Handed s t).
      let begins' : BeginsLast base top t = record {
        stack = (same_beside (10 ∷ copying_registers) t.regs s.regs handed.others (2 ∷ []) refl).0 ∙ begins.stack;
        there = λ x low high.
            let under : x < end = omega arith in
            ap (λ (b : ByteMap). is_some (b x)) handed.bytes ∙ ap is_some (in_room s.bytes x low under)
            ∙ begins.there x low under;
      } in
      begins' in
      then_here z {xs = first image pace} {ys = restore_code image} {P = Starts} {S = Restored} handed_here
      (here z (restore_placed image pace code (restore_at image needs pace site) end_placed) leaving.restores)
      begins_last
      (λ s t u begins handed same. record { middle = t; handed = handed; begins = begins_last s t begins handed; same = same })

  -- The tail.

  abbrev tail : ℕ
  tail = tail_from image needs pace site

  clears_here : TailStands code tail (tail_code (room_of image))
      → RunsTo z tail (tail + 4 * length (clearing (room_of image))) (cleared_steps image)
      (HasRoomBounds base (frame_room image + above_frame image)) (Clears base top)
  clears_here stands = to_end z
      (here z (Placed-left code tail (clearing (room_of image)) returning stands.there) leaving.clears)

  -- All but the last instruction.

  -- for whatever the caller had in its registers
  abbrev LeavesAll : Data → Data → Type 0
  LeavesAll s t =
      (regs : ℕ → ℕ) → CanLeave image needs pace site regs (at (leave_at image needs pace site) s)
      → IsLeft image site regs s.bytes (results_in base image s.bytes) (at (return_at image needs pace site) t)

  abbrev front_steps : ℕ
  front_steps = restored_steps_all + (jump_steps pace + cleared_steps image)

  all_left : (s u v : Data) → Restored s u → Clears base top u v → LeavesAll s v
  all_left s u v one clears regs can =
      let ends = numbers.ends in
      let t = one.middle in
      let handed = one.handed in
      let lasts = leaving.lasts t v (subst (λ (x : Data). Clears base top x v) one.same clears) in
      let kept = same_then v.regs t.regs regs untouched_registers
      (lasts.others_same.0, (lasts.others_same.1.0, (lasts.others_same.1.1.0, tt)))
      (still_same (10 ∷ copying_registers) t.regs s.regs regs handed.others untouched_registers refl can.untouched) in
      let saved = lasts.saved regs
      (saved_same s.bytes t.bytes regs (saved_at image site) (kept_of image)
      (λ x low high. ap (λ (b : ByteMap). b x) handed.bytes ∙ in_room s.bytes x (omega arith) (omega arith))
      can.saved)
      (left_then (body_words image.words) saved_registers t.regs s.regs regs
      (left_same (body_words image.words) saved_registers t.regs s.regs
      (same_beside (10 ∷ copying_registers) t.regs s.regs handed.others saved_registers refl))
      can.left) in
      record {
        result = lasts.others_same.1.1.1.0 ∙ handed.result;
        kept = all_same v.regs regs kept_registers
            (kept.0, (lasts.stack ∙ ends ∙ sym can.stack, (kept.1.0, (kept.1.1.0, saved))));
        cleared = lasts.cleared;
        memory = subst (λ x. AreZeroed base x (left_bytes s.bytes) v.bytes) ends
            (subst (λ (b : ByteMap). AreZeroed base top b v.bytes) handed.bytes lasts.zeroed);
      }

  -- The whole, once the tail is reached from where the registers are restored.

  abbrev data_of : State → Data
  data_of s = record { regs = s.regs; bytes = s.bytes }

  module _ (stands : TailStands code tail (tail_code (room_of image)))
      (onward : RunsTo z (restored_at image needs pace site) tail (jump_steps pace)
      (HasRoomBounds base (frame_room image + above_frame image)) (λ s t. t ≡ s))
      (last : tail + 4 * length (clearing (room_of image)) ≡ return_at image needs pace site)
    where
      all_runs : RunsTo z start (return_at image needs pace site) front_steps Starts LeavesAll
      all_runs =
          let count = length-append (first image pace) (restore_code image) in
          let behind : start + 4 * length (first image pace ++ restore_code image) ≡ restored_at image needs pace site =
          omega arith in
          let restores = subst (λ q. RunsTo z start q restored_steps_all Starts Restored) behind (to_end z restored_here) in
          let clears = subst (λ q. RunsTo z tail q (cleared_steps image)
          (HasRoomBounds base (frame_room image + above_frame image)) (Clears base top)) last (clears_here stands) in
          then_to z {P = Starts} {S = LeavesAll} restores
          (then_to z {P = HasRoomBounds base (frame_room image + above_frame image)} {S = Clears base top} onward clears
          (λ s t bounds same. subst (HasRoomBounds base (frame_room image + above_frame image)) (sym same) bounds)
          (λ s t u bounds same cleared. subst (λ (x : Data). Clears base top x u) same cleared))
          (λ s u begins one. subst (HasRoomBounds base (frame_room image + above_frame image)) (sym one.same)
          (leaving.at_top one.middle one.begins))
          (λ s u v begins one clears. all_left s u v one clears)

      last_stands : IsAt code (return_at image needs pace site) (JumpRegister 0 1 0)
      last_stands =
          let last_placed = subst (λ q. Placed code q returning) last
          (Placed-right code tail (clearing (room_of image)) returning stands.there) in
          record { aligned = last_placed.0; word = last_placed.2; in_range = (omega arith, omega arith, omega arith) }

      steps_counted : suc front_steps ≡ leave_steps image pace site.pointers
      steps_counted =
          let all = leave_steps_are image pace site.pointers in
          omega arith

      pub leaves_by : Leaves image needs pace code site
      leaves_by = record {
        shown = (all_runs.leak []).0;
        runs = λ regs s can.
            let d = data_of s in
            let a = goes z all_runs d (record {
              stack = can.base;
              bytes = can.bytes;
              there = can.there;
              ready = can.ready;
            }) in
            let there : at start d ≡ s = ap (λ p. at p d) (sym can.at_leave) in
            let left = a.done regs (subst (λ (x : State). CanLeave image needs pace site regs x) (sym there) can) in
            let last_state = at (return_at image needs pace site) a.end in
            record {
              step_count = front_steps;
              counted = steps_counted;
              end = last_state;
              leads = subst (λ (x : State).
                  LeadsWithin code (IsOfCall image site) front_steps x (all_runs.leak []).0 last_state) there a.leads;
              at_last = refl;
              left = left;
              goes_back = λ even. goes_back code last_state (regs 1) last_stands
                  (All-head (λ r. a.end.regs r ≡ regs r) 1 (drop 1 kept_registers) left.kept) (can.words 1) even;
            };
      }

-- The tail is the function's own, or the shared one.

module _ (image : Fields) (needs : Needs) (code : MachineCode) (site : CallSite) (is : IsImage image) where
  up_to_end : (pace : Pace) → restored_at image needs pace site + 4 * length (end_code image pace)
      ≡ site.entry + 4 * up_to_last image needs pace + 4 * length (restore_code image)
  up_to_end pace = let all = length-append (first image pace) (end_code image pace) in omega arith

  own_tail : (at_site : IsSite image needs Fast code site) (numbers : RoomNumbers image site)
      → Leaves image needs Fast code site
  own_tail at_site numbers =
      let p = restore_at image needs Fast site in
      let placed = Placed-right code p (restore_code image) (tail_code (room_of image))
      (end_placed image code site is at_site numbers) in
      let counts = tail_length (room_of image) in
      let all = length-append (restore_code image) (tail_code (room_of image)) in
      let there = up_to_end Fast in
      let last = Placed-right code (restored_at image needs Fast site) (clearing (room_of image)) returning placed in
      leaves_by image code site is at_site numbers
      (record { aligned = omega (arith, last.0); below = omega (arith, last.1); there = placed })
      (record { leak = always []; runs = λ s rest at given. stop_here s at refl })
      (omega arith)

  shared : (at_site : IsSite image needs Small code site) (numbers : RoomNumbers image site)
      → Leaves image needs Small code site
  shared at_site numbers =
      let stands = shared_stands code site.tail (room_of image) (placed code site.tail shared_tail at_site.tail.0) in
      let counts = tail_length (room_of image) in
      let there = up_to_end Small in
      let all = length-append (first image Small) (end_code image Small) in
      let here : leave_at image needs Small site + 4 * length (leave_code image Small) ≡ onward_at image needs site =
      omega arith in
      let restored_here' : restored_at image needs Small site ≡ onward_at image needs site = omega arith in
      let jump = subst (λ q. Placed code q (onward_code (tail_ahead image needs Small site) ∷ [])) here
      (last_placed image code site at_site) in
      leaves_by image code site is at_site numbers stands
      (subst (λ q. RunsTo (call_setting image code site) q (tail_at image site) 1
      (HasRoomBounds (room_base image site) (frame_room image + above_frame image)) (λ s t. t ≡ s))
      (sym restored_here')
      (onward_runs (call_setting image code site) (onward_at image needs site) (tail_at image site) at_site.tail.1 jump
      stands.aligned stands.below))
      (omega arith)

  by_pace : (pace : Pace) → IsSite image needs pace code site → Leaves image needs pace code site
  by_pace Fast at_site = own_tail at_site (room_numbers image code site at_site)
  by_pace Small at_site = shared at_site (room_numbers image code site at_site)

pub leaves : LeavesEverywhere
leaves image needs pace code site is at_site = by_pace image needs code site is pace at_site
