-- The code before the body leads from a state in which the function is called to one in which its body begins.
use Rattle.std.specs.Prelude.{is_some}
use Rattle.std.proofs.Common.{◌≡◌, ◌≢◌, ℕ, ◌+◌, ◌-◌, ◌*◌, ◌^◌, ◌<◌, ◌≤◌, Bool, true, false, nat_lt, if◌then◌else◌, List}
use Rattle.std.proofs.Common.{[], None, Option}
use Rattle.std.proofs.Common.{◌∷◌, ◌++◌, length, map, Some, inl, inr, ⊎_elim, refl, sym, ap, ◌∙◌, subst, arith, length-append}
use Rattle.std.proofs.lemmas.Bool.{cases_lt, ltb-false, ltb-true}
use Rattle.std.proofs.lemmas.List.{length-map}
use Rattle.expression_code.proofs.program_logic_lemmas.Counted.{makes_then, Runs, Setting}
use Rattle.linked_calls.proofs.Below.{above_frame, AreBytes, AreData, first_argument}
use Rattle.linked_calls.proofs.Below.{arguments_end, arguments_of, at}
use Rattle.linked_calls.proofs.Below.{arguments_code, ByteMap, MachineCode, Data, entry_code, Fields, found, Instr}
use Rattle.linked_calls.proofs.Below.{Placed-left, Placed-right}
use Rattle.linked_calls.proofs.Below.{frame_room, HasFrame, IsCalled, IsImage, IsOfCall, IsSite}
use Rattle.linked_calls.proofs.Below.{LeadsWithin, number_at, number_at_same, room_base, saved_registers}
use Rattle.linked_calls.proofs.Below.{body_words, CallSite, kept_of, needed_from, needed_of, stacked_offset, State, unwritten}
use Rattle.linked_calls.proofs.Below.{with_numbers, word_in}
use Rattle.linked_calls.specs.Calls.{ArePassed}
use Rattle.linked_calls.proofs.AllArguments.{AreKnown, TakesAll, TakingBegins, all_held, all_taken, all_taken_data}
use Rattle.linked_calls.proofs.HeldArguments.{held_agree, held_within}
use Rattle.linked_calls.proofs.AllArguments.{all_taken_outside, arguments_here, call_setting}
use Rattle.linked_calls.proofs.AllArguments.{taking_registers}
use Rattle.linked_calls.proofs.Between.{AreSaved, EnteringLeads, IsEntered, IsOutsideRoom, body_at}
use Rattle.linked_calls.proofs.Between.{enter_steps, saved_at, untouched_registers}
use Rattle.linked_calls.proofs.Bytes.{IsOutside, SameData, number_there, numbers_outside, is_some-with_numbers}
use Rattle.linked_calls.proofs.ByteData.{numbers_stay}
use Rattle.linked_calls.proofs.SectionSteps.{arguments_steps, enter_steps_are, entry_steps, steps_for}
use Rattle.linked_calls.proofs.Entering.{entered, entered_bytes, entry_runs}
use Rattle.linked_calls.proofs.KeptRegisters.{kept_fitting}
use Rattle.linked_calls.proofs.KnownArguments.{all_known}
use Rattle.linked_calls.proofs.Parts.{same_number}
use Rattle.linked_calls.proofs.Passed.{Passes, StandAsPassed, all_ready, still_passed}
use Rattle.linked_calls.proofs.PlacedRuns.{counted_here, does_here, here, RunsHere, then_here}
use Rattle.linked_calls.proofs.Rooms.{RoomNumbers, outside_frame, place_stacked, room_numbers}
use Rattle.linked_calls.proofs.SameRegisters.{AreSame, are_none, same_beside}
use Rattle.linked_calls.proofs.SavedRegisters.{stored_are_saved, saved_same, saved_taken}
use Rattle.linked_calls.proofs.Standing.{arguments_copier, enter_placed, entering_code}
use Rattle.linked_calls.proofs.BlankWords.{frame_readied, IsReadied}
use Rattle.linked_calls.specs.FunctionCode.{frame_code, from_body}
use Rattle.compilation.specs.Begun.{IsBegun}
use Rattle.compilation.specs.Blank.{IsBlank}
use Rattle.compilation.specs.Needs.{Needs}
use Rattle.linked_calls.specs.declared.pace.Pace.{Pace}

some_byte : (o : Option ℕ) → is_some o ≡ true → (byte : ℕ) × (o ≡ Some byte)
some_byte (Some byte) there = (byte, refl)
some_byte None there = cc

module _ (image : Fields) (needs : Needs) (pace : Pace) (code : MachineCode) (site : CallSite) (is : IsImage image)
    (is_site : IsSite image needs pace code site)
    (numbers : RoomNumbers image site) where
  abbrev z : Setting
  z = call_setting image code site

  abbrev frame : ℕ
  frame = room_base image site

  abbrev room : ℕ
  room = frame_room image

  abbrev above : ℕ
  above = saved_at image site

  abbrev at_call : Data → State
  at_call d = at site.entry d

  abbrev Called : Data → Type 0
  Called d = IsCalled image site (at_call d)

  known : AreKnown image site 0 image.slots
  known = all_known image site is is_site.arrays numbers

  -- What the entry stores.

  abbrev kept : List ℕ
  kept = kept_of image

  abbrev given : List ℕ
  given = needed_of image

  abbrev beyond : ℕ
  beyond = above_frame image

  abbrev high : ℕ
  high = above + (beyond - 4 * length given)

  abbrev stored : Data → ByteMap
  stored d = entered_bytes kept (needed_from 0 image.slots) above high d

  -- with what is kept alone
  abbrev stored_first : Data → ByteMap
  stored_first d = with_numbers d.bytes 4 above (map d.regs kept)

  kept_count : (d : Data) → length (map d.regs kept) ≡ length kept
  kept_count d = length-map kept d.regs

  given_count : (d : Data) → length (map d.regs given) ≡ length given
  given_count d = length-map given d.regs

  stored_outside : (d : Data) (x : ℕ) → IsOutside above (above + beyond) x → stored d x ≡ d.bytes x
  stored_outside d x outside = by outside
    where
      by : IsOutside above (above + beyond) x → stored d x ≡ d.bytes x
      by (inl low) =
          numbers_outside (stored_first d) 4 high (map d.regs given) x (inl (omega arith))
          ∙ numbers_outside d.bytes 4 above (map d.regs kept) x (inl low)
      by (inr up) =
          let few = given_count d in
          let same = kept_count d in
          numbers_outside (stored_first d) 4 high (map d.regs given) x (inr (omega arith))
          ∙ numbers_outside d.bytes 4 above (map d.regs kept) x (inr (omega arith))

  stored_kept : (d : Data) → ((r : ℕ) → d.regs r < 2 ^ 32) → AreSaved (stored d) d.regs above kept
  stored_kept d words =
      saved_same (stored_first d) (stored d) d.regs above kept
      (λ x low up. numbers_outside (stored_first d) 4 high (map d.regs given) x (inl (omega arith)))
      (stored_are_saved d.bytes d.regs above kept words)

  stored_given : (d : Data) → ((r : ℕ) → d.regs r < 2 ^ 32) → AreSaved (stored d) d.regs high given
  stored_given d words = stored_are_saved (stored_first d) d.regs high given words

  above_there : (d : Data) → Called d → AreData above (above + beyond) d.bytes
  above_there d called x low high = called.there x (omega arith) (omega arith)

  first_data : (d : Data) → Called d → SameData d.bytes (stored_first d)
  first_data d called x =
      let same = kept_count d in
      is_some-with_numbers d.bytes 4 above (map d.regs kept)
      (λ y low up. above_there d called y low (omega arith)) x

  stored_stays : (d : Data) → AreBytes d.bytes → AreBytes (stored d)
  stored_stays d are =
      numbers_stay (stored_first d) 4 high (map d.regs given)
      (numbers_stay d.bytes 4 above (map d.regs kept) are)

  stored_data : (d : Data) → Called d → SameData d.bytes (stored d)
  stored_data d called x =
      let few = given_count d in
      is_some-with_numbers (stored_first d) 4 high (map d.regs given)
      (λ y low up. first_data d called y ∙ above_there d called y (omega arith) (omega arith)) x
      ∙ first_data d called x

  -- Arguments, as they stand then.

  -- those of the caller on the stack
  stacked_raw : (d : Data) → Called d → (bytes : ByteMap)
      → ((x : ℕ) → site.stack ≤ x → bytes x ≡ d.bytes x) → (i : ℕ) → 8 ≤ i → i < length image.slots
      → number_at bytes 4 (frame + stacked_offset image i) ≡ Some (word_in site.stack d.bytes (4 * (i - 8)))
  stacked_raw d called bytes same i many few =
      let a = site.stack + 4 * (i - 8) in
      ap (λ x. number_at bytes 4 x) (place_stacked image site numbers i)
      ∙ number_at_same d.bytes bytes 4 a (λ x low high. same x (omega arith))
      ∙ found (number_at d.bytes 4 a)
      (number_there d.bytes 4 a (λ x low high. called.there x (omega arith) (omega arith)))
      ∙ ap Some (same_number (number_at d.bytes 4 a))

  raw_by : (d : Data) → Called d → (i : ℕ) (b : Bool) → nat_lt i 8 ≡ b → (i < 8 → i < length given)
      → i < length image.slots
      → number_at (stored d) 4 (frame + (if b then room + first_argument image + 4 * i else stacked_offset image i))
      ≡ Some (if b then d.regs (10 + i) else word_in site.stack d.bytes (4 * (i - 8)))
  raw_by d called i true h is_stored few =
      let small = ltb-true i 8 h in
      let own = is_stored small in
      let place : frame + (room + first_argument image + 4 * i) ≡ high + 4 * i = omega arith in
      ap (λ x. number_at (stored d) 4 x) place
      ∙ saved_taken (stored d) d.regs high 10 (needed_from 0 image.slots) 8 i (omega (arith, own, numbers.needed_count))
      small (stored_given d called.words)
  raw_by d called i false h is_stored few =
      stacked_raw d called (stored d) (λ x from. stored_outside d x (inr (omega arith))) i (ltb-false i 8 h) few

  room_above : (x : ℕ) → IsOutsideRoom image site x → IsOutside above (above + beyond) x
  room_above x (inl low) = inl (omega arith)
  room_above x (inr high) = inr (omega arith)

  passed : (d : Data) → Called d → StandAsPassed image site (at_call d) (stored d)
  passed d called = record {
    raw = λ i is_stored few. raw_by d called i (nat_lt i 8) refl is_stored few;
    outside = λ x outside. stored_outside d x (room_above x outside);
  }

  -- The entry and the frame.

  abbrev entering : Data → Data
  entering d = entered kept (needed_from 0 image.slots) above high d

  entry_part : Runs z (entry_steps image pace site.pointers) (entry_code image) Called (λ d t. t ≡ entering d)
  entry_part =
      entry_runs kept (needed_from 0 image.slots) z above beyond (omega arith) numbers.above_whole numbers.above_least
      numbers.above_most (kept_fitting (body_words image.words)) (omega arith)
      (λ x low high. inl ((omega arith, omega arith), low))
      (λ d called. (omega (arith, called.stack), above_there d called))

  frame_part : Runs z (steps_for pace room needs.blank) (frame_code pace room needs.blank) (HasFrame frame room)
      (IsReadied needs.blank image.frame_bytes frame room)
  frame_part =
      frame_readied z image.frame_bytes frame room numbers.even numbers.whole (omega arith)
      (λ sp x low high above. inl ((omega arith, omega arith), above)) pace needs.blank numbers.holds

  -- x2 is the frame's base, its words that have to be are zeros, and the room above it holds what the entry has stored
  record IsFramed (d t : Data) : Type 0 where
    stack : t.regs 2 ≡ frame
    others : (q : ℕ) → q ≢ 2 → q ≢ 5 → t.regs q ≡ d.regs q
    bytes : AreBytes t.bytes
    blank_words : IsBlank needs.blank image.frame_bytes frame t.bytes
    there : AreData frame above t.bytes
    outside : (x : ℕ) → IsOutside frame above x → t.bytes x ≡ stored d x

  frame_begins : (d : Data) → Called d → HasFrame frame room (entering d)
  frame_begins d called =
      record { stack = refl; there = λ x low high. stored_data d called x ∙ called.there x low (omega arith) }

  framed : (d u : Data) → Called d → IsReadied needs.blank image.frame_bytes frame room (entering d) u → IsFramed d u
  framed d u called readied = record {
    stack = readied.stack;
    others = λ q two five. readied.others q two five ∙ unwritten d.regs 2 above q two;
    bytes = readied.bytes (stored_stays d called.bytes);
    blank_words = readied.blank_words;
    there = λ x low high. readied.data_same x ((frame_begins d called).there x low high);
    outside = readied.outside;
  }

  framed_part : Runs z (entry_steps image pace site.pointers + steps_for pace room needs.blank) (entry_code image ++ frame_code pace room needs.blank)
      Called IsFramed
  framed_part = makes_then z {f = entering} entry_part frame_part frame_begins framed

  -- The arguments.

  framed_passed : (d t : Data) → Called d → IsFramed d t → Passes image site (at_call d) 0 t
  framed_passed d t called frames = record {
    raw = λ i from few. by i (nat_lt i 8) refl few;
    outside = λ x out. frames.outside x (outside_frame image site numbers x out) ∙ stored_outside d x (room_above x out);
  }
    where
      by : (i : ℕ) (b : Bool) → nat_lt i 8 ≡ b → i < length image.slots
          → (if b then Some (t.regs (10 + i)) else number_at t.bytes 4 (frame + stacked_offset image i))
          ≡ Some (if b then d.regs (10 + i) else word_in site.stack d.bytes (4 * (i - 8)))
      by i true h few = ap Some (frames.others (10 + i) (λ e. omega arith) (λ e. omega arith))
      by i false h few =
          stacked_raw d called t.bytes
          (λ x from. frames.outside x (inr (omega arith)) ∙ stored_outside d x (inr (omega arith))) i (ltb-false i 8 h) few

  framed_there : (d t : Data) → Called d → IsFramed d t → AreData frame (arguments_end image site) t.bytes
  framed_there d t called frames x low high =
      ⊎_elim
      (λ (e : x < above). frames.there x low e)
      (λ (e : above ≤ x). ap is_some (frames.outside x (inr e)) ∙ stored_data d called x ∙ called.there x low high)
      (cases_lt x above)

  taking_begins : (d t : Data) → Called d → IsFramed d t
      → TakingBegins image site 0 (λ s. ArePassed site s 0 image.slots) t
  taking_begins d t called frames = record {
    stack = frames.stack;
    bytes = frames.bytes;
    there = framed_there d t called frames;
    call = at_call d;
    passes = framed_passed d t called frames;
    given = called.arguments;
  }

  abbrev Takes : Data → Data → Type 0
  Takes = TakesAll image site needs.spared 0 image.slots

  module _ (d t u : Data) (called : Called d) (frames : IsFramed d t) (takes : Takes t u) where
    made : u.bytes ≡ all_taken image site (at_call d) needs.spared t.bytes 0 image.slots
    made = takes.bytes (at_call d) (framed_passed d t called frames)

    taken_outside : (x : ℕ) → IsOutside frame above x → u.bytes x ≡ stored d x
    taken_outside x outside =
        ap (λ (b : ByteMap). b x) made
        ∙ all_taken_outside image site (at_call d) needs.spared t.bytes 0 image.slots x known outside
        ∙ frames.outside x outside

    taken_passed : StandAsPassed image site (at_call d) u.bytes
    taken_passed =
        still_passed image site numbers (at_call d) (stored d) u.bytes taken_outside (passed d called)

    -- registers that neither the frame nor the arguments write
    taken_still : (rs : List ℕ) → are_none (2 ∷ taking_registers) rs ≡ true → AreSame u.regs d.regs rs
    taken_still rs ok =
        same_beside (2 ∷ taking_registers) u.regs d.regs
        (λ q none. takes.others q none.1 ∙ frames.others q none.0 none.1.0) rs ok

    taken_begun : IsBegun image needs frame (arguments_of image site (at_call d)) (at (body_at image needs pace site) u)
    taken_begun = record {
      base = (same_beside taking_registers u.regs t.regs takes.others (2 ∷ []) refl).0 ∙ frames.stack;
      before = t.bytes;
      are_bytes = λ o inside.
          let there = some_byte (t.bytes (frame + o)) (frames.there (frame + o) (omega arith) (omega arith)) in
          (there.0, there.1, frames.bytes (frame + o) there.0 there.1);
      blank_before = frames.blank_words;
      put = all_held image site (at_call d) needs.spared t.bytes 0 image.slots;
      put_within = held_within image site (at_call d) needs.spared t.bytes 0 image.slots;
      put_agree = held_agree image site (at_call d) needs.spared t.bytes;
      frame_there = λ o inside. ap (λ (b : ByteMap). b (frame + o)) made;
    }

    room_there : AreData frame site.stack u.bytes
    room_there x low high =
        ap (λ (b : ByteMap). is_some (b x)) made
        ∙ all_taken_data image site (at_call d) needs.spared t.bytes 0 image.slots known (λ y from to. frames.there y from to) x
        ∙ framed_there d t called frames x low (omega arith)

    is_entered : IsEntered image needs pace site (at_call d) (at (body_at image needs pace site) u)
    is_entered = record {
      at_body = refl;
      begun = taken_begun;
      untouched = taken_still untouched_registers refl;
      still = taken_still saved_registers refl;
      saved = saved_same (stored d) u.bytes d.regs above kept (λ x low high. taken_outside x (inr low))
          (stored_kept d called.words);
      ready = all_ready image site numbers (at_call d) u.bytes taken_passed 0 image.slots
          (omega (arith, numbers.needed_count)) (omega arith) is_site.arrays called.arguments;
      outside = taken_passed.outside;
      there = room_there;
    }

  -- where the arguments' code stands

  abbrev first : List Instr
  first = entry_code image ++ frame_code pace room needs.blank

  abbrev taking : List Instr
  taking = arguments_code image pace needs.spared (from_body image pace) 0 image.slots

  taking_ends : site.entry + 4 * length first + 4 * length taking ≡ body_at image needs pace site
  taking_ends = omega (arith, length-append first taking)

  enter_part : RunsHere z site.entry (entry_steps image pace site.pointers + steps_for pace room needs.blank + arguments_steps image pace site.pointers needs.spared 0 image.slots)
      (entering_code image needs pace) Called
      (λ d t. IsEntered image needs pace site (at_call d) (at (body_at image needs pace site) t))
  enter_part =
      let stands = enter_placed image code site is_site in
      then_here z {xs = first} {ys = taking}
      {S = λ d t. IsEntered image needs pace site (at_call d) (at (body_at image needs pace site) t)}
      (here z (Placed-left code site.entry first taking stands) framed_part)
      (arguments_here image site code numbers pace needs.spared (site.entry + 4 * length first) (from_body image pace) 0
      image.slots (omega arith) known (Placed-right code site.entry first taking stands)
      (arguments_copier image code site is_site (site.entry + 4 * length first) taking_ends))
      taking_begins is_entered

-- The state at the call, as the part has it.

at_own : (site : CallSite) (image : Fields) (s : State) → IsCalled image site s
    → at site.entry (record { regs = s.regs; bytes = s.bytes }) ≡ s
at_own site image s called = ap (λ p. at p (record { regs = s.regs; bytes = s.bytes })) (sym called.at_entry)

pub enters : EnteringLeads
enters image needs pace code site is is_site =
    let z = call_setting image code site in
    let part = does_here z
    (counted_here z (sym (enter_steps_are image pace site.pointers needs))
    (enter_part image needs pace code site is is_site (room_numbers image code site is_site))) in
    record {
      shown = part.shown;
      runs = λ s called.
          let d : Data = record { regs = s.regs; bytes = s.bytes } in
          let own = at_own site image s called in
          let run = part.runs d (subst (λ (x : State). IsCalled image site x) (sym own) called) in
          let end = at (body_at image needs pace site) run.end in
          record {
            end = end;
            leads = subst (λ (x : State). LeadsWithin code (IsOfCall image site) (enter_steps image needs pace site.pointers) x
                part.shown end)
                own run.leads;
            entered = subst (λ (x : State). IsEntered image needs pace site x end) own run.done;
          };
    }
