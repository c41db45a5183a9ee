-- All arguments, taken one after another: each is what it was at the call, since only the frame is written, and of the
-- registers of arguments only its own.
use Rattle.std.specs.Prelude.{is_some, slice_get, unwrap_or}
use Rattle.std.proofs.Common.{◌≡◌, ◌≢◌, ℕ, zero, suc, ◌+◌, ◌*◌, ◌<◌, ◌≤◌, List, [], ◌∷◌, length, map, Option, Some}
use Rattle.std.proofs.Common.{inl, inr, refl, Bool, true, false, nat_lt, if◌then◌else◌, sym, ap, ◌∙◌, subst, arith}
use Rattle.std.proofs.lemmas.Bool.{and_parts, false≢true, ltb-true}
use Rattle.std.proofs.lemmas.List.{length-map}
use Rattle.expression_code.proofs.program_logic_lemmas.Counted.{no_code, Runs, Setting, weaken_runs}
use Rattle.linked_calls.proofs.Below.{AreBytes, AreData, Arg, argument_code, argument_of, argument_offset}
use Rattle.linked_calls.proofs.Below.{argument_register, argument_registers, arguments_code, arguments_end}
use Rattle.linked_calls.proofs.Below.{Array, array_bytes, ByteMap, CanBeCopied, CanBePut, MachineCode}
use Rattle.linked_calls.proofs.Below.{Data, element_bytes, elements_at, Fields, FixedArray, Form, frame_room, HasArray}
use Rattle.linked_calls.proofs.Below.{is_some-with_number, IsBesides, IsOfCall, IsOnStack, IsReadable, LiesIn, meant}
use Rattle.linked_calls.proofs.Below.{MutableArray, number_at, number_at_same, passed_in, place_before, place_behind}
use Rattle.linked_calls.proofs.Below.{Placed, Placed-left, Placed-right}
use Rattle.linked_calls.proofs.Below.{Pointed, ReadsAnArray, room_base, SingleWord, CallSite, Size, Slot, State}
use Rattle.linked_calls.proofs.Below.{stacked_offset, with_argument, with_arguments, with_numbers}
use Rattle.linked_calls.proofs.Below.{argument_steps, taken_steps, with_number_outside, WritesAnArray}
use Rattle.language.specs.declared.values.Arg.TheVariants.{Word}
use Rattle.linked_calls.specs.Calls.{ArePassed, IsPassed}
use Rattle.rv_machine.specs.declared.memory.Size.TheVariants as sizes
use Rattle.rv_machine.specs.declared.observation.Event.TheVariants as event
use Rattle.linked_calls.proofs.Between.{PlaceBehind, saved_at}
use Rattle.linked_calls.proofs.Bytes.{IsOutside, SameData, number_there, numbers_count, numbers_outside, numbers_same}
use Rattle.linked_calls.proofs.ByteData.{number_stays, numbers_stay}
use Rattle.linked_calls.proofs.Bytes.{is_some-with_numbers}
use Rattle.linked_calls.proofs.Copies.{taken_runs as copies_run}
use Rattle.linked_calls.proofs.MovedBytes.{meant_same, numbers_moved, one_moved}
use Rattle.linked_calls.proofs.PlacedRuns.{behind_first, here, RunsHere, then_here, weaken_here}
use Rattle.linked_calls.specs.Copies.{CopierStands}
use Rattle.linked_calls.specs.FunctionCode.{copier_of, is_open, is_skipped, needed_code}
use Rattle.linked_calls.proofs.Passed.{Passes, array_outside}
use Rattle.linked_calls.proofs.SavedRegisters.{registers_from}
use Rattle.linked_calls.proofs.SectionSteps.{arguments_steps}
use Rattle.linked_calls.proofs.Rooms.{RoomNumbers, outside_frame}
use Rattle.linked_calls.proofs.SameRegisters.{IsNone, none_of}
use Rattle.linked_calls.proofs.Words.{word_runs}
use Rattle.linked_calls.specs.declared.pace.Pace.{Pace}

-- the setting of a call: its code, and the accesses that it may make
abbrev pub call_setting : Fields → MachineCode → CallSite → Setting
call_setting image code site = record { code = code; allowed = IsOfCall image site; silent = λ sp. tt }

-- what the code of arrays writes, and that of arguments
abbrev pub copying_registers : List ℕ
copying_registers = 5 ∷ 6 ∷ 7 ∷ 28 ∷ 30 ∷ []

abbrev pub taking_registers : List ℕ
taking_registers = 5 ∷ 6 ∷ 7 ∷ 28 ∷ 30 ∷ argument_registers

-- An argument at its slot.

-- how many bytes it takes there
abbrev put_bytes : Slot → Arg → ℕ
put_bytes slot (Word word) = 4
put_bytes slot (Array words) = element_bytes slot.param.kind * length words

put_outside : (frame : ℕ) (bytes : ByteMap) (slot : Slot) (arg : Arg) (x : ℕ)
    → IsOutside (frame + slot.offset) (frame + slot.offset + put_bytes slot arg) x
    → with_argument frame bytes slot arg x ≡ bytes x
put_outside frame bytes slot (Word word) x outside =
    with_number_outside bytes 4 (frame + slot.offset) word x outside
put_outside frame bytes slot (Array words) x outside =
    numbers_outside bytes (element_bytes slot.param.kind) (frame + slot.offset) words x outside

put_data : (frame : ℕ) (bytes : ByteMap) (slot : Slot) (arg : Arg)
    → AreData (frame + slot.offset) (frame + slot.offset + put_bytes slot arg) bytes
    → SameData bytes (with_argument frame bytes slot arg)
put_data frame bytes slot (Word word) there x =
    is_some-with_number bytes 4 (frame + slot.offset) word x (number_there bytes 4 (frame + slot.offset) there)
put_data frame bytes slot (Array words) there x =
    is_some-with_numbers bytes (element_bytes slot.param.kind) (frame + slot.offset) words there x

put_stays : (frame : ℕ) (bytes : ByteMap) (slot : Slot) (arg : Arg) → AreBytes bytes
    → AreBytes (with_argument frame bytes slot arg)
put_stays frame bytes slot (Word word) are = number_stays bytes 4 (frame + slot.offset) word are
put_stays frame bytes slot (Array words) are =
    numbers_stay bytes (element_bytes slot.param.kind) (frame + slot.offset) words are

module _ (image : Fields) (site : CallSite) where
  -- where the i-th argument points
  abbrev pub spot_at : ℕ → Pointed
  spot_at i = record { frame = room_base image site; index = i; pointer = site.pointers i }

  -- What is known of an argument before any state.

  pub record KnownWord (i : ℕ) (slot : Slot) : Type 0 where
    pub can : CanBePut image slot (room_base image site) i
    pub inside : slot.offset + 4 ≤ frame_room image

  -- an array
  pub record KnownArray (i : ℕ) (slot : Slot) : Type 0 where
    pub can : CanBeCopied slot (spot_at i) (place_before image (spot_at i))
    pub readable : IsReadable image site i slot
    pub reads : (a : ℕ) (size : Size) → LiesIn (site.pointers i) (site.pointers i + array_bytes slot) a size
        → ReadsAnArray site 0 image.slots a size
    pub inside : slot.offset + array_bytes slot ≤ frame_room image

  -- and one that is handed back
  pub record KnownOutput (i : ℕ) (slot : Slot) : Type 0 where
    pub known : KnownArray i slot
    pub back : CanBeCopied slot (spot_at i) (place_behind image (spot_at i))
    pub place : PlaceBehind image site (argument_offset image i)
    pub writes : (a : ℕ) (size : Size) → LiesIn (site.pointers i) (site.pointers i + array_bytes slot) a size
        → WritesAnArray site 0 image.slots a size
    pub beside : IsBesides (site.pointers i) (array_bytes slot) (room_base image site) (arguments_end image site)

  abbrev pub IsKnown : ℕ → Slot → Form → Type 0
  IsKnown i slot SingleWord = KnownWord i slot
  IsKnown i slot FixedArray = KnownArray i slot
  IsKnown i slot MutableArray = KnownOutput i slot

  abbrev pub AreKnown : ℕ → List Slot → Type 0
  AreKnown i [] = Unit {0}
  AreKnown i (slot ∷ slots) = IsKnown i slot slot.param.form × AreKnown (i + 1) slots

  -- What is taken: each argument as it is at a call, but that of a slot which is skipped: there stays what it holds.
  module _ (s : State) where
    -- what stands in a slot
    abbrev pub held : Bool → ByteMap → ℕ → Slot → Form → Arg
    held skipped bytes i slot SingleWord = argument_of site s i slot SingleWord
    held skipped bytes i slot FixedArray = argument_of site s i slot FixedArray
    held skipped bytes i slot MutableArray =
        if skipped then Array (map (meant slot.param.kind) (elements_at slot bytes (room_base image site + slot.offset)))
        else argument_of site s i slot MutableArray

    -- the bytes with that in the slot
    abbrev pub taken : Bool → ByteMap → ℕ → Slot → Form → ByteMap
    taken skipped bytes i slot form = with_argument (room_base image site) bytes slot (held skipped bytes i slot form)

    -- in all slots from the i-th on
    abbrev pub all_held : List Bool → ByteMap → ℕ → List Slot → List Arg
    all_held spared bytes i [] = []
    all_held spared bytes i (slot ∷ slots) =
        held (is_skipped spared i slot) bytes i slot slot.param.form
        ∷ all_held spared (taken (is_skipped spared i slot) bytes i slot slot.param.form) (i + 1) slots

    abbrev pub all_taken : List Bool → ByteMap → ℕ → List Slot → ByteMap
    all_taken spared bytes i slots =
        with_arguments (room_base image site) bytes slots (all_held spared bytes i slots)

    -- it lies in the frame

    elements_fit : (i : ℕ) (slot : Slot) → slot.offset + array_bytes slot ≤ frame_room image
        → slot.offset + element_bytes slot.param.kind
        * length (map (meant slot.param.kind) (elements_at slot s.bytes (site.pointers i))) ≤ frame_room image
    elements_fit i slot inside =
        let vs = elements_at slot s.bytes (site.pointers i) in
        let count = length-map vs (meant slot.param.kind)
        ∙ numbers_count s.bytes (element_bytes slot.param.kind) (site.pointers i) slot.param.length in
        subst (λ k. slot.offset + element_bytes slot.param.kind * k ≤ frame_room image) (sym count) inside

    held_fits : (skipped : Bool) (bytes : ByteMap) (i : ℕ) (slot : Slot) → slot.offset + array_bytes slot ≤ frame_room image
        → slot.offset + put_bytes slot (held skipped bytes i slot MutableArray) ≤ frame_room image
    held_fits true bytes i slot inside =
        let vs = elements_at slot bytes (room_base image site + slot.offset) in
        let count = length-map vs (meant slot.param.kind)
        ∙ numbers_count bytes (element_bytes slot.param.kind) (room_base image site + slot.offset) slot.param.length in
        subst (λ k. slot.offset + element_bytes slot.param.kind * k ≤ frame_room image) (sym count) inside
    held_fits false bytes i slot inside = elements_fit i slot inside

    fits : (skipped : Bool) (bytes : ByteMap) (i : ℕ) (slot : Slot) (form : Form) → IsKnown i slot form
        → slot.offset + put_bytes slot (held skipped bytes i slot form) ≤ frame_room image
    fits skipped bytes i slot SingleWord known = known.inside
    fits skipped bytes i slot FixedArray known = elements_fit i slot known.inside
    fits skipped bytes i slot MutableArray known = held_fits skipped bytes i slot known.known.inside

    pub taken_outside : (skipped : Bool) (bytes : ByteMap) (i : ℕ) (slot : Slot) (form : Form) (x : ℕ) → IsKnown i slot form
        → IsOutside (room_base image site) (saved_at image site) x → taken skipped bytes i slot form x ≡ bytes x
    taken_outside skipped bytes i slot form x known outside =
        put_outside (room_base image site) bytes slot (held skipped bytes i slot form) x (by outside)
      where
        by : IsOutside (room_base image site) (saved_at image site) x → IsOutside (room_base image site + slot.offset)
            (room_base image site + slot.offset + put_bytes slot (held skipped bytes i slot form)) x
        by (inl low) = inl (omega arith)
        by (inr high) = let inside = fits skipped bytes i slot form known in inr (omega arith)

    pub all_taken_outside : (spared : List Bool) (bytes : ByteMap) (i : ℕ) (slots : List Slot) (x : ℕ) → AreKnown i slots
        → IsOutside (room_base image site) (saved_at image site) x → all_taken spared bytes i slots x ≡ bytes x
    all_taken_outside spared bytes i [] x known outside = refl
    all_taken_outside spared bytes i (slot ∷ slots) x known outside =
        let skipped = is_skipped spared i slot in
        all_taken_outside spared (taken skipped bytes i slot slot.param.form) (i + 1) slots x known.1 outside
        ∙ taken_outside skipped bytes i slot slot.param.form x known.0 outside

    taken_data : (skipped : Bool) (bytes : ByteMap) (i : ℕ) (slot : Slot) (form : Form) → IsKnown i slot form
        → AreData (room_base image site) (saved_at image site) bytes → SameData bytes (taken skipped bytes i slot form)
    taken_data skipped bytes i slot form known there =
        let inside = fits skipped bytes i slot form known in
        put_data (room_base image site) bytes slot (held skipped bytes i slot form)
        (λ x low high. there x (omega arith) (omega arith))

    pub all_taken_data : (spared : List Bool) (bytes : ByteMap) (i : ℕ) (slots : List Slot) → AreKnown i slots
        → AreData (room_base image site) (saved_at image site) bytes → SameData bytes (all_taken spared bytes i slots)
    all_taken_data spared bytes i [] known there x = refl
    all_taken_data spared bytes i (slot ∷ slots) known there x =
        let skipped = is_skipped spared i slot in
        let same = taken_data skipped bytes i slot slot.param.form known.0 there in
        all_taken_data spared (taken skipped bytes i slot slot.param.form) (i + 1) slots known.1
        (λ y low high. same y ∙ there y low high) x
        ∙ same x

    -- data stays bytes
    taken_stays : (skipped : Bool) (bytes : ByteMap) (i : ℕ) (slot : Slot) (form : Form) → AreBytes bytes
        → AreBytes (taken skipped bytes i slot form)
    taken_stays skipped bytes i slot form are =
        put_stays (room_base image site) bytes slot (held skipped bytes i slot form) are

    -- what a slot holds is put there without change
    held_stays : (bytes : ByteMap) (i : ℕ) (slot : Slot) → is_open MutableArray slot.param.kind ≡ true → AreBytes bytes
        → AreData (room_base image site + slot.offset) (room_base image site + slot.offset + array_bytes slot) bytes
        → bytes ≡ taken true bytes i slot MutableArray
    held_stays bytes i slot opens are there =
        let n = element_bytes slot.param.kind in
        let a = room_base image site + slot.offset in
        let vs = elements_at slot bytes a in
        one_moved bytes bytes bytes (with_numbers bytes n a vs) a a (array_bytes slot)
        (record { inside = λ k few. refl; outside = λ x out. refl })
        (numbers_moved bytes are bytes n a a slot.param.length there)
        ∙ sym (meant_same slot.param.kind bytes a vs opens)

  -- Before and behind.

  -- x2 is the frame's base, data is bytes, room and arguments are data, and the arguments from the i-th on are those of
  -- a call
  pub record TakingBegins (i : ℕ) (Given : State → Type 0) (d : Data) : Type 0 where
    pub stack : d.regs 2 ≡ room_base image site
    pub bytes : AreBytes d.bytes
    pub there : AreData (room_base image site) (arguments_end image site) d.bytes
    pub call : State
    pub passes : Passes image site call i d
    pub given : Given call

  -- an argument is in its slot, as at each call of which it is, or what the slot held
  pub record TakesOne (skipped : Bool) (i : ℕ) (slot : Slot) (form : Form) (d t : Data) : Type 0 where
    pub bytes : (s : State) → Passes image site s i d → t.bytes ≡ taken s skipped d.bytes i slot form
    pub others : (q : ℕ) → IsNone copying_registers q → q ≢ argument_register i → t.regs q ≡ d.regs q

  -- all from the i-th on
  pub record TakesAll (spared : List Bool) (i : ℕ) (slots : List Slot) (d t : Data) : Type 0 where
    pub bytes : (s : State) → Passes image site s i d → t.bytes ≡ all_taken s spared d.bytes i slots
    pub others : (q : ℕ) → IsNone taking_registers q → t.regs q ≡ d.regs q

  -- x2 is the frame's base, data is bytes, room and arguments are data, and the arrays are ready
  pub record ArgumentsBegin (Ready : ByteMap → Type 0) (s : Data) : Type 0 where
    pub stack : s.regs 2 ≡ room_base image site
    pub bytes : AreBytes s.bytes
    pub there : AreData (room_base image site) (arguments_end image site) s.bytes
    pub ready : Ready s.bytes

  -- Registers.

  none_from : (r n i q : ℕ) → IsNone (registers_from r n) q → i < n → q ≢ r + i
  none_from r zero i q none few = absurd (omega arith)
  none_from r (suc n) zero q none few = λ e. none.0 (omega (arith, e))
  none_from r (suc n) (suc i) q none few = λ e. none_from (r + 1) n i q none.1 (omega arith) (omega (arith, e))

  none_taking : (i q : ℕ) → IsNone taking_registers q → q ≢ argument_register i
  none_taking i q none = by (nat_lt i 8) refl
    where
      by : (b : Bool) → nat_lt i 8 ≡ b → q ≢ (if b then 10 + i else 5)
      by true h = none_from 10 8 i q none.1.1.1.1.1 (ltb-true i 8 h)
      by false h = none.0

  other_register : (i j : ℕ) → i < j → 10 + j ≢ argument_register i
  other_register i j more = by (nat_lt i 8) refl
    where
      by : (b : Bool) → nat_lt i 8 ≡ b → 10 + j ≢ (if b then 10 + i else 5)
      by true h = λ e. omega arith
      by false h = λ e. omega arith

  base_other : (i : ℕ) → 2 ≢ argument_register i
  base_other i = by (nat_lt i 8) refl
    where
      by : (b : Bool) → nat_lt i 8 ≡ b → 2 ≢ (if b then 10 + i else 5)
      by true h = λ e. omega arith
      by false h = λ e. omega arith

  none_copying : (j : ℕ) → j < 8 → IsNone copying_registers (10 + j)
  none_copying j few =
      (λ e. omega arith, (λ e. omega arith, (λ e. omega arith, (λ e. omega arith, (λ e. omega arith, tt)))))

  -- One after another.

  module _ (code : MachineCode) (numbers : RoomNumbers image site) where
    abbrev z : Setting
    z = call_setting image code site

    room : saved_at image site ≤ arguments_end image site
    room = omega arith

    -- accesses of the stack, where x2 is the room's base
    pub on_stack : (a n : ℕ) → room_base image site ≤ a → a + n ≤ site.stack → (b : ℕ) (size : Size) → LiesIn a (a + n) b size
        → IsOnStack (room_base image site) site.stack (room_base image site) b size
    on_stack a n from to b size lies = ((omega arith, omega arith), omega arith)

    pub place_allowed : (offset : ℕ) → room_base image site + offset + 4 ≤ arguments_end image site
        → IsOfCall image site (room_base image site) (Some (event.Load (room_base image site + offset) sizes.Word))
    place_allowed offset inside = inl ((omega arith, omega arith), omega arith)

    pub slot_within : (slot : Slot) (n : ℕ) → slot.offset + n ≤ frame_room image
        → room_base image site + slot.offset + n ≤ site.stack
    slot_within slot n inside = omega arith

    -- the place of an argument that no register holds
    stacked_allowed : (i : ℕ) → i < length image.slots → 8 ≤ i
        → IsOfCall image site (room_base image site)
        (Some (event.Load (room_base image site + stacked_offset image i) sizes.Word))
    stacked_allowed i few many = place_allowed (stacked_offset image i) (omega arith)

    -- the arguments behind one that is taken are as they were
    passes_on : (skipped : Bool) (i : ℕ) (slot : Slot) (form : Form) → IsKnown i slot form → (s : State) (d t : Data)
        → Passes image site s i d → TakesOne skipped i slot form d t → Passes image site s (i + 1) t
    passes_on skipped i slot form known s d t passes takes = record {
      raw = λ j from few. by j (nat_lt j 8) refl from few ∙ passes.raw j (omega arith) few;
      outside = λ x out. same x (outside_frame image site numbers x out) ∙ passes.outside x out;
    }
      where
        same : (x : ℕ) → IsOutside (room_base image site) (saved_at image site) x → t.bytes x ≡ d.bytes x
        same x out = ap (λ (b : ByteMap). b x) (takes.bytes s passes) ∙ taken_outside s skipped d.bytes i slot form x known out

        by : (j : ℕ) (b : Bool) → nat_lt j 8 ≡ b → i + 1 ≤ j → j < length image.slots
            → (if b then Some (t.regs (10 + j)) else number_at t.bytes 4 (room_base image site + stacked_offset image j))
            ≡ (if b then Some (d.regs (10 + j)) else number_at d.bytes 4 (room_base image site + stacked_offset image j))
        by j true h from few =
            ap Some (takes.others (10 + j) (none_copying j (ltb-true j 8 h)) (other_register i j (omega arith)))
        by j false h from few =
            number_at_same d.bytes t.bytes 4 (room_base image site + stacked_offset image j)
            (λ x low high. same x (inr (omega arith)))

    -- what stands in memory where an array is copied
    array_begins : (i : ℕ) (slot : Slot) → i < length image.slots → KnownArray i slot → (d : Data)
        → TakingBegins i (λ s. IsPassed site s i slot FixedArray) d
        → HasArray slot (spot_at i) (passed_in image (room_base image site) i) d
    array_begins i slot few known d begins =
        let under = room in
        record {
          stack = begins.stack;
          points = begins.passes.raw i (omega arith) few ∙ ap Some begins.given.pointer;
          array_there = λ x from to. ap is_some
              (begins.passes.outside x (array_outside image site i slot known.readable x from to))
              ∙ begins.given.there x from to;
          slot_there = λ x l h. begins.there x (omega arith) (omega arith);
          bytes = begins.bytes;
        }

    array_is : (i : ℕ) (slot : Slot) → IsReadable image site i slot → (s : State) (d : Data)
        → Passes image site s i d
        → with_argument (room_base image site) d.bytes slot
        (Array (map (meant slot.param.kind) (elements_at slot d.bytes (site.pointers i))))
        ≡ taken s false d.bytes i slot FixedArray
    array_is i slot readable s d passes =
        ap (λ (vs : List ℕ). with_argument (room_base image site) d.bytes slot (Array (map (meant slot.param.kind) vs)))
        (numbers_same s.bytes d.bytes (element_bytes slot.param.kind) (site.pointers i) slot.param.length
        (λ x from to. passes.outside x (array_outside image site i slot readable x from to)))

    array_here : (pace : Pace) (p behind i : ℕ) (slot : Slot) → i < length image.slots → KnownArray i slot
        → Placed code p (argument_code image pace behind i slot FixedArray)
        → CopierStands code (p + 4 * length (argument_code image pace behind i slot FixedArray)) behind
        (copier_of image pace)
        → RunsHere z p (taken_steps image pace i slot (site.pointers i))
        (argument_code image pace behind i slot FixedArray) (TakingBegins i (λ s. IsPassed site s i slot FixedArray))
        (TakesOne false i slot FixedArray)
    array_here pace p behind i slot few known stands shared =
        let at = room_base image site + slot.offset in
        weaken_here z {P' = TakingBegins i (λ s. IsPassed site s i slot FixedArray)} {R' = TakesOne false i slot FixedArray}
        (copies_run image slot (spot_at i) known.can z (stacked_allowed i few)
        (λ a size lies. inr (known.reads a size lies))
        (λ a size lies. inl (on_stack at (array_bytes slot) (omega arith)
        (slot_within slot (array_bytes slot) known.inside) a size lies)) pace p behind stands shared)
        (array_begins i slot few known)
        (λ d t begins copied. record {
          bytes = λ s passes. copied.bytes ∙ array_is i slot known.readable s d passes;
          others = λ q none other. copied.others q none.0 none.1.0 none.1.1.0 none.1.1.1.0 none.1.1.1.1.0;
        })

    argument_here : (pace : Pace) (p behind i : ℕ) (slot : Slot) (form : Form) → i < length image.slots → IsKnown i slot form
        → Placed code p (argument_code image pace behind i slot form)
        → CopierStands code (p + 4 * length (argument_code image pace behind i slot form)) behind (copier_of image pace)
        → RunsHere z p (argument_steps image pace site.pointers i slot form) (argument_code image pace behind i slot form)
        (TakingBegins i (λ s. IsPassed site s i slot form)) (TakesOne false i slot form)
    argument_here pace p behind i slot SingleWord few known stands shared =
        let under = room in
        let ends = slot_within slot 4 known.inside in
        here z stands
        (weaken_runs z {P' = TakingBegins i (λ s. IsPassed site s i slot SingleWord)} {R' = TakesOne false i slot SingleWord}
        (word_runs z image slot (room_base image site) i known.can (stacked_allowed i few)
        (inl ((omega arith, omega arith), omega arith)))
        (λ d begins. record {
          stack = begins.stack;
          passed = ap is_some (begins.passes.raw i (omega arith) few);
          slot_there = λ x l h. begins.there x (omega arith) (omega arith);
        })
        (λ d t begins put. record {
          bytes = λ s passes. put.bytes
              ∙ ap (λ (o : Option ℕ). with_argument (room_base image site) d.bytes slot
              (Word (meant slot.param.kind (unwrap_or o 0)))) (passes.raw i (omega arith) few);
          others = λ q none other. put.others q other none.1.1.1.0;
        }))
    argument_here pace p behind i slot FixedArray few known stands shared =
        array_here pace p behind i slot few known stands shared
    argument_here pace p behind i slot MutableArray few known stands shared =
        weaken_here z {P' = TakingBegins i (λ s. IsPassed site s i slot MutableArray)}
        {R' = TakesOne false i slot MutableArray} (array_here pace p behind i slot few known.known stands shared)
        (λ d begins. record {
          stack = begins.stack;
          bytes = begins.bytes;
          there = begins.there;
          call = begins.call;
          passes = begins.passes;
          given = begins.given;
        })
        (λ d t begins takes. record { bytes = takes.bytes; others = takes.others })

    -- of an array that is skipped there is no code
    skipped_runs : (i : ℕ) (slot : Slot) (form : Form) → IsKnown i slot form → is_open form slot.param.kind ≡ true
        → Runs z 0 [] (TakingBegins i (λ s. IsPassed site s i slot form)) (TakesOne true i slot form)
    skipped_runs i slot SingleWord known opens = absurd (false≢true opens)
    skipped_runs i slot FixedArray known opens = absurd (false≢true opens)
    skipped_runs i slot MutableArray known opens =
        let under = room in
        let inside = known.known.inside in
        no_code z (λ d begins. record {
          bytes = λ s passes. held_stays s d.bytes i slot opens begins.bytes
              (λ x low high. begins.there x (omega arith) (omega arith));
          others = λ q none other. refl;
        })

    needed_here : (pace : Pace) (skipped : Bool) (p behind i : ℕ) (slot : Slot) (form : Form) → i < length image.slots
        → IsKnown i slot form → (skipped ≡ true → is_open form slot.param.kind ≡ true)
        → Placed code p (if skipped then [] else argument_code image pace behind i slot form)
        → CopierStands code (p + 4 * length (if skipped then [] else argument_code image pace behind i slot form)) behind
        (copier_of image pace)
        → RunsHere z p (if skipped then 0 else argument_steps image pace site.pointers i slot form)
        (if skipped then [] else argument_code image pace behind i slot form)
        (TakingBegins i (λ s. IsPassed site s i slot form)) (TakesOne skipped i slot form)
    needed_here pace true p behind i slot form few known opens stands shared =
        here z stands (skipped_runs i slot form known (opens refl))
    needed_here pace false p behind i slot form few known opens stands shared =
        argument_here pace p behind i slot form few known stands shared

    -- all of them
    pub arguments_here : (pace : Pace) (spared : List Bool) (p behind i : ℕ) (slots : List Slot)
        → i + length slots ≡ length image.slots → AreKnown i slots
        → Placed code p (arguments_code image pace spared behind i slots)
        → CopierStands code p (length (arguments_code image pace spared behind i slots) + behind) (copier_of image pace)
        → RunsHere z p (arguments_steps image pace site.pointers spared i slots)
        (arguments_code image pace spared behind i slots)
        (TakingBegins i (λ s. ArePassed site s i slots)) (TakesAll spared i slots)
    arguments_here pace spared p behind i [] count known stands shared =
        here z stands (no_code z (λ d begins. record { bytes = λ s passes. refl; others = λ q none. refl }))
    arguments_here pace spared p behind i (slot ∷ slots) count known stands shared =
        let form = slot.param.form in
        let skipped = is_skipped spared i slot in
        let under = room in
        let rest = arguments_code image pace spared behind (i + 1) slots in
        let one = needed_code image pace spared (length rest + behind) i slot in
        let later = behind_first code p one rest behind (copier_of image pace) shared in
        then_here z {xs = one} {ys = rest}
        (weaken_here z {P' = TakingBegins i (λ s. ArePassed site s i (slot ∷ slots))} {R' = TakesOne skipped i slot form}
        (needed_here pace skipped p (length rest + behind) i slot form (omega arith) known.0
        (λ is. (and_parts (unwrap_or (slice_get spared i) false) (is_open form slot.param.kind) is).1)
        (Placed-left code p one rest stands) later)
        (λ d begins. record {
          stack = begins.stack;
          bytes = begins.bytes;
          there = begins.there;
          call = begins.call;
          passes = begins.passes;
          given = begins.given.0;
        })
        (λ d t begins takes. takes))
        (arguments_here pace spared (p + 4 * length one) behind (i + 1) slots (omega arith) known.1
        (Placed-right code p one rest stands) later)
        (λ d t begins takes.
        let s = begins.call in
        let made = takes.bytes s begins.passes in
        let same = taken_data s skipped d.bytes i slot form known.0 (λ x l h. begins.there x l (omega arith)) in
        record {
          stack = takes.others 2 (none_of copying_registers 2 refl) (base_other i) ∙ begins.stack;
          bytes = subst AreBytes (sym made) (taken_stays s skipped d.bytes i slot form begins.bytes);
          there = λ x l h. ap (λ (b : ByteMap). is_some (b x)) made ∙ same x ∙ begins.there x l h;
          call = s;
          passes = passes_on skipped i slot form known.0 s d t begins.passes takes;
          given = begins.given.1;
        })
        (λ d t u begins takes more. record {
          bytes = λ s passes. more.bytes s (passes_on skipped i slot form known.0 s d t passes takes)
              ∙ ap (λ (b : ByteMap). all_taken s spared b (i + 1) slots) (takes.bytes s passes);
          others = λ q none. more.others q none
              ∙ takes.others q (none.0, (none.1.0, (none.1.1.0, (none.1.1.1.0, (none.1.1.1.1.0, tt)))))
              (none_taking i q none);
        })
