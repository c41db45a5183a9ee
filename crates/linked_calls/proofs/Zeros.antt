-- The code that zeroes a frame, and the code that wipes a room: a loop over blocks of 16 bytes, downward over the frame,
-- and upward over all the room.
use Rattle.std.proofs.Common.{◌≡◌, ◌≢◌, ℕ, suc, ◌+◌, ◌-◌, ◌*◌, ◌/◌, ◌%◌, ◌^◌, ◌<◌, ◌≤◌, ◌==◌, Bool, true, false}
use Rattle.std.proofs.Common.{List, [], ◌∷◌, ◌++◌, length, Some, refl, sym, ap, ◌∙◌, subst, arith, append_assoc}
use Rattle.std.proofs.Common.{length-append, if◌then◌else◌}
use Rattle.std.specs.Prelude.{replicate}
use Rattle.std.proofs.lemmas.Bool.{eqb-false, eqb-true}
use Rattle.std.proofs.lemmas.Bool.Decides.{nat_tests}
use Rattle.expression_code.proofs.program_logic_lemmas.Counted.{as_code, computes_runs, in_steps, loop, makes_then}
use Rattle.expression_code.proofs.program_logic_lemmas.Counted.{no_code}
use Rattle.expression_code.proofs.program_logic_lemmas.Counted.{Runs, Setting, weaken_runs}
use Rattle.linked_calls.proofs.Below.{added, AreData, AreZeroed, blocks_steps, ByteMap, MachineCode, constant_code, Data}
use Rattle.linked_calls.proofs.Below.{difference_of, down_code, frame_steps, FrameIsZeroed, HasFrame}
use Rattle.linked_calls.proofs.Below.{HasRoomBounds, Instr, IsStoreIn, IsWiped, IsZeroFrame, Register}
use Rattle.linked_calls.proofs.Below.{RoomIsWiped, sign_extended}
use Rattle.linked_calls.proofs.Below.{Sub, sum_of, until_equal, unwritten, up_code, wipe_code}
use Rattle.linked_calls.proofs.Below.{with_numbers, with_register, with_result, zeros_code}
use Rattle.linked_calls.proofs.Bytes.{no_zeros, is_some-with_numbers, zeroed_words, zeros_down, zeros_up}
use Rattle.linked_calls.specs.Below.{Store, Word}
use Rattle.linked_calls.specs.FunctionCode.{zeroed_code}
use Rattle.linked_calls.proofs.Parts.{number_then, stores_runs}
use Rattle.linked_calls.proofs.Pieces.{does, placed}

abbrev storing : MachineCode → ℕ → ℕ → Setting
storing code bottom room = record { code = code; allowed = IsStoreIn bottom (bottom + room); silent = λ sp. tt }

-- words are stored in a stretch, not below the stack pointer
abbrev pub MayZero : Setting → ℕ → ℕ → Type 0
MayZero z low high = (sp x : ℕ) → low ≤ x → x + 4 ≤ high → sp ≤ x → z.allowed sp (Some (Store x Word))

-- the words of a block
abbrev zeros : List ℕ
zeros = replicate 4 0

-- x2 down and up by a block
lowered : (x a : ℕ) → x ≡ a + 16 → x < 2 ^ 32 → sum_of x (sign_extended 12 4080) ≡ a
lowered x a is below = grind (arith, nat_tests)

raised : (a : ℕ) → a + 16 < 2 ^ 32 → sum_of a (sign_extended 12 16) ≡ a + 16
raised a below = grind (arith, nat_tests)

module _ (z : Setting) (bottom top : ℕ) (below : top < 2 ^ 32) (may : MayZero z bottom top) where
  -- A block: it is zeroed, and x2 moves on.

  abbrev block : ℕ → ℕ → Data → Data
  block a next s = record { regs = with_register s.regs 2 next; bytes = with_numbers s.bytes 4 a zeros }

  -- x2 is there, and it is data
  record HasBlock (x a : ℕ) (s : Data) : Type 0 where
    stack : s.regs 2 ≡ x
    there : AreData a (a + 16) s.bytes

  zeros_run : (a : ℕ) → a % 4 ≡ 0 → bottom ≤ a → a + 16 ≤ top
      → Runs z 4 zeros_code (HasBlock a a)
      (λ s t. t ≡ record { regs = s.regs; bytes = with_numbers s.bytes 4 a zeros })
  zeros_run a even from to =
      weaken_runs z
      (stores_runs z {P = HasBlock a a} a zeros refl even (omega arith) (omega arith)
      (λ x low high. may a x (omega arith) (omega arith) low)
      (λ s has. (has.stack, has.there)))
      (λ s has. has)
      (λ s t has made. made)

  down_run : (x a : ℕ) → x ≡ a + 16 → a % 4 ≡ 0 → bottom ≤ a → x ≤ top
      → Runs z 5 down_code (HasBlock x a) (λ s t. t ≡ block a a s)
  down_run x a is even from to =
      makes_then z {P = HasBlock x a} {f = λ s. with_result 2 (sum_of (s.regs 2) (sign_extended 12 4080)) s}
      (computes_runs z (λ q. q == 2) (added 2 4080 ∷ [])
      (λ regs. with_register regs 2 (sum_of (regs 2) (sign_extended 12 4080))) refl (λ regs. refl))
      (zeros_run a even from (omega arith))
      (λ s has. record { stack = lowered (s.regs 2) a (has.stack ∙ is) (omega (arith, has.stack)); there = has.there })
      (λ s u has made.
      let moved = lowered (s.regs 2) a (has.stack ∙ is) (omega (arith, has.stack)) in
      made ∙ ap (λ y. block a y s) moved)

  up_run : (a next : ℕ) → a + 16 ≡ next → a % 4 ≡ 0 → bottom ≤ a → next ≤ top
      → Runs z 5 up_code (HasBlock a a) (λ s t. t ≡ block a next s)
  up_run a next is even from to =
      makes_then z {P = HasBlock a a} {P' = λ s. Unit {0}}
      {f = λ s. record { regs = s.regs; bytes = with_numbers s.bytes 4 a zeros }}
      (zeros_run a even from (omega arith))
      (computes_runs z (λ q. q == 2) (added 2 16 ∷ [])
      (λ regs. with_register regs 2 (sum_of (regs 2) (sign_extended 12 16))) refl (λ regs. refl))
      (λ s has. tt)
      (λ s u has made.
      let moved : sum_of (s.regs 2) (sign_extended 12 16) ≡ next =
      ap (λ x. sum_of x (sign_extended 12 16)) has.stack ∙ raised a (omega arith) ∙ is in
      made ∙ ap (λ y. block a y s) moved)

  -- Stretches.

  -- x2 has come to an address, x5 is where it stops, and a stretch is zeros
  record Zeroing (x stop low high : ℕ) (s d : Data) : Type 0 where
    stack : d.regs 2 ≡ x
    last : d.regs 5 ≡ stop
    there : AreData bottom top d.bytes
    zeroed : AreZeroed low high s.bytes d.bytes
    others : (q : ℕ) → q ≢ 2 → d.regs q ≡ s.regs q

  -- x2 is there, and x5 where it stops
  record Begins (x stop : ℕ) (s : Data) : Type 0 where
    stack : s.regs 2 ≡ x
    last : s.regs 5 ≡ stop
    there : AreData bottom top s.bytes

  -- Blocks, each by a body: where x2 is before it, where it lies, and what is zeros then.
  module _ (rounds : ℕ) (body : List Instr) (size : length body ≡ 5)
      (stop : ℕ) (x a low high : ℕ → ℕ)
      (inside : (i : ℕ) → i < rounds → (bottom ≤ a i) × (a i + 16 ≤ top))
      (block_runs : (i : ℕ) → i < rounds
      → Runs z 5 body (HasBlock (x i) (a i)) (λ s t. t ≡ block (a i) (x (suc i)) s))
      (joined : (i : ℕ) (one two three : ByteMap) → i < rounds → AreZeroed (low i) (high i) one two
      → AreZeroed (a i) (a i + 16) two three → AreZeroed (low (suc i)) (high (suc i)) one three)
      (apart : (i : ℕ) → i < rounds → x i ≢ stop) (ends : x rounds ≡ stop) (none : high 0 ≤ low 0)
      (some : 0 < rounds) where
    abbrev Zeroed : ℕ → Data → Data → Type 0
    Zeroed i = Zeroing (x i) stop (low i) (high i)

    here : (i : ℕ) → i < rounds → (s d : Data) → Zeroed i s d → HasBlock (x i) (a i) d
    here i few s d held =
        let lies = inside i few in
        record { stack = held.stack; there = λ y l h. held.there y (omega (arith, lies.0)) (omega (arith, lies.1)) }

    one_more : (i : ℕ) → i < rounds → (s d : Data) → Zeroed i s d → Zeroed (suc i) s (block (a i) (x (suc i)) d)
    one_more i few s d held = record {
      stack = refl;
      last = held.last;
      there = λ y l h. is_some-with_numbers d.bytes 4 (a i) zeros (here i few s d held).there y ∙ held.there y l h;
      zeroed = joined i s.bytes d.bytes (with_numbers d.bytes 4 (a i) zeros) few held.zeroed
          (zeroed_words d.bytes (a i) 4);
      others = λ q h. unwritten d.regs 2 (x (suc i)) q h ∙ held.others q h;
    }

    loop_runs : Runs z (6 * rounds) (until_equal 2 5 body) (Begins (x 0) stop) (Zeroed rounds)
    loop_runs =
        in_steps z (omega arith)
        (loop z 2 5 (omega arith, omega arith) body (omega arith) (omega arith) rounds Zeroed
        (λ i few.
        weaken_runs z (block_runs i few) (λ d given. here i few given.0 d given.1)
        (λ d t given made s held.
        subst (λ (u : Data). Zeroed (suc i) s u) (sym made) (one_more i few s d held)))
        (λ i s d few held same. apart i few (sym held.stack ∙ same ∙ held.last))
        (λ s d held. held.stack ∙ ends ∙ sym held.last)
        some
        (λ s begins. record {
          stack = begins.stack;
          last = begins.last;
          there = begins.there;
          zeroed = no_zeros (low 0) (high 0) s.bytes none;
          others = λ q h. refl;
        })
        (λ s t begins held. held))

module _ (z : Setting) (bottom room : ℕ) (even : bottom % 16 ≡ 0) (whole : room % 16 ≡ 0)
    (below : bottom + room < 2 ^ 32) (may : MayZero z bottom (bottom + room)) where
  abbrev top : ℕ
  top = bottom + room

  abbrev rounds : ℕ
  rounds = room / 16

  abbrev Starts : ℕ → ℕ → Data → Type 0
  Starts x stop = Begins z bottom top below may x stop

  abbrev Zeroes : ℕ → ℕ → ℕ → ℕ → Data → Data → Type 0
  Zeroes x stop low high = Zeroing z bottom top below may x stop low high

  -- Downward.

  -- where x2 is after so many blocks
  abbrev down_at : ℕ → ℕ
  down_at i = top - 16 * i

  down_runs : 0 < room
      → Runs z (blocks_steps room) (until_equal 2 5 down_code) (Starts top bottom) (Zeroes bottom bottom bottom top)
  down_runs some =
      let begin : down_at 0 ≡ top = omega arith in
      let end : down_at rounds ≡ bottom = omega arith in
      subst (λ x. Runs z (blocks_steps room) (until_equal 2 5 down_code) (Starts x bottom) (Zeroes bottom bottom bottom x))
      begin
      (subst (λ x. Runs z (blocks_steps room) (until_equal 2 5 down_code) (Starts (down_at 0) bottom)
      (Zeroes x bottom x (down_at 0))) end
      (loop_runs z bottom top below may rounds down_code refl bottom down_at
      (λ i. down_at (suc i)) down_at (λ i. down_at 0)
      (λ i few. (omega arith, omega arith))
      (λ i few. down_run z bottom top below may (down_at i) (down_at (suc i)) (omega arith) (omega arith) (omega arith)
      (omega arith))
      (λ i one two three few zeroed more.
      let next : down_at (suc i) + 16 ≡ down_at i = omega arith in
      zeros_down (down_at (suc i)) (down_at i) (down_at 0) one two three (omega arith) (omega arith) zeroed
      (subst (λ y. AreZeroed (down_at (suc i)) y two three) next more))
      (λ i few same. omega arith) end (omega arith) (omega arith)))

  -- Upward.

  abbrev up_at : ℕ → ℕ
  up_at i = bottom + 16 * i

  some_up : 0 < room
      → Runs z (blocks_steps room) (until_equal 2 5 up_code) (Starts bottom top) (Zeroes top top bottom top)
  some_up some =
      let begin : up_at 0 ≡ bottom = omega arith in
      let end : up_at rounds ≡ top = omega arith in
      subst (λ x. Runs z (blocks_steps room) (until_equal 2 5 up_code) (Starts x top) (Zeroes top top bottom top)) begin
      (subst (λ x. Runs z (blocks_steps room) (until_equal 2 5 up_code) (Starts (up_at 0) top) (Zeroes x top bottom x)) end
      (loop_runs z bottom top below may rounds up_code refl top up_at up_at
      (λ i. bottom) up_at
      (λ i few. (omega arith, omega arith))
      (λ i few. up_run z bottom top below may (up_at i) (up_at (suc i)) (omega arith) (omega arith) (omega arith)
      (omega arith))
      (λ i one two three few zeroed more.
      let next : up_at i + 16 ≡ up_at (suc i) = omega arith in
      zeros_up bottom (up_at i) (up_at (suc i)) one two three (omega arith) (omega arith) zeroed
      (subst (λ y. AreZeroed (up_at i) y two three) next more))
      (λ i few same. omega arith) end (omega arith) (omega arith)))

  pub up_runs : Runs z (blocks_steps room) (wipe_code room) (HasRoomBounds bottom room) (IsWiped bottom room)
  up_runs = by (room == 0) refl
    where
      by : (b : Bool) → (room == 0) ≡ b
          → Runs z (blocks_steps room) (if b then [] else until_equal 2 5 up_code) (HasRoomBounds bottom room)
          (IsWiped bottom room)
      by true none =
          let no_room : room ≡ 0 = eqb-true room 0 none in
          in_steps z (omega (arith, no_room))
          (no_code z
          (λ s has. record {
            stack = has.stack ∙ omega (arith, no_room);
            zeroed = no_zeros bottom (bottom + room) s.bytes (omega (arith, no_room));
            others = λ q h. refl;
          }))
      by false differs =
          weaken_runs z (some_up (omega (arith, eqb-false room 0 differs)))
          (λ s has. record { stack = has.stack; last = has.top; there = has.there })
          (λ s t has held. record { stack = held.stack; zeroed = held.zeroed; others = held.others })

  -- The frame: x5 is the number of bytes, and then the bottom.

  frame_runs : 0 < room → Runs z (length (constant_code 5 room) + 1 + blocks_steps room)
      ((constant_code 5 room ++ Register Sub 5 2 5 ∷ []) ++ until_equal 2 5 down_code) (HasFrame bottom room)
      (IsZeroFrame bottom room)
  frame_runs some =
      in_steps z
      (ap (λ n. n + blocks_steps room) (length-append (constant_code 5 room) (Register Sub 5 2 5 ∷ [])))
      (makes_then z {P = HasFrame bottom room} {f = λ s. with_result 5 (difference_of (s.regs 2) room) s}
      {S = IsZeroFrame bottom room}
      (number_then z 5 room (omega arith) (λ e. omega arith) (omega arith) Sub 2 5 (omega arith) (omega arith))
      (down_runs some)
      (λ s has. record { stack = has.stack; last = omega (arith, has.stack); there = has.there })
      (λ s u has held. record {
        stack = held.stack;
        zeroed = held.zeroed;
        others = λ q h k. held.others q h ∙ unwritten s.regs 5 (difference_of (s.regs 2) room) q k;
      }))

-- the code of a frame, which is none where the frame has no room
pub zeroed_runs : (z : Setting) (bottom room : ℕ) → bottom % 16 ≡ 0 → room % 16 ≡ 0 → bottom + room < 2 ^ 32
    → MayZero z bottom (bottom + room)
    → Runs z (frame_steps room) (zeroed_code room) (HasFrame bottom room) (IsZeroFrame bottom room)
zeroed_runs z bottom room even whole below may = by (room == 0) refl
  where
    by : (b : Bool) → (room == 0) ≡ b
        → Runs z (if b then 0 else length (constant_code 5 room) + 1 + blocks_steps room)
        (if b then [] else constant_code 5 room ++ Register Sub 5 2 5 ∷ until_equal 2 5 down_code) (HasFrame bottom room)
        (IsZeroFrame bottom room)
    by true none =
        let no_room : room ≡ 0 = eqb-true room 0 none in
        no_code z
        (λ s has. record {
          stack = has.stack ∙ omega arith;
          zeroed = no_zeros bottom (bottom + room) s.bytes (omega arith);
          others = λ q h k. refl;
        })
    by false differs =
        as_code z (append_assoc (constant_code 5 room) (Register Sub 5 2 5 ∷ []) (until_equal 2 5 down_code))
        (frame_runs z bottom room even whole below may (omega (arith, eqb-false room 0 differs)))

pub frame_is_zeroed : FrameIsZeroed
frame_is_zeroed code start bottom room there even whole below =
    let z = storing code bottom room in
    does z start (zeroed_code room) (placed code start (zeroed_code room) there)
    (zeroed_runs z bottom room even whole below (λ sp x low high above. ((low, high), above)))

pub room_is_wiped : RoomIsWiped
room_is_wiped code start bottom room there even whole below =
    let z = storing code bottom room in
    does z start (wipe_code room) (placed code start (wipe_code room) there)
    (up_runs z bottom room even whole below (λ sp x low high above. ((low, high), above)))
