-- An array that is copied whole: by code of its own, or by the copier, and behind the call the elements that are no
-- whole round. What it becomes is the same.
use Rattle.std.specs.Prelude.{◌⊎◌, bit_and, bit_or, is_some, nat_le}
use Rattle.std.proofs.Common.{◌≡◌, ◌≢◌, ℕ, suc, ◌+◌, ◌*◌, ◌/◌, ◌%◌, ◌^◌, ◌<◌, ◌≤◌, ◌==◌, Bool, true, false}
use Rattle.std.proofs.Common.{if◌then◌else◌, ◌&&◌, List, [], ◌∷◌, length, inl, inr, Option, Some, None, refl, sym, ap}
use Rattle.std.proofs.Common.{◌∙◌, ap₂, subst, arith, length-append}
use Rattle.std.proofs.lemmas.Bool.{and_parts, eqb-false, eqb-true, leb-true}
use Rattle.std.proofs.lemmas.List.{map-id}
use Rattle.expression_code.proofs.program_logic_lemmas.Counted.{in_steps, Runs, Setting, weaken_runs}
use Rattle.linked_calls.proofs.Alignment.{aligned_runs, TestsPointer, unaligned_runs}
use Rattle.linked_calls.proofs.Below.{AreApart, AreBytes, array_code, array_steps, Boolean, ByteMap}
use Rattle.linked_calls.proofs.Below.{copied_code, copied_out_code, copied_steps, Data, element_bytes, elements_code, Instr}
use Rattle.linked_calls.proofs.Below.{Kind, numbers_at, Placed, Placed-left}
use Rattle.linked_calls.proofs.Below.{Placed-right, sum_of, Uint16, Uint32, Uint8, unwritten, with_numbers, with_result}
use Rattle.linked_calls.proofs.Bytes.{numbers_same}
use Rattle.linked_calls.proofs.CopyElements.{element_code}
use Rattle.linked_calls.proofs.CopyLengths.{rest_few, rest_short}
use Rattle.linked_calls.proofs.CopyNumbers.{BeginsCopy, CanCopy, copied, copy_runs, HasCopied, loop_runs, Numbers}
use Rattle.linked_calls.proofs.CopyNumbers.{straight_runs_on}
use Rattle.linked_calls.proofs.MovedBytes.{AreMoved, goes_as_it_is, moved_then, numbers_moved, values_same}
use Rattle.linked_calls.proofs.Parts.{bound_runs}
use Rattle.linked_calls.proofs.Pieces.{placed}
use Rattle.linked_calls.proofs.PlacedRuns.{counted_here, here, RunsHere, then_here, weaken_here}
use Rattle.linked_calls.proofs.SharedCode.{call_runs}
use Rattle.linked_calls.specs.Copies.{CopierStands}
use Rattle.linked_calls.specs.FunctionCode.{bound_code, call_code, called_code, copier_code, copies_code, goes_by_call}
use Rattle.linked_calls.specs.FunctionCode.{in_round, is_worth_a_call, loop_code}
use Rattle.linked_calls.specs.Paces.{times}
use Rattle.linked_calls.specs.Sections.{called_steps, copier_steps, loop_steps}
use Rattle.linked_calls.specs.declared.pace.Pace.{Pace}
use Rattle.linked_calls.specs.declared.round.Round.{Round}
use Rattle.linked_calls.specs.declared.round.Round.TheVariants.{Four, One, Two}

-- Elements are whole rounds, and some that are left.

bytes_are : (round : Round) (kind : Kind) (k : ℕ)
    → element_bytes kind * k
    ≡ 4 * (times round * (k / in_round round kind)) + element_bytes kind * (k % in_round round kind)
bytes_are One Boolean k = omega arith
bytes_are One Uint8 k = omega arith
bytes_are One Uint16 k = omega arith
bytes_are One Uint32 k = omega arith
bytes_are Two Boolean k = omega arith
bytes_are Two Uint8 k = omega arith
bytes_are Two Uint16 k = omega arith
bytes_are Two Uint32 k = omega arith
bytes_are Four Boolean k = omega arith
bytes_are Four Uint8 k = omega arith
bytes_are Four Uint16 k = omega arith
bytes_are Four Uint32 k = omega arith

-- the rounds, in bytes
gone_are : (round : Round) (kind : Kind) (m : ℕ)
    → element_bytes kind * (in_round round kind * m) ≡ 4 * (times round * m)
gone_are One Boolean m = omega arith
gone_are One Uint8 m = omega arith
gone_are One Uint16 m = omega arith
gone_are One Uint32 m = omega arith
gone_are Two Boolean m = omega arith
gone_are Two Uint8 m = omega arith
gone_are Two Uint16 m = omega arith
gone_are Two Uint32 m = omega arith
gone_are Four Boolean m = omega arith
gone_are Four Uint8 m = omega arith
gone_are Four Uint16 m = omega arith
gone_are Four Uint32 m = omega arith

gone_some : (round : Round) (m : ℕ) → 0 < m → 0 < 4 * (times round * m)
gone_some One m some = omega arith
gone_some Two m some = omega arith
gone_some Four m some = omega arith

-- there is one
rounds_some : (round : Round) (kind : Kind) (k : ℕ) → in_round round kind ≤ k → 0 < k / in_round round kind
rounds_some One Boolean k many = omega arith
rounds_some One Uint8 k many = omega arith
rounds_some One Uint16 k many = omega arith
rounds_some One Uint32 k many = omega arith
rounds_some Two Boolean k many = omega arith
rounds_some Two Uint8 k many = omega arith
rounds_some Two Uint16 k many = omega arith
rounds_some Two Uint32 k many = omega arith
rounds_some Four Boolean k many = omega arith
rounds_some Four Uint8 k many = omega arith
rounds_some Four Uint16 k many = omega arith
rounds_some Four Uint32 k many = omega arith

rest_even : (kind : Kind) (a m : ℕ) → a % element_bytes kind ≡ 0 → (a + 4 * m) % element_bytes kind ≡ 0
rest_even Boolean a m even = omega arith
rest_even kind a m even = omega arith

-- x2, x5 and x6 are there, and data is bytes
pub record BeginsArray (array : Numbers) (s : Data) : Type 0 where
  pub places : BeginsCopy array s
  pub bytes : AreBytes s.bytes

-- the two lowest bits of both places are those of a pointer, which says whether both are multiples of 4
pub record IsTested (array : Numbers) (pointer : ℕ) : Type 0 where
  pub is : bit_and (bit_or (array.source % 2 ^ 32) (array.target % 2 ^ 32)) 3 ≡ pointer % 4
  pub even : pointer % 4 ≡ 0 → (array.source % 4 ≡ 0) × (array.target % 4 ≡ 0)

module _ (z : Setting) (round : Round) (array : Numbers) (can : CanCopy z array) (pointer : ℕ)
    (tested : IsTested array pointer) where
  abbrev kind : Kind
  kind = array.kind

  abbrev n : ℕ
  n = element_bytes kind

  abbrev k : ℕ
  k = array.count

  abbrev from : ℕ
  from = array.source

  abbrev to : ℕ
  to = array.target

  abbrev rounds : ℕ
  rounds = k / in_round round kind

  abbrev left : ℕ
  left = k % in_round round kind

  -- how far x5 and x6 go
  abbrev gone : ℕ
  gone = 4 * (times round * rounds)

  inside : n * k ≡ gone + n * left
  inside = bytes_are round kind k

  -- Whole rounds, where x7 says where they end.

  pub record BeginsRounds (s : Data) : Type 0 where
    pub begins : BeginsArray array s
    pub stop : s.regs 7 ≡ (from + gone) % 2 ^ 32

  pub record HasMoved (s t : Data) : Type 0 where
    pub bytes : AreMoved s.bytes s.bytes t.bytes from to gone
    pub source : t.regs 5 ≡ (from + gone) % 2 ^ 32
    pub target : t.regs 6 ≡ (to + gone) % 2 ^ 32
    pub others : (q : ℕ) → q ≢ 5 → q ≢ 6 → q ≢ 28 → t.regs q ≡ s.regs q

  -- as numbers of some size
  abbrev part : Kind → ℕ → Numbers
  part unit count = record { kind = unit; count = count; frame = array.frame; source = from; target = to }

  module _ (unit : Kind) (count : ℕ) (all : element_bytes unit * count ≡ gone) where
    can_part : from % element_bytes unit ≡ 0 → to % element_bytes unit ≡ 0 → CanCopy z (part unit count)
    can_part source_even target_even =
        let one = can.source_ends in
        let other = can.target_ends in
        let small = can.few in
        let fits = inside in
        record {
          source_even = source_even;
          target_even = target_even;
          source_ends = omega arith;
          target_ends = omega arith;
          few = omega arith;
          apart = elim can.apart [ inl before ↦ inl (omega arith) | inr behind ↦ inr (omega arith) ];
          loads = λ a size lies. can.loads a size (lies.0, omega (arith, lies.1));
          stores = λ a size lies. can.stores a size (lies.0, omega (arith, lies.1));
        }

    begins_part : (s : Data) → BeginsArray array s → BeginsCopy (part unit count) s
    begins_part s has =
        let fits = inside in
        record {
          stack = has.places.stack;
          source = has.places.source;
          target = has.places.target;
          from_there = λ x low high. has.places.from_there x low (omega arith);
          to_there = λ x low high. has.places.to_there x low (omega arith);
        }

    -- in rounds of some size
    part_runs : (each : Round) (m : ℕ) → times each * m ≡ count → 0 < m → from % element_bytes unit ≡ 0
        → to % element_bytes unit ≡ 0
        → Runs z (loop_steps (copied_out_code unit) unit (times each) m) (loop_code (copied_out_code unit) unit (times each))
        BeginsRounds HasMoved
    part_runs each m whole some source_even target_even =
        let numbers = part unit count in
        let within : times each * m ≤ count = omega arith in
        let bytes : element_bytes unit * (times each * m) ≡ gone = ap (λ x. element_bytes unit * x) whole ∙ all in
        let none : times each * m + 0 ≡ count = omega arith in
        weaken_runs z {P' = BeginsRounds} {R' = HasMoved}
        (in_steps z (counted m (length (elements_code (copied_out_code unit) (element_bytes unit) 0 (times each))))
        (loop_runs false z numbers (can_part source_even target_even) each m within some))
        (λ s begun. record {
          begins = begins_part s begun.begins;
          stop = begun.stop ∙ ap (λ x. (from + x) % 2 ^ 32) (sym bytes);
        })
        (λ s t begun held. record {
          bytes = made s t begun.begins (held.bytes ∙ ap (λ i. copied false numbers i s.bytes) none);
          source = held.source ∙ ap (λ x. (from + x) % 2 ^ 32) bytes;
          target = held.target ∙ ap (λ x. (to + x) % 2 ^ 32) bytes;
          others = held.others;
        })
      where
        counted : (m e : ℕ) → m * suc (e + 2) ≡ (e + 3) * m
        counted m e = omega arith

        made : (s t : Data) → BeginsArray array s → t.bytes ≡ copied false (part unit count) count s.bytes
            → AreMoved s.bytes s.bytes t.bytes from to gone
        made s t begins is =
            let fits = inside in
            subst (λ (b : ByteMap). AreMoved s.bytes s.bytes b from to gone)
            (sym (is ∙ ap (λ (vs : List ℕ). with_numbers s.bytes (element_bytes unit) to vs)
            (map-id (numbers_at s.bytes (element_bytes unit) from count))))
            (subst (λ m. AreMoved s.bytes s.bytes
            (with_numbers s.bytes (element_bytes unit) to (numbers_at s.bytes (element_bytes unit) from count)) from to m) all
            (numbers_moved s.bytes begins.bytes s.bytes (element_bytes unit) from to count
            (λ x low high. begins.places.from_there x low (omega arith))))

  -- As the pointer is.

  tests : TestsPointer pointer BeginsRounds
  tests = record {
    is = λ s begun. ap₂ (λ x y. bit_and (bit_or x y) 3) begun.begins.places.source begun.begins.places.target ∙ tested.is;
    still = λ s v begun. record {
      begins = record {
        places = record {
          stack = begun.begins.places.stack;
          source = begun.begins.places.source;
          target = begun.begins.places.target;
          from_there = begun.begins.places.from_there;
          to_there = begun.begins.places.to_there;
        };
        bytes = begun.begins.bytes;
      };
      stop = begun.stop;
    };
  }

  hides : (s t : Data) (v : ℕ) → BeginsRounds s → HasMoved (with_result 28 v s) t → HasMoved s t
  hides s t v begun moved = record {
    bytes = moved.bytes;
    source = moved.source;
    target = moved.target;
    others = λ q g h l. moved.others q g h l ∙ unwritten s.regs 28 v q l;
  }

  abbrev by_bytes : List Instr
  by_bytes = loop_code (copied_out_code Uint8) Uint8 1

  abbrev by_words : List Instr
  by_words = loop_code (copied_out_code Uint32) Uint32 (times round)

  pub copies_run : 0 < rounds → Runs z (copier_steps round rounds pointer) (copies_code round) BeginsRounds HasMoved
  copies_run some = by (pointer % 4 == 0) refl
    where
      near : (each : Round) → length (loop_code (copied_out_code Uint32) Uint32 (times each)) < 512
      near One = omega arith
      near Two = omega arith
      near Four = omega arith

      whole : times One * (4 * (times round * rounds)) ≡ 4 * (times round * rounds)
      whole = omega arith

      by : (b : Bool) → pointer % 4 == 0 ≡ b
          → Runs z
          (3 + (if b then loop_steps (copied_out_code Uint32) Uint32 (times round) rounds
          else loop_steps (copied_out_code Uint8) Uint8 1 (4 * (times round * rounds)) + 1))
          (copies_code round) BeginsRounds HasMoved
      by true is =
          let even = eqb-true (pointer % 4) 0 is in
          let both = tested.even even in
          aligned_runs z by_bytes by_words (omega arith) (near round) pointer tests hides even
          (part_runs Uint32 (times round * rounds) refl round rounds refl some both.0 both.1)
      by false is =
          unaligned_runs z by_bytes by_words (omega arith) (near round) pointer tests hides
          (eqb-false (pointer % 4) 0 is)
          (part_runs Uint8 gone (omega arith) One gone whole (gone_some round rounds some) (omega arith) (omega arith))

  -- The call, and what is left.

  record HasCalled (s t : Data) : Type 0 where
    bytes : AreMoved s.bytes s.bytes t.bytes from to gone
    source : t.regs 5 ≡ (from + gone) % 2 ^ 32
    target : t.regs 6 ≡ (to + gone) % 2 ^ 32
    others : (q : ℕ) → q ≢ 5 → q ≢ 6 → q ≢ 28 → q ≢ 30 → t.regs q ≡ s.regs q

  abbrev rest : Numbers
  rest = record { kind = kind; count = left; frame = array.frame; source = from + gone; target = to + gone }

  abbrev rest_code : List Instr
  rest_code = elements_code (copied_out_code kind) n 0 left

  can_rest : CanCopy z rest
  can_rest =
      let one = can.source_ends in
      let other = can.target_ends in
      let small = can.few in
      let fits = inside in
      record {
        source_even = rest_even kind from (times round * rounds) can.source_even;
        target_even = rest_even kind to (times round * rounds) can.target_even;
        source_ends = omega arith;
        target_ends = omega arith;
        few = omega arith;
        apart = elim can.apart [ inl before ↦ inl (omega arith) | inr behind ↦ inr (omega arith) ];
        loads = λ a size lies. can.loads a size (omega (arith, lies.0), omega (arith, lies.1));
        stores = λ a size lies. can.stores a size (omega (arith, lies.0), omega (arith, lies.1));
      }

  -- what is read behind the rounds is as it was
  behind_same : (s t : Data) → HasCalled s t → (x : ℕ) → from + gone ≤ x → x < from + n * k → t.bytes x ≡ s.bytes x
  behind_same s t called x low high = called.bytes.outside x (by can.apart)
    where
      by : AreApart (n * k) from to → (x < to) ⊎ (to + gone ≤ x)
      by (inl before) = inl (omega arith)
      by (inr behind) = let fits = inside in inr (omega arith)

  rest_begins : (s t : Data) → BeginsRounds s → HasCalled s t → BeginsCopy rest t
  rest_begins s t begun called =
      let fits = inside in
      let places = begun.begins.places in
      record {
        stack = called.others 2 (λ e. omega arith) (λ e. omega arith) (λ e. omega arith) (λ e. omega arith) ∙ places.stack;
        source = called.source;
        target = called.target;
        from_there = λ x low high. ap is_some (behind_same s t called x low (omega arith))
            ∙ places.from_there x (omega arith) (omega arith);
        to_there = λ x low high. ap is_some (called.bytes.outside x (inr low)) ∙ places.to_there x (omega arith) (omega arith);
      }

  all_is : (s t u : Data) → BeginsRounds s → HasCalled s t → HasCopied false rest t u
      → u.bytes ≡ copied false array k s.bytes
  all_is s t u begun called more =
      let fits = inside in
      more.bytes
      ∙ ap (λ (vs : List ℕ). with_numbers t.bytes n (to + gone) vs)
      (map-id (numbers_at t.bytes n (from + gone) left)
      ∙ numbers_same s.bytes t.bytes n (from + gone) left
      (λ x low high. behind_same s t called x low (omega arith)))
      ∙ moved_then s.bytes t.bytes n from to gone left k begun.begins.bytes inside begun.begins.places.from_there called.bytes
      ∙ ap (λ (vs : List ℕ). with_numbers s.bytes n to vs) (sym (map-id (numbers_at s.bytes n from k)))

  -- where the call stands, and so many instructions behind its rest the copier
  module _ (p behind : ℕ) (stands : Placed z.code p (call_code (length rest_code + behind) ∷ rest_code))
      (shared : Placed z.code (p + 4 + 4 * (length rest_code + behind)) (copier_code round)) (near : behind < 2 ^ 17)
      (some : 0 < rounds) where
    call_here : RunsHere z p (1 + (copier_steps round rounds pointer + 1)) (call_code (length rest_code + behind) ∷ [])
        BeginsRounds HasCalled
    call_here =
        let short = rest_short round kind k in
        call_runs z p (length rest_code + behind) (stands.0, stands.1, stands.2, tt) (omega arith) shared
        (copies_run some)
        (λ s begun. record {
          begins = record {
            places = record {
              stack = begun.begins.places.stack;
              source = begun.begins.places.source;
              target = begun.begins.places.target;
              from_there = begun.begins.places.from_there;
              to_there = begun.begins.places.to_there;
            };
            bytes = begun.begins.bytes;
          };
          stop = begun.stop;
        })
        (λ s t begun moved. moved.others 30 (λ e. omega arith) (λ e. omega arith) (λ e. omega arith))
        (λ s t begun moved. record {
          bytes = moved.bytes;
          source = moved.source;
          target = moved.target;
          others = λ q g h l o. moved.others q g h l ∙ unwritten s.regs 30 (p + 4) q o;
        })

    rest_here : RunsHere z (p + 4) (length rest_code) rest_code (BeginsCopy rest) (HasCopied false rest)
    rest_here =
        let few = rest_few round kind k in
        here z stands.3 (straight_runs_on false z rest can_rest (omega arith))

    called_here : RunsHere z p (1 + (copier_steps round rounds pointer + 1) + length rest_code)
        (call_code (length rest_code + behind) ∷ rest_code) BeginsRounds
        (λ s u. (u.bytes ≡ copied false array k s.bytes)
        × ((q : ℕ) → q ≢ 5 → q ≢ 6 → q ≢ 28 → q ≢ 30 → q ≢ 7 → u.regs q ≡ s.regs q))
    called_here =
        then_here z {xs = call_code (length rest_code + behind) ∷ []} {ys = rest_code} call_here rest_here
        (λ s t begun called. rest_begins s t begun called)
        (λ s t u begun called more. (
          all_is s t u begun called more,
          λ q g h l o m. more.others q g h m l o ∙ called.others q g h l o,
        ))

    -- x5, x6, x7, x28 and x30 are all that it writes
    pub called_runs_on : RunsHere z p (1 + (copier_steps round rounds pointer + 1) + length rest_code)
        (call_code (length rest_code + behind) ∷ rest_code) BeginsRounds (HasCopied false array)
    called_runs_on =
        weaken_here z {R' = HasCopied false array} called_here (λ s begun. begun)
        (λ s u begun made. record { bytes = made.0; others = λ q g h m l o. made.1 q g h l o m })

  -- With x7 before it.

  abbrev bytes : ℕ
  bytes = n * (in_round round kind * rounds)

  abbrev bounded : Data → Data
  bounded s = with_result 7 (sum_of bytes (s.regs 5)) s

  bounded_begins : (s : Data) → BeginsArray array s → BeginsRounds (bounded s)
  bounded_begins s begins =
      let fits = inside in
      let small = can.few in
      let same = gone_are round kind rounds in
      record {
        begins = record {
          places = record {
            stack = begins.places.stack;
            source = begins.places.source;
            target = begins.places.target;
            from_there = begins.places.from_there;
            to_there = begins.places.to_there;
          };
          bytes = begins.bytes;
        };
        stop = ap (λ x. sum_of bytes x) begins.places.source ∙ omega arith;
      }

  module _ (p behind : ℕ) (stands : Placed z.code p (called_code round behind kind k)) (near : behind < 2 ^ 17)
      (shared : Placed z.code (p + 4 * length (called_code round behind kind k) + 4 * behind) (copier_code round))
      (some : 0 < rounds) where
    abbrev bound : List Instr
    bound = bound_code bytes

    abbrev call : List Instr
    call = call_code (length rest_code + behind) ∷ rest_code

    there : p + 4 * length (called_code round behind kind k) + 4 * behind
        ≡ p + 4 * length bound + 4 + 4 * (length rest_code + behind)
    there = omega (arith, length-append bound call)

    pub called_here_on : RunsHere z p (called_steps round kind k pointer) (called_code round behind kind k)
        (BeginsArray array) (HasCopied false array)
    called_here_on =
        let fits = inside in
        let small = can.few in
        let same = gone_are round kind rounds in
        counted_here z (counted (length bound) (copier_steps round rounds pointer) (length rest_code))
        (then_here z {xs = bound} {ys = call} {P = BeginsArray array} {R = λ s t. t ≡ bounded s} {S = HasCopied false array}
        (here z (Placed-left z.code p bound call stands) (bound_runs z bytes (omega arith)))
        (called_runs_on (p + 4 * length bound) behind (Placed-right z.code p bound call stands)
        (subst (λ q. Placed z.code q (copier_code round)) there shared) near some)
        (λ s t begins made. subst BeginsRounds (sym made) (bounded_begins s begins))
        (λ s t u begins made more. ended s u (subst (λ (x : Data). HasCopied false array x u) made more)))
      where
        counted : (b c e : ℕ) → b + (1 + (c + 1) + e) ≡ b + (1 + (c + 1)) + e
        counted b c e = omega arith

        ended : (s u : Data) → HasCopied false array (bounded s) u → HasCopied false array s u
        ended s u more = record {
          bytes = more.bytes;
          others = λ q g h m l o. more.others q g h m l o ∙ unwritten s.regs 7 (sum_of bytes (s.regs 5)) q m;
        }

-- An array, by one or the other.

module _ (z : Setting) (inward : Bool) (array : Numbers) (can : CanCopy z array) (pointer : ℕ)
    (tested : IsTested array pointer) where
  abbrev kind' : Kind
  kind' = array.kind

  abbrev count : ℕ
  count = array.count

  -- what goes as it is becomes what it means
  as_meant : goes_as_it_is inward kind' ≡ true → (s t : Data) → HasCopied false array s t → HasCopied inward array s t
  as_meant goes s t made = record {
    bytes = made.bytes
        ∙ ap (λ (vs : List ℕ). with_numbers s.bytes (element_bytes kind') array.target vs)
        (map-id (numbers_at s.bytes (element_bytes kind') array.source count))
        ∙ sym (values_same inward kind' s.bytes array.target (numbers_at s.bytes (element_bytes kind') array.source count)
        goes);
    others = made.others;
  }

  own_here : (pace : Pace) (p : ℕ) → Placed z.code p (copied_code pace (element_code inward kind') kind' count)
      → RunsHere z p (copied_steps pace (element_code inward kind') kind' count)
      (copied_code pace (element_code inward kind') kind' count) (BeginsArray array) (HasCopied inward array)
  own_here pace p stands =
      here z stands
      (weaken_runs z {P' = BeginsArray array} {R' = HasCopied inward array} (copy_runs inward z array can pace)
      (λ s begins. begins.places) (λ s t begins made. made))

  abbrev whole : Pace → Option Round → ℕ → List Instr
  whole pace copier behind =
      array_code pace copier behind (element_code inward kind') (goes_as_it_is inward kind') kind' count

  pub whole_here : (pace : Pace) (copier : Option Round) (p behind : ℕ) → Placed z.code p (whole pace copier behind)
      → CopierStands z.code (p + 4 * length (whole pace copier behind)) behind copier
      → RunsHere z p
      (array_steps pace copier (element_code inward kind') (goes_as_it_is inward kind') kind' count pointer)
      (whole pace copier behind) (BeginsArray array) (HasCopied inward array)
  whole_here pace None p behind stands shared = own_here pace p stands
  whole_here pace (Some round) p behind stands shared =
      by (goes_by_call round (goes_as_it_is inward kind') kind' count) refl stands shared
    where
      by : (b : Bool) → goes_by_call round (goes_as_it_is inward kind') kind' count ≡ b
          → Placed z.code p
          (if b then called_code round behind kind' count else copied_code pace (element_code inward kind') kind' count)
          → CopierStands z.code
          (p + 4 * length (if b then called_code round behind kind' count
          else copied_code pace (element_code inward kind') kind' count)) behind (Some round)
          → RunsHere z p
          (if b then called_steps round kind' count pointer else copied_steps pace (element_code inward kind') kind' count)
          (if b then called_code round behind kind' count else copied_code pace (element_code inward kind') kind' count)
          (BeginsArray array) (HasCopied inward array)
      by true goes stands shared =
          let worth = and_parts (goes_as_it_is inward kind' && is_worth_a_call kind' count)
          (nat_le (in_round round kind') count) goes in
          let plain = and_parts (goes_as_it_is inward kind') (is_worth_a_call kind' count) worth.0 in
          weaken_here z {R' = HasCopied inward array}
          (called_here_on z round array can pointer tested p behind stands shared.0
          (placed z.code (p + 4 * length (called_code round behind kind' count) + 4 * behind) (copier_code round) shared.1)
          (rounds_some round kind' count (leb-true (in_round round kind') count worth.1)))
          (λ s begins. begins) (λ s t begins made. as_meant plain.0 s t made)
      by false own stands shared = own_here pace p stands
