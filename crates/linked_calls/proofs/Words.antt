-- The code that takes a word: a load, what it means, and a store; and the code that hands a result back.
use Rattle.std.specs.Prelude.{bit_and, is_some, unwrap_or}
use Rattle.std.proofs.Common.{◌≡◌, ◌≢◌, ℕ, ◌+◌, ◌%◌, ◌^◌, ◌<◌, ◌≤◌, ◌==◌, List, [], ◌++◌, length, nat_lt}
use Rattle.std.proofs.Common.{Bool, true, false, Option, Some, if◌then◌else◌, refl, sym, ap, ◌∙◌, arith, eq-eqb}
use Rattle.std.proofs.Common.{append_assoc}
use Rattle.std.proofs.Math.Path.{fun_ext}
use Rattle.std.proofs.lemmas.Bool.{lt-ltb, ltb-false, ltb-true}
use Rattle.std.proofs.lemmas.Bool.Decides.{nat_tests}
use Rattle.std.proofs.lemmas.Nat.{and_mask}
use Rattle.expression_code.proofs.program_logic_lemmas.Counted.{as_straight, computes_runs, makes_on, Runs, Setting}
use Rattle.expression_code.proofs.program_logic_lemmas.Counted.{weaken_runs}
use Rattle.linked_calls.proofs.Below.{AreData, Boolean, ByteMap, CanBePut, Instr}
use Rattle.linked_calls.proofs.Below.{register, register-at, stacked_offset, store_code, with_argument}
use Rattle.linked_calls.proofs.Below.{written}
use Rattle.language.specs.declared.values.Arg.TheVariants as arg
use Rattle.linked_calls.proofs.Below.{Data, Fields, HasResultSlot, HasWordArgument, IsLoadOf, IsArgumentPut, IsPutting}
use Rattle.linked_calls.proofs.Below.{IsReturned, Kind, load_code, meant, meant_code, number_at, number_or_zero}
use Rattle.linked_calls.proofs.Below.{only_computes, registers_after, ResultIsHandedBack, shift_value}
use Rattle.linked_calls.proofs.Below.{Slli, Slot, Srli, Uint16, Uint32, Uint8, unwritten, with_number}
use Rattle.linked_calls.proofs.Below.{with_register, with_result, WordIsTaken}
use Rattle.linked_calls.specs.Below.{Word}
use Rattle.rv_machine.specs.declared.observation.Event.TheVariants as event
use Rattle.word.specs.Operators.{word_of}
use Rattle.linked_calls.proofs.Bytes.{number_there, same_truth, with_number_cut}
use Rattle.linked_calls.proofs.Parts.{load_runs, overwritten, same_number, store_runs}
use Rattle.linked_calls.proofs.Pieces.{does, placed}
use Rattle.linked_calls.specs.FunctionCode.{word_code}

-- What a word is made by the code of its kind: the number that is put as a word is the same.

abbrev cut : Kind → ℕ → ℕ
cut Boolean raw = word_of (nat_lt 0 raw)
cut Uint8 raw = bit_and raw 255
cut Uint16 raw = shift_value Srli (shift_value Slli raw 16) 16
cut Uint32 raw = raw

half_is : (raw : ℕ) → shift_value Srli (shift_value Slli raw 16) 16 ≡ raw % 2 ^ 16
half_is raw = omega arith

same_put : (kind : Kind) (bytes : ByteMap) (a raw : ℕ)
    → with_number bytes 4 a (cut kind raw) ≡ with_number bytes 4 a (meant kind raw)
same_put Boolean bytes a raw = ap (λ v. with_number bytes 4 a v) (same_truth raw)
same_put Uint8 bytes a raw = ap (λ v. with_number bytes 4 a v) (and_mask raw 8)
same_put Uint16 bytes a raw = ap (λ v. with_number bytes 4 a v) (half_is raw)
same_put Uint32 bytes a raw = sym (with_number_cut bytes 4 a raw)

meant_plain : (kind : Kind) (r : ℕ) → r < 32 → only_computes (λ q. q == r) (meant_code r kind) ≡ true
meant_plain Boolean r few = simp (eq-eqb r r refl, lt-ltb r 32 few)
meant_plain Uint8 r few = simp (eq-eqb r r refl, lt-ltb r 32 few)
meant_plain Uint16 r few = simp (eq-eqb r r refl, lt-ltb r 32 few)
meant_plain Uint32 r few = refl

meant_made : (kind : Kind) (r : ℕ) → r ≢ 0 → (regs : ℕ → ℕ)
    → registers_after (meant_code r kind) regs ≡ with_register regs r (cut kind (regs r))
meant_made Boolean r nonzero regs =
    ap (λ v. with_register regs r (word_of (nat_lt 0 v))) (register-at regs r nonzero)
meant_made Uint8 r nonzero regs = ap (λ v. with_register regs r (bit_and v 255)) (register-at regs r nonzero)
meant_made Uint16 r nonzero regs =
    let raised = λ (v : ℕ). shift_value Slli v 16 in
    let one = with_register regs r (raised (register regs r)) in
    ap (λ v. with_register one r (shift_value Srli v 16))
    (register-at one r nonzero ∙ written regs r (raised (register regs r)) nonzero)
    ∙ overwritten regs r (raised (register regs r)) (shift_value Srli (raised (register regs r)) 16)
    ∙ ap (λ v. with_register regs r (cut Uint16 v)) (register-at regs r nonzero)
meant_made Uint32 r nonzero regs = fun_ext (λ q. grind (arith, nat_tests))

-- A raw word in a register: what it means into the slot.

-- the slot holds it
record IsPutFrom (slot : Slot) (frame r : ℕ) (s t : Data) : Type 0 where
  bytes : t.bytes ≡ with_argument frame s.bytes slot (arg.Word (meant slot.param.kind (s.regs r)))
  others : (q : ℕ) → q ≢ r → q ≢ 28 → t.regs q ≡ s.regs q

-- the frame's base is in x2, and the slot is data
record HasSlot (slot : Slot) (frame : ℕ) (s : Data) : Type 0 where
  stack : s.regs 2 ≡ frame
  there : AreData (frame + slot.offset) (frame + slot.offset + 4) s.bytes

put_runs : (z : Setting) (slot : Slot) (frame r : ℕ) → r < 32 → r ≢ 0 → r ≢ 2 → r ≢ 28
    → (frame + slot.offset) % 4 ≡ 0 → frame + slot.offset < 2 ^ 32
    → z.allowed frame (Some (event.Store (frame + slot.offset) Word))
    → Runs z (length (meant_code r slot.param.kind ++ store_code r slot.offset))
    (meant_code r slot.param.kind ++ store_code r slot.offset) (HasSlot slot frame) (IsPutFrom slot frame r)
put_runs z slot frame r few nonzero still other even below stores =
    let kind = slot.param.kind in
    let target = frame + slot.offset in
    makes_on z {P = HasSlot slot frame} {P' = HasSlot slot frame} {f = λ s. with_result r (cut kind (s.regs r)) s}
    {S = IsPutFrom slot frame r}
    (computes_runs z (λ q. q == r) (meant_code r kind) (λ regs. with_register regs r (cut kind (regs r)))
    (meant_plain kind r few) (meant_made kind r nonzero))
    (store_runs z frame slot.offset even below
    (λ s has. record { stack = has.stack; there = number_there s.bytes 4 target has.there }) r few nonzero other stores)
    (λ s has. record {
      stack = unwritten s.regs r (cut kind (s.regs r)) 2 (λ e. still (sym e)) ∙ has.stack;
      there = has.there;
    })
    (λ s u has puts. record {
      bytes = puts.written
          ∙ ap (λ v. with_number s.bytes 4 target v) (written s.regs r (cut kind (s.regs r)) nonzero)
          ∙ same_put kind s.bytes target (s.regs r);
      others = λ q h k. puts.others q k ∙ unwritten s.regs r (cut kind (s.regs r)) q h;
    })

-- An argument that is a word, by whether a register holds it.
module _ (z : Setting) (image : Fields) (slot : Slot) (frame i : ℕ) (can : CanBePut image slot frame i)
    (loads : 8 ≤ i → z.allowed frame (Some (event.Load (frame + stacked_offset image i) Word)))
    (stores : z.allowed frame (Some (event.Store (frame + slot.offset) Word))) where
  abbrev offset : ℕ
  offset = stacked_offset image i

  abbrev passed_by : Bool → Data → Option ℕ
  passed_by b s = if b then Some (s.regs (10 + i)) else number_at s.bytes 4 (frame + offset)

  abbrev register_by : Bool → ℕ
  register_by b = if b then 10 + i else 5

  abbrev code_by : Bool → List Instr
  code_by b = (if b then [] else load_code 5 offset) ++ meant_code (register_by b) slot.param.kind
      ++ store_code (register_by b) slot.offset

  -- what is put, as it is passed
  done : (b : Bool) → nat_lt i 8 ≡ b → (s t : Data) (v : ℕ) → unwrap_or (passed_by b s) 0 ≡ v
      → t.bytes ≡ with_argument frame s.bytes slot (arg.Word (meant slot.param.kind v))
      → ((q : ℕ) → q ≢ register_by b → q ≢ 28 → t.regs q ≡ s.regs q) → IsArgumentPut image slot frame i s t
  done b h s t v is bytes others = record {
    bytes = bytes
        ∙ ap (λ w. with_argument frame s.bytes slot (arg.Word (meant slot.param.kind w)))
        (sym (ap (λ c. unwrap_or (passed_by c s) 0) h ∙ is));
    others = λ q g k. others q (λ e. g (e ∙ sym (ap register_by h))) k;
  }

  word_by : (b : Bool) → nat_lt i 8 ≡ b
      → Runs z (length (code_by b)) (code_by b) (HasWordArgument image slot frame i) (IsArgumentPut image slot frame i)
  word_by true h =
      let few = ltb-true i 8 h in
      weaken_runs z {P' = HasWordArgument image slot frame i} {R' = IsArgumentPut image slot frame i}
      (put_runs z slot frame (10 + i) (omega arith) (λ e. omega arith) (λ e. omega arith) (λ e. omega arith)
      can.slot_aligned can.slot_ends stores)
      (λ s has. record { stack = has.stack; there = has.slot_there })
      (λ s t has put. done true h s t (s.regs (10 + i)) refl put.bytes put.others)
  word_by false h =
      let many = ltb-false i 8 h in
      let raw = λ (s : Data). number_or_zero (number_at s.bytes 4 (frame + offset)) in
      as_straight z
      (sym (append_assoc (load_code 5 offset) (meant_code 5 slot.param.kind) (store_code 5 slot.offset)))
      (makes_on z {P = HasWordArgument image slot frame i} {P' = HasSlot slot frame}
      {f = λ s. with_result 5 (raw s) s} {S = IsArgumentPut image slot frame i}
      (load_runs z frame offset (omega (arith, can.frame_aligned)) can.place_ends
      (λ s has. record {
        stack = has.stack;
        there = ap (λ b. is_some (passed_by b s)) (sym h) ∙ has.passed;
      })
      5 (omega arith) (λ e. omega arith) (λ e. omega arith) (loads many))
      (put_runs z slot frame 5 (omega arith) (λ e. omega arith) (λ e. omega arith) (λ e. omega arith)
      can.slot_aligned can.slot_ends stores)
      (λ s has. record { stack = has.stack; there = has.slot_there })
      (λ s u has put.
      done false h s u (raw s) (sym (same_number (number_at s.bytes 4 (frame + offset)))) put.bytes
      (λ q g k. put.others q g k ∙ unwritten s.regs 5 (raw s) q g)))

  pub word_runs : Runs z (length (word_code image i slot)) (word_code image i slot)
      (HasWordArgument image slot frame i) (IsArgumentPut image slot frame i)
  word_runs = word_by (nat_lt i 8) refl

pub word_is_taken : WordIsTaken
word_is_taken code start image slot frame i there can =
    let z : Setting = record {
      code = code;
      allowed = IsPutting (frame + stacked_offset image i) (frame + slot.offset);
      silent = λ sp. tt;
    } in
    let is = word_code image i slot in
    does z start is (placed code start is there)
    (word_runs z image slot frame i can (λ many. (refl, refl, omega arith)) (refl, refl, omega arith))

pub result_is_handed_back : ResultIsHandedBack
result_is_handed_back code start slot frame there even below =
    let z : Setting = record { code = code; allowed = IsLoadOf (frame + slot.offset); silent = λ sp. tt } in
    let is = load_code 10 slot.offset in
    does z start is (placed code start is there)
    (weaken_runs z {R' = IsReturned slot frame}
    (load_runs z frame slot.offset even below {P = HasResultSlot slot frame}
    (λ s has. record { stack = has.stack; there = number_there s.bytes 4 (frame + slot.offset) has.slot_there })
    10 (omega arith) (λ e. omega arith) (λ e. omega arith) (refl, refl, omega arith))
    (λ s has. has)
    (λ s t has made. record {
      result = ap (λ (d : Data). d.regs 10) made ∙ same_number (number_at s.bytes 4 (frame + slot.offset));
      others = λ q h. ap (λ (d : Data). d.regs q) made
          ∙ unwritten s.regs 10 (number_or_zero (number_at s.bytes 4 (frame + slot.offset))) q h;
      bytes = ap (λ (d : Data). d.bytes) made;
    }))
