-- The last of a call: the caller's registers restored, all the room wiped, and the other registers cleared.
use Rattle.std.specs.Prelude.{is_some}
use Rattle.std.proofs.Common.{◌≡◌, ◌≢◌, ℕ, ◌+◌, ◌*◌, ◌%◌, ◌^◌, ◌<◌, ◌≤◌, ◌==◌, List, [], ◌∷◌, ◌++◌, length, All, refl}
use Rattle.std.proofs.Common.{sym, ap, ◌∙◌, subst, arith}
use Rattle.std.proofs.lemmas.Bool.{lt-ltb}
use Rattle.expression_code.proofs.program_logic_lemmas.Counted.{computes_runs, in_steps, makes_then, Runs, Setting}
use Rattle.expression_code.proofs.program_logic_lemmas.Counted.{then_runs}
use Rattle.linked_calls.proofs.Below.{added, address_code, AreCleared, AreData, AreZeroed, ByteMap, clear_registers_code}
use Rattle.linked_calls.proofs.Below.{Data, HasRoomBounds, Instr, loads_code, near_address, blocks_steps}
use Rattle.linked_calls.proofs.Below.{saved_registers, scratch_registers, sign_extended, sum_of, unwritten, wipe_code}
use Rattle.linked_calls.proofs.Below.{with_register, with_result, written_of}
use Rattle.linked_calls.proofs.Between.{AreLeft, AreSaved}
use Rattle.linked_calls.proofs.Cleared.{clear_runs}
use Rattle.linked_calls.proofs.KeptRegisters.{all_of_both, fitting_others, kept_fitting, left_same}
use Rattle.linked_calls.proofs.KeptRegisters.{left_then, loaded_from}
use Rattle.linked_calls.proofs.KeptRegisters.{loads_back, loads_bytes, loads_leave, loads_left, loads_plain}
use Rattle.linked_calls.proofs.KeptRegisters.{written_none}
use Rattle.linked_calls.proofs.Parts.{address_runs, loads_length, loads_runs, MayLoad}
use Rattle.linked_calls.proofs.SameRegisters.{AreSame, IsNone, all_differ, first_none, none_of, same_beside}
use Rattle.linked_calls.proofs.SameRegisters.{still_same, then_none}
use Rattle.linked_calls.proofs.Zeros.{MayZero, up_runs}

-- ra, gp, tp and a0
abbrev pub others_still : List ℕ
others_still = 1 ∷ 3 ∷ 4 ∷ 10 ∷ []

-- the code that restores the registers which a body of these words writes
abbrev restoring : List ℕ → ℕ → ℕ → List Instr
restoring words room above =
    address_code 5 room ++ loads_code 5 0 (written_of words saved_registers) ++ added 5 above ∷ []

-- x5 where they were saved, they loaded from there, and x5 where the room ends

abbrev located : ℕ → Data → Data
located room s = with_result 5 (sum_of room (s.regs 2)) s

abbrev loaded : List ℕ → ℕ → ℕ → Data → Data
loaded words frame room s = loaded_from 0 (frame + room) (written_of words saved_registers) (located room s)

abbrev pub restored : List ℕ → ℕ → ℕ → ℕ → Data → Data
restored words frame room above s =
    let back = loaded words frame room s in
    with_result 5 (sum_of (back.regs 5) (sign_extended 12 above)) back

-- x2 is the base of the room, which is data
pub record BeginsLast (frame top : ℕ) (s : Data) : Type 0 where
  pub stack : s.regs 2 ≡ frame
  pub there : AreData frame top s.bytes

-- the room is wiped, and the other registers are 0
pub record Clears (frame top : ℕ) (s t : Data) : Type 0 where
  pub stack : t.regs 2 ≡ top
  pub others : (q : ℕ) → IsNone (2 ∷ scratch_registers) q → t.regs q ≡ s.regs q
  pub cleared : All (λ r. t.regs r ≡ 0) scratch_registers
  pub zeroed : AreZeroed frame top s.bytes t.bytes

-- what is left of a state once the registers are restored and the rest is cleared
pub record Lasts (words : List ℕ) (frame room above : ℕ) (s t : Data) : Type 0 where
  pub stack : t.regs 2 ≡ frame + (room + above)
  -- what the caller may count on is as it was, if it was saved or is as it was before
  pub saved : (regs : ℕ → ℕ) → AreSaved s.bytes regs (frame + room) (written_of words saved_registers)
      → AreLeft words s.regs regs saved_registers → AreSame t.regs regs saved_registers
  pub others_same : AreSame t.regs s.regs others_still
  pub cleared : All (λ r. t.regs r ≡ 0) scratch_registers
  pub zeroed : AreZeroed frame (frame + (room + above)) s.bytes t.bytes

-- the registers are restored, and then the tail clears the rest
pub record Leaving (z : Setting) (words : List ℕ) (frame room above : ℕ) : Type 0 where
  pub restores : Runs z (length (address_code 5 room) + length (written_of words saved_registers) + 1)
      (restoring words room above) (BeginsLast frame (frame + (room + above)))
      (λ s t. t ≡ restored words frame room above s)
  pub at_top : (s : Data) → BeginsLast frame (frame + (room + above)) s
      → HasRoomBounds frame (room + above) (restored words frame room above s)
  pub clears : Runs z (blocks_steps (room + above) + 14)
      (wipe_code (room + above) ++ clear_registers_code scratch_registers) (HasRoomBounds frame (room + above))
      (Clears frame (frame + (room + above)))
  pub lasts : (s t : Data) → Clears frame (frame + (room + above)) (restored words frame room above s) t
      → Lasts words frame room above s t

module _ (z : Setting) (words : List ℕ) (frame room above : ℕ) (even : frame % 16 ≡ 0) (whole : room % 16 ≡ 0)
    (above_whole : above % 16 ≡ 0) (above_least : 4 * length (written_of words saved_registers) ≤ above)
    (above_most : above ≤ 80) (below : frame + (room + above) < 2 ^ 32)
    (may : MayLoad z frame (frame + room) (frame + room + 4 * length (written_of words saved_registers)))
    (stores : MayZero z frame (frame + (room + above)))
  where
    -- the registers that are kept
    abbrev kept : List ℕ
    kept = written_of words saved_registers

    -- x2 is the base of the room, and x5 where the registers were saved
    record AtSaved (s : Data) : Type 0 where
      stack : s.regs 2 ≡ frame
      root : s.regs 5 ≡ frame + room
      there : AreData (frame + room) (frame + room + 4 * length kept) s.bytes

    abbrev top : ℕ
    top = frame + (room + above)

    abbrev back_in : Data → Data
    back_in = loaded words frame room

    restored_runs : Runs z (length (address_code 5 room) + length kept + 1) (restoring words room above)
        (BeginsLast frame top) (λ s t. t ≡ restored words frame room above s)
    restored_runs =
        let small : above < 4096 = omega arith in
        makes_then z {P = BeginsLast frame top} {P' = λ s. Unit {0}} {f = back_in}
        (in_steps z (ap (λ n. length (address_code 5 room) + n) (loads_length 5 0 kept))
        (makes_then z {P = BeginsLast frame top} {f = located room}
        (address_runs z 5 room (omega arith) (λ e. omega arith) (λ e. omega arith) (omega arith))
        (loads_runs z {P = AtSaved} frame (frame + room) kept
        (loads_plain 0 kept (kept_fitting words) (omega arith)) (fitting_others kept (kept_fitting words)) (omega arith)
        (omega arith) (omega arith) may (λ s at. at.stack) (λ s at. (at.root, at.there)))
        (λ s begins. record {
          stack = begins.stack;
          root = omega (arith, begins.stack);
          there = λ x l h. begins.there x (omega arith) (omega arith);
        })
        (λ s u begins made. made)))
        (computes_runs z (λ q. q == 5) (added 5 above ∷ [])
        (λ regs. with_register regs 5 (sum_of (regs 5) (sign_extended 12 above))) (simp (lt-ltb above 4096 small))
        (λ regs. refl))
        (λ s begins. tt) (λ s u begins made. made)

    -- what they leave

    none_kept : (q : ℕ) → IsNone saved_registers q → IsNone kept q
    none_kept q none = written_none words saved_registers q none

    restored_still : (s : Data) (q : ℕ) → q ≢ 5 → IsNone saved_registers q → (restored words frame room above s).regs q ≡ s.regs q
    restored_still s q other none =
        unwritten (back_in s).regs 5 (sum_of ((back_in s).regs 5) (sign_extended 12 above)) q other
        ∙ loads_leave q 0 (frame + room) kept (located room s) (none_kept q none)
        ∙ unwritten s.regs 5 (sum_of room (s.regs 2)) q other

    restored_top : (s : Data) → s.regs 2 ≡ frame → (restored words frame room above s).regs 5 ≡ frame + (room + above)
    restored_top s stack =
        let at : sum_of room (s.regs 2) ≡ frame + room = omega (arith, stack) in
        ap (λ x. sum_of x (sign_extended 12 above))
        (loads_leave 5 0 (frame + room) kept (located room s) (none_kept 5 (none_of saved_registers 5 refl)) ∙ at)
        ∙ near_address (frame + room) above (omega arith) (omega arith) ∙ omega arith

    restored_bytes : (s : Data) → (restored words frame room above s).bytes ≡ s.bytes
    restored_bytes s = loads_bytes 0 (frame + room) kept (located room s)

    back : (s : Data) (regs : ℕ → ℕ) → AreSaved s.bytes regs (frame + room) kept
        → AreLeft words s.regs regs saved_registers → AreSame (back_in s).regs regs saved_registers
    back s regs saved left =
        all_of_both words saved_registers (back_in s).regs regs
        (loads_back regs 0 (frame + room) kept (located room s) (kept_fitting words) saved)
        (loads_left regs words saved_registers 0 (frame + room) kept (located room s) (kept_fitting words) saved
        (left_then words saved_registers (located room s).regs s.regs regs
        (left_same words saved_registers (located room s).regs s.regs
        (same_beside (5 ∷ []) (located room s).regs s.regs
        (λ q none. unwritten s.regs 5 (sum_of room (s.regs 2)) q none.0) saved_registers refl))
        left))

    clears_run : Runs z (blocks_steps (room + above) + 14)
        (wipe_code (room + above) ++ clear_registers_code scratch_registers) (HasRoomBounds frame (room + above))
        (Clears frame top)
    clears_run =
        then_runs z {P = HasRoomBounds frame (room + above)} {P' = λ s. Unit {0}} {R' = AreCleared scratch_registers}
        {S = Clears frame top}
        (up_runs z frame (room + above) even (omega arith) below stores)
        (clear_runs z)
        (λ s t begins wiped. tt)
        (λ s t u begins wiped clears.
        let cleared = λ (q : ℕ) (none : IsNone scratch_registers q). clears.others q (all_differ scratch_registers q none) in
        record {
          stack = (same_beside scratch_registers u.regs t.regs cleared (2 ∷ []) refl).0 ∙ wiped.stack;
          others = λ q none. cleared q none.1 ∙ wiped.others q none.0;
          cleared = clears.zero;
          zeroed = subst (λ (b : ByteMap). AreZeroed frame top s.bytes b) (sym clears.bytes) wiped.zeroed;
        })

    lasts_of : (s t : Data) → Clears frame top (restored words frame room above s) t → Lasts words frame room above s t
    lasts_of s t clears =
        let loads_still = λ (q : ℕ) (none : IsNone (2 ∷ scratch_registers) q).
        clears.others q none
        ∙ unwritten (back_in s).regs 5 (sum_of ((back_in s).regs 5) (sign_extended 12 above)) q none.1.0 in
        let others = λ (q : ℕ) (none : IsNone (2 ∷ scratch_registers ++ saved_registers) q).
        clears.others q (first_none (2 ∷ scratch_registers) saved_registers q none)
        ∙ restored_still s q none.1.0 (then_none (2 ∷ scratch_registers) saved_registers q none) in
        record {
          stack = clears.stack;
          saved = λ regs saved left. still_same (2 ∷ scratch_registers) t.regs (back_in s).regs regs loads_still
              saved_registers refl (back s regs saved left);
          others_same = same_beside (2 ∷ scratch_registers ++ saved_registers) t.regs s.regs others others_still refl;
          cleared = clears.cleared;
          zeroed = subst (λ (b : ByteMap). AreZeroed frame top b t.bytes) (restored_bytes s) clears.zeroed;
        }

    pub leaving_runs : Leaving z words frame room above
    leaving_runs = record {
      restores = restored_runs;
      at_top = λ s begins. record {
        stack = restored_still s 2 (λ e. omega arith) (none_of saved_registers 2 refl) ∙ begins.stack;
        top = restored_top s begins.stack;
        there = λ x l h. ap (λ (b : ByteMap). is_some (b x)) (restored_bytes s) ∙ begins.there x l h;
      };
      clears = clears_run;
      lasts = lasts_of;
    }
