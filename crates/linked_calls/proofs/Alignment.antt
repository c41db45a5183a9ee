-- Of two pieces one, as a pointer is: a test of the two lowest bits of x5 and x6, and the first piece where one of them
-- is no multiple of 4, or the second where both are. Which of them is run is known before any state is, since the
-- pointer is.
use Rattle.std.specs.Prelude.{bit_and, bit_or}
use Rattle.std.proofs.Common.{◌≡◌, ◌≢◌, ℕ, ◌+◌, ◌*◌, ◌%◌, ◌^◌, ◌<◌, ◌==◌, List, [], ◌∷◌, ◌++◌, length, refl, sym, ap}
use Rattle.std.proofs.Common.{ap₂, ◌∙◌, subst, arith, length-append, eq-eqb, ne_eqb}
use Rattle.std.proofs.lemmas.Bool.Decides.{nat_tests}
use Rattle.expression_code.proofs.program_logic_lemmas.Counted.{computes_runs, in_steps, makes_then, Runs, Setting}
use Rattle.expression_code.proofs.program_logic_lemmas.Counted.{weaken_runs}
use Rattle.expression_code.proofs.program_logic_lemmas.Jumps.{over_ends, shown_at, taken_ends, untaken_ends}
use Rattle.expression_code.proofs.program_logic_lemmas.Pieces.{ends_to, then_ends}
use Rattle.expression_code.proofs.program_logic_lemmas.PlacedLaws.{Placed-below, Placed-left, Placed-right}
use Rattle.expression_code.specs.program_logic.Pieces.{always, both, Still}
use Rattle.expression_code.specs.program_logic.Placed.{Placed}
use Rattle.expression_code.specs.program_logic.StraightCode.{contents_of}
use Rattle.linked_calls.proofs.Below.{by_alignment_code, ByteMap, Data, Instr, State, with_register, with_result}
use Rattle.linked_calls.proofs.Parts.{overwritten}
use Rattle.linked_calls.specs.Below.{Andi, Beq, Branch, Immediate, Or, over, Register}
use Rattle.rv_machine.specs.Effects.{branch_target}

-- a branch over so many instructions
ahead : (p n : ℕ) → 2 * n + 2 < 2 ^ 11 → p + 4 + 4 * n < 2 ^ 32 → branch_target p (2 * n + 2) ≡ p + 4 + 4 * n
ahead p n near below = grind (arith, nat_tests)

-- a state in which only the program counter has changed holds the same
same_data : (s t : State) → Still s t → contents_of s ≡ contents_of t
same_data s t still =
    ap₂ (λ (regs : ℕ → ℕ) (bytes : ByteMap). contents_of (record { pc = 0; regs = regs; bytes = bytes }))
    (sym still.regs) (sym still.bytes)

-- the two lowest bits of x5 and x6 are those of a pointer, and more holds, which does not hang on x28
pub record TestsPointer (pointer : ℕ) (P : Data → Type 0) : Type 0 where
  pub is : (s : Data) → P s → bit_and (bit_or (s.regs 5) (s.regs 6)) 3 ≡ pointer % 4
  pub still : (s : Data) (v : ℕ) → P s → P (with_result 28 v s)

module _ (z : Setting) (xs ys : List Instr) (short : length xs < 512) (near : length ys < 512) where
  -- the branch to the second piece, and both
  abbrev forked : List Instr
  forked = Branch Beq 28 0 (2 * length xs + 4) ∷ xs ++ over (length ys) ∷ ys

  module _ (p : ℕ) (placed : Placed z.code p forked) where
    -- where the jump over the second piece stands
    abbrev middle : ℕ
    middle = p + 4 + 4 * length xs

    after_first : Placed z.code middle (over (length ys) ∷ ys)
    after_first = Placed-right z.code (p + 4) xs (over (length ys) ∷ ys) placed.3

    below : middle + 4 + 4 * length ys < 2 ^ 32
    below = Placed-below z.code (middle + 4) ys after_first.3 after_first.1

    last : middle + 4 + 4 * length ys ≡ p + 4 * length forked
    last = omega (arith, length-append xs (over (length ys) ∷ ys))

    target : p + 4 + 4 * (length xs + 1) ≡ middle + 4
    target = omega arith

  -- the second, where x28 is 0
  second_runs : {n : ℕ} {P : Data → Type 0} {R : Data → Data → Type 0} → ((s : Data) → P s → s.regs 28 ≡ 0)
      → Runs z n ys P R → Runs z (1 + n) forked P R
  second_runs {P = P} {R = R} none two = record {
    piece = record {
      placed_at = λ p placed.
          let piece = two.piece.placed_at (middle p placed + 4) (after_first p placed).3 in
          record {
            leak = both (always (shown_at p)) piece.leak;
            runs = λ env s rest at fine given.
                then_ends
                (taken_ends Beq 28 0 (2 * length xs + 4) p (omega arith, omega arith, omega arith)
                (placed.0, placed.1, placed.2, tt) rest s at (middle p placed + 4)
                (jumps p placed) (omega arith) (eq-eqb (s.regs 28) 0 (none (contents_of s) given)))
                (λ t there still.
                let same = same_data s t still in
                ends_to (piece.runs env t rest there fine (subst P same given)) (last p placed)
                (λ u done. subst (λ (c : Data). R c (contents_of u)) (sym same) done));
          };
    };
  }
    where
      jumps : (p : ℕ) (placed : Placed z.code p forked)
          → branch_target p (2 * length xs + 4) ≡ middle p placed + 4
      jumps p placed =
          let halves : 2 * (length xs + 1) + 2 ≡ 2 * length xs + 4 = omega arith in
          let end = below p placed in
          ap (branch_target p) (sym halves) ∙ ahead p (length xs + 1) (omega arith) (omega arith) ∙ target p placed

  -- the first, where it is not, and the jump over the second
  first_runs : {n : ℕ} {P : Data → Type 0} {R : Data → Data → Type 0} → ((s : Data) → P s → s.regs 28 ≢ 0)
      → Runs z n xs P R → Runs z (1 + (n + 1)) forked P R
  first_runs {P = P} {R = R} some one = record {
    piece = record {
      placed_at = λ p placed.
          let piece = one.piece.placed_at (p + 4) (Placed-left z.code (p + 4) xs (over (length ys) ∷ ys) placed.3) in
          let jump = after_first p placed in
          record {
            leak = both (always (shown_at p)) (both piece.leak (always (shown_at (middle p placed))));
            runs = λ env s rest at fine given.
                then_ends
                (untaken_ends Beq 28 0 (2 * length xs + 4) p (omega arith, omega arith, omega arith)
                (placed.0, placed.1, placed.2, tt) rest s at (ne_eqb (s.regs 28) 0 (some (contents_of s) given)))
                (λ t there still.
                let same = same_data s t still in
                then_ends (piece.runs env t rest there fine (subst P same given))
                (λ u behind done.
                ends_to
                (over_ends (middle p placed) (length ys) rest (jump.0, jump.1, jump.2, tt) (omega arith) (below p placed)
                u behind) (last p placed)
                (λ v again.
                subst (λ (c : Data). R c (contents_of v)) (sym same)
                (subst (R (contents_of t)) (same_data u v again) done))));
          };
    };
  }

  -- The test, and then one of them.

  -- x28 is what the pointer is beyond a multiple of 4
  record Tested (pointer : ℕ) (P : Data → Type 0) (s : Data) : Type 0 where
    left_over : s.regs 28 ≡ pointer % 4
    holds : P s

  abbrev tested : Data → Data
  tested s = with_result 28 (bit_and (bit_or (s.regs 5) (s.regs 6)) 3) s

  module _ (pointer : ℕ) {P : Data → Type 0} {R : Data → Data → Type 0} (tests : TestsPointer pointer P)
      (hides : (s t : Data) (v : ℕ) → P s → R (with_result 28 v s) t → R s t) where
    test_runs : Runs z 2 (Register Or 28 5 6 ∷ Immediate Andi 28 28 3 ∷ []) P (λ s t. t ≡ tested s)
    test_runs = computes_runs z (λ q. q == 28) (Register Or 28 5 6 ∷ Immediate Andi 28 28 3 ∷ [])
        (λ regs. with_register regs 28 (bit_and (bit_or (regs 5) (regs 6)) 3)) refl
        (λ regs. overwritten regs 28 (bit_or (regs 5) (regs 6)) (bit_and (bit_or (regs 5) (regs 6)) 3))

    tests_it : (s : Data) → P s → Tested pointer P (tested s)
    tests_it s given = record {
      left_over = tests.is s given;
      holds = tests.still s (bit_and (bit_or (s.regs 5) (s.regs 6)) 3) given;
    }

    pub aligned_runs : {n : ℕ} → pointer % 4 ≡ 0 → Runs z n ys P R → Runs z (3 + n) (by_alignment_code xs ys) P R
    aligned_runs {n = n} even two =
        let all : 2 + (1 + n) ≡ 3 + n = omega arith in
        in_steps z all
        (makes_then z {P = P} {P' = Tested pointer P} {f = tested} {R = R} {S = R} test_runs
        (second_runs {P = Tested pointer P} {R = R} (λ s held. held.left_over ∙ even)
        (weaken_runs z {P' = Tested pointer P} {R' = R} two (λ s held. held.holds) (λ s t held done. done)))
        tests_it (λ s u given done. hides s u (bit_and (bit_or (s.regs 5) (s.regs 6)) 3) given done))

    pub unaligned_runs : {n : ℕ} → pointer % 4 ≢ 0 → Runs z n xs P R
        → Runs z (3 + (n + 1)) (by_alignment_code xs ys) P R
    unaligned_runs {n = n} odd one =
        let all : 2 + (1 + (n + 1)) ≡ 3 + (n + 1) = omega arith in
        in_steps z all
        (makes_then z {P = P} {P' = Tested pointer P} {f = tested} {R = R} {S = R} test_runs
        (first_runs {P = Tested pointer P} {R = R} (λ s held same. odd (sym held.left_over ∙ same))
        (weaken_runs z {P' = Tested pointer P} {R' = R} one (λ s held. held.holds) (λ s t held done. done)))
        tests_it (λ s u given done. hides s u (bit_and (bit_or (s.regs 5) (s.regs 6)) 3) given done))
