-- Of two pieces one, by a test of two registers: a branch jumps over the first piece where they pass it.
use Rattle.std.proofs.Common.{true, false, ◌≡◌, ◌≢◌, ℕ, ◌+◌, ◌*◌, ◌^◌, ◌<◌, ◌==◌, if◌then◌else◌, List, [], ◌∷◌, ◌++◌}
use Rattle.std.proofs.Common.{length, refl, sym, subst, ◌∙◌, arith, length-append, eq-eqb, ne_eqb}
use Rattle.std.proofs.lemmas.Bool.Decides.{nat_tests}
use Rattle.expression_code.proofs.program_logic_lemmas.Jumps.{Way, arm_runs, by_known, over_ends, shown_at, taken_ends}
use Rattle.expression_code.proofs.program_logic_lemmas.Jumps.{untaken_ends}
use Rattle.expression_code.proofs.program_logic_lemmas.Pieces.{cheaper, ends_as, ends_to, stop_here}
use Rattle.expression_code.proofs.program_logic_lemmas.PlacedLaws.{Placed-below, Placed-left, Placed-right}
use Rattle.expression_code.specs.program_logic.Tests.{leave, unless_code}
use Rattle.expression_code.specs.program_logic.Pieces.{After, Before, Ends, Runs, PieceSetting, Steps, Still, always}
use Rattle.expression_code.specs.program_logic.Placed.{Placed}
use Rattle.expression_code.specs.program_logic.MachineSteps.{at_most}
use Rattle.expression_code.specs.Below.{branch_target, BranchTest, holds, Instr, IsInstr, Observation, register, State}
use Rattle.rv_code.specs.declared.instructions.Instr.TheVariants as instr

ahead : (p n : ℕ) → 2 * n + 2 < 2 ^ 11 → p + 4 + 4 * n < 2 ^ 32 → branch_target p (2 * n + 2) ≡ p + 4 + 4 * n
ahead p n near below = grind (arith, nat_tests)

-- what a jump over a piece shows, where the piece has instructions
abbrev leave_leak : {M : Type 0} → ℕ → List Instr → List M → List Observation × List M
leave_leak q [] = always []
leave_leak q (y ∷ ys) = always (shown_at q)

module _ {z : PieceSetting} where
  leave_ends : (ys : List Instr) (q : ℕ) (rest : List z.Mark) → Placed z.code q (leave ys ++ ys)
      → 2 * length ys + 2 < 2 ^ 19
      → (s : State) → s.pc ≡ q
      → Ends at_most z 1 (q + 4 * length (leave ys ++ ys)) (leave_leak q ys) rest rest (λ t. Still s t) s
  leave_ends [] q rest placed near s at =
      ends_as (stop_here s refl (record { regs = refl; bytes = refl })) (omega arith) (omega arith) (λ t still. still)
  leave_ends (y ∷ ys) q rest placed near s at =
      ends_to
      (over_ends q (length (y ∷ ys)) rest (placed.0, placed.1, placed.2, tt) near
      (Placed-below z.code (q + 4) (y ∷ ys) placed.3 placed.1) s at) (omega arith) (λ t still. still)

  module _ (test : BranchTest) (l r : ℕ) (small : l < 32) (small' : r < 32) where
    -- The registers pass the test where a value is 0.

    module _ {m n : ℕ} {a b : Steps z} {xs ys : List Instr} {P P1 P2 : Before z} {Q R S : After z}
        (value : z.Beside → ℕ)
        (short : 2 * length xs + 4 < 2 ^ 11)
        (near : 2 * length ys + 2 < 2 ^ 19)
        (tested : (env : z.Beside) (s : State) → P env s
        → holds test (register s.regs l) (register s.regs r) ≡ (value env == 0))
        (accepts : (env : z.Beside) (s t : State) → value env ≢ 0 → P env s → Still s t → P1 env t)
        (accepted : (env : z.Beside) (s t u v : State) → value env ≢ 0 → P env s → Still s t → Q env t u → Still u v
        → S env s v)
        (rejects : (env : z.Beside) (s t : State) → value env ≡ 0 → P env s → Still s t → P2 env t)
        (rejected : (env : z.Beside) (s t u : State) → value env ≡ 0 → P env s → Still s t → R env t u → S env s u)
        (one : Runs at_most z m a xs P1 Q) (two : Runs at_most z n b ys P2 R) where
      abbrev count : ℕ
      count = length xs + length (leave ys)

      count_near : (is : List Instr) → 2 * (length xs + length (leave is)) + 2 < 2 ^ 11
      count_near [] = omega arith
      count_near (i ∷ is) = omega arith

      module _ (p : ℕ) (placed : Placed z.code p (unless_code test l r xs ys)) where
        -- where the first piece has ended
        abbrev middle : ℕ
        middle = p + 4 + 4 * length xs

        fields : IsInstr (instr.Branch test l r (2 * count + 2))
        fields = let near' = count_near ys in (small, small', omega arith)

        after_arm : Placed z.code middle (leave ys ++ ys)
        after_arm = Placed-right z.code (p + 4) xs (leave ys ++ ys) placed.3

        last : middle + 4 * length (leave ys ++ ys) ≡ p + 4 * length (unless_code test l r xs ys)
        last = omega (arith, length-append xs (leave ys ++ ys))

        -- where the second begins
        start_is : middle + 4 * length (leave ys) ≡ p + 4 + 4 * count
        start_is = omega arith

        below : p + 4 + 4 * count < 2 ^ 32
        below =
            let all = Placed-below z.code (p + 4) (xs ++ (leave ys ++ ys)) placed.3 placed.1 in
            omega (arith, all, length-append xs (leave ys ++ ys), length-append (leave ys) ys)

        first_way : Way z p 1 1 (λ s. holds test (register s.regs l) (register s.regs r) ≡ false)
            (unless_code test l r xs ys) xs Still
        first_way = record {
          start = p + 4;
          stands_there = Placed-left z.code (p + 4) xs (leave ys ++ ys) placed.3;
          into = always (shown_at p);
          out = leave_leak middle ys;
          enters = λ s rest at failed.
              untaken_ends test l r (2 * count + 2) p fields (placed.0, placed.1, placed.2, tt) rest s at failed;
          leaves = λ u rest there. ends_to (leave_ends ys middle rest after_arm near u there) last (λ v still. still);
        }

        second_way : Way z p 1 0 (λ s. holds test (register s.regs l) (register s.regs r) ≡ true)
            (unless_code test l r xs ys) ys (λ u v. v ≡ u)
        second_way =
            let f = length-append (leave ys) ys in
            record {
              start = middle + 4 * length (leave ys);
              stands_there = Placed-right z.code middle (leave ys) ys after_arm;
              into = always (shown_at p);
              out = always [];
              enters = λ s rest at passed.
                  taken_ends test l r (2 * count + 2) p fields (placed.0, placed.1, placed.2, tt) rest s at
                  (middle + 4 * length (leave ys)) (ahead p count (count_near ys) below ∙ sym start_is)
                  (omega arith) passed;
              leaves = λ u rest there. stop_here u (omega (arith, there, last, f)) refl;
            }

      -- where the value is known, the first piece where it is not 0, and else the second
      pub unless_at : (v : ℕ) → ((env : z.Beside) (s : State) → P env s → value env ≡ v)
          → Runs at_most z (2 + m + n) (λ env. if value env == 0 then b env else a env) (unless_code test l r xs ys) P S
      unless_at v is =
          by_known value v is
          (λ some. cheaper (omega arith)
          (arm_runs first_way (λ env s fit. tested env s fit ∙ ne_eqb (value env) 0 (some env s fit))
          (λ env s t fit still. accepts env s t (some env s fit) fit still)
          (λ env s t u v fit still done back. accepted env s t u v (some env s fit) fit still done back) one))
          (λ none'. cheaper (omega arith)
          (arm_runs second_way (λ env s fit. tested env s fit ∙ eq-eqb (value env) 0 (none' env s fit))
          (λ env s t fit still. rejects env s t (none' env s fit) fit still)
          (λ env s t u v fit still done same.
          subst (S env s) (sym same) (rejected env s t u (none' env s fit) fit still done)) two))
