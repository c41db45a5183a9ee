-- Jumps: over instructions and back, and of two pieces one.
use Rattle.std.proofs.Common.{◌≡◌, ◌≢◌, ℕ, ◌+◌, ◌-◌, ◌*◌, ◌%◌, ◌^◌, ◌<◌, ◌≤◌, ◌==◌, true, false, not, inl, inr}
use Rattle.std.proofs.Common.{if◌then◌else◌, List, [], ◌∷◌, ◌++◌, length, None, refl, sym, ap, ◌∙◌, subst, arith}
use Rattle.std.proofs.Common.{length-append, eq-eqb, ne_eqb}
use Rattle.std.proofs.Math.Path.{fun_ext}
use Rattle.std.proofs.lemmas.Bool.{cases_eq}
use Rattle.std.proofs.lemmas.Bool.Decides.{nat_tests}
use Rattle.expression_code.proofs.program_logic_lemmas.Pieces.{cheaper, step_ends, then_ends, ends_to, along_fit}
use Rattle.expression_code.proofs.program_logic_lemmas.Pieces.{stop_here}
use Rattle.expression_code.proofs.program_logic_lemmas.PlacedLaws.{Placed-left, Placed-right, Placed-below, stands}
use Rattle.expression_code.specs.program_logic.Jumps.{skip, over, back, branch_code}
use Rattle.expression_code.specs.program_logic.Pieces.{PieceSetting, Before, After, Steps, Leak, always, both, Ends}
use Rattle.expression_code.specs.program_logic.Pieces.{Runs}
use Rattle.expression_code.specs.program_logic.Pieces.{Still}
use Rattle.expression_code.specs.program_logic.Placed.{Placed}
use Rattle.expression_code.specs.program_logic.MachineSteps.{at_most, Bound}
use Rattle.expression_code.specs.Below.{Bne, branch_target, BranchTest, holds, Instr, IsInstr, jump_target, moved_to}
use Rattle.expression_code.specs.Below.{next}
use Rattle.expression_code.specs.Below.{Observation, register, State, with_link, with_register}
use Rattle.rv_code.specs.declared.instructions.Instr.TheVariants as instr
use Rattle.expression_code.proofs.program_logic_lemmas.Below.{with_link-pc, with_link-regs, with_link-bytes}
use Rattle.expression_code.proofs.program_logic_lemmas.Below.{moved_to-pc}
use Rattle.expression_code.proofs.program_logic_lemmas.Below.{moved_to-regs, moved_to-bytes, jump_leads, branch_leads}
use Rattle.expression_code.proofs.program_logic_lemmas.Below.{branch_passes}

dropped : (regs : ℕ → ℕ) (v : ℕ) → with_register regs 0 v ≡ regs
dropped regs v = fun_ext (λ r. grind (arith, nat_tests))

-- what a jump shows
abbrev pub shown_at : ℕ → List Observation
shown_at p = record { pc = p; event = None } ∷ []

-- whether a register other than x0 is 0
some_in : (regs : ℕ → ℕ) (r : ℕ) → r ≢ 0 → regs r ≢ 0 → not (register regs r == 0) ≡ true
some_in regs r nonzero some = rw (ne_eqb r 0 nonzero, ne_eqb (regs r) 0 some) refl

none_in : (regs : ℕ → ℕ) (r : ℕ) → r ≢ 0 → regs r ≡ 0 → not (register regs r == 0) ≡ false
none_in regs r nonzero none' = rw (ne_eqb r 0 nonzero, eq-eqb (regs r) 0 none') refl

forward : (p n : ℕ) → 2 * n + 2 < 2 ^ 19 → p + 4 + 4 * n < 2 ^ 32 → jump_target p (2 * n + 2) ≡ p + 4 + 4 * n
forward p n near below = grind (arith, nat_tests)

backward : (p n : ℕ) → 0 < n → 2 * n ≤ 2 ^ 19 → 4 * n ≤ p → p < 2 ^ 32 → jump_target p (2 ^ 20 - 2 * n) ≡ p - 4 * n
backward p n some near low below = grind (arith, nat_tests)

-- what a branch makes of a state
pub moved_still : (s : State) (target : ℕ) → Still s (moved_to s target)
moved_still s target = record { regs = moved_to-regs s target; bytes = moved_to-bytes s target }

-- an arm of a choice: steps to a piece, and steps from behind it to the end
pub record Way (z : PieceSetting) (p k l : ℕ) (goes : State → Type 0) (code xs : List Instr) (Back : State → State
    → Type 0) : Type 0 where
  pub start : ℕ
  pub stands_there : Placed z.code start xs
  pub into : Leak z
  pub out : Leak z
  pub enters : (s : State) (rest : List z.Mark) → s.pc ≡ p → goes s
      → Ends at_most z k start into rest rest (λ t. Still s t) s
  pub leaves : (u : State) (rest : List z.Mark) → u.pc ≡ start + 4 * length xs
      → Ends at_most z l (p + 4 * length code) out rest rest (Back u) u

module _ {bound : Bound} {z : PieceSetting} where
  jump_ends : (p halves target : ℕ) (rest : List z.Mark) → Placed z.code p (instr.Jump 0 halves ∷ [])
      → halves < 2 ^ 20 → jump_target p halves ≡ target → target % 4 ≡ 0
      → (s : State) → s.pc ≡ p → Ends bound z 1 target (always (shown_at p)) rest rest (λ t. Still s t) s
  jump_ends p halves target rest placed small to even s at =
      let there : jump_target s.pc halves ≡ target = ap (λ q. jump_target q halves) at ∙ to in
      let t = with_link s 0 (jump_target s.pc halves) in
      let still : Still s t = record {
        regs = with_link-regs s 0 (jump_target s.pc halves) ∙ dropped s.regs (next s);
        bytes = with_link-bytes s 0 (jump_target s.pc halves);
      } in
      step_ends None None t at
      (jump_leads z.code s 0 halves (stands z.code p _ [] placed (omega arith, small) s at) (ap (λ q. q % 4) there
      ∙ even)) refl (z.each_still s t still) refl
      (with_link-pc s 0 (jump_target s.pc halves) ∙ there) still

  -- over so many instructions
  pub over_ends : (p n : ℕ) (rest : List z.Mark) → Placed z.code p (over n ∷ []) → 2 * n + 2 < 2 ^ 19
      → p + 4 + 4 * n < 2 ^ 32
      → (s : State) → s.pc ≡ p → Ends bound z 1 (p + 4 + 4 * n) (always (shown_at p)) rest rest (λ t. Still s t) s
  over_ends p n rest placed near below s at =
      jump_ends p (2 * n + 2) (p + 4 + 4 * n) rest placed (omega arith) (forward p n near below) (omega arith) s at

  pub back_ends : (p n q : ℕ) (rest : List z.Mark) → Placed z.code q (back n ∷ []) → 0 < n → 2 * n ≤ 2 ^ 19
      → q ≡ p + 4 * n
      → (s : State) → s.pc ≡ q → Ends bound z 1 p (always (shown_at q)) rest rest (λ t. Still s t) s
  back_ends p n q rest placed some near is s at =
      let to : q - 4 * n ≡ p = omega arith in
      jump_ends q (2 ^ 20 - 2 * n) p rest placed (omega arith)
      (backward q n some near (omega arith) (omega arith) ∙ to) (omega arith) s at

  -- A branch, whose registers pass its test or do not.
  module _ (test : BranchTest) (l r halves p : ℕ) (fields : IsInstr (instr.Branch test l r halves))
      (placed : Placed z.code p (instr.Branch test l r halves ∷ []))
      (rest : List z.Mark) (s : State) (at : s.pc ≡ p) where
    pub taken_ends : (target : ℕ) → branch_target p halves ≡ target → target % 4 ≡ 0
        → holds test (register s.regs l) (register s.regs r) ≡ true
        → Ends bound z 1 target (always (shown_at p)) rest rest (λ t. Still s t) s
    taken_ends target to even passed =
        let there : branch_target s.pc halves ≡ target = ap (λ q. branch_target q halves) at ∙ to in
        step_ends None None (moved_to s (branch_target s.pc halves)) at
        (branch_leads z.code s test l r halves (stands z.code p _ [] placed fields s at) passed
        (ap (λ q. q % 4) there ∙ even)) refl (z.each_still s _ (moved_still s _)) refl
        (moved_to-pc s (branch_target s.pc halves) ∙ there) (moved_still s _)

    pub untaken_ends : holds test (register s.regs l) (register s.regs r) ≡ false
        → Ends bound z 1 (p + 4) (always (shown_at p)) rest rest (λ t. Still s t) s
    untaken_ends failed =
        let to : next s ≡ p + 4 = omega arith in
        step_ends None None (moved_to s (next s)) at
        (branch_passes z.code s test l r halves (stands z.code p _ [] placed fields s at) failed) refl
        (z.each_still s _ (moved_still s _)) refl (moved_to-pc s (next s) ∙ to) (moved_still s _)

module _ {z : PieceSetting} where
  -- an arm's code, from states that go to its piece
  pub arm_runs : {k m l : ℕ} {a : Steps z} {code xs : List Instr} {P P' : Before z} {Q S : After z}
      {goes : State → Type 0} {Back : State → State → Type 0}
      → ((p : ℕ) → Placed z.code p code → Way z p k l goes code xs Back)
      → ((env : z.Beside) (s : State) → P env s → goes s)
      → ((env : z.Beside) (s t : State) → P env s → Still s t → P' env t)
      → ((env : z.Beside) (s t u v : State) → P env s → Still s t → Q env t u → Back u v → S env s v)
      → Runs at_most z m a xs P' Q → Runs at_most z (k + (m + l)) a code P S
  arm_runs {a = a} way tested before after one = record {
    placed_at = λ p placed.
        let w = way p placed in
        let piece = one.placed_at w.start w.stands_there in
        record {
          leak = both w.into (both piece.leak w.out);
          runs = λ env s rest at fine fit.
              then_ends (w.enters s (z.seen (a env) ++ rest) at (tested env s fit))
              (λ t there still.
              then_ends (piece.runs env t rest there fine (before env s t fit still))
              (λ u there done.
              ends_to (w.leaves u rest there) refl (λ v back. after env s t u v fit still done back)));
        };
  }

  -- where a value is known, the steps of one arm or those of the other
  pub by_known : {n : ℕ} {a b : Steps z} {is : List Instr} {P : Before z} {S : After z} (value : z.Beside → ℕ) (v : ℕ)
      → ((env : z.Beside) (s : State) → P env s → value env ≡ v)
      → (((env : z.Beside) (s : State) → P env s → value env ≢ 0) → Runs at_most z n a is P S)
      → (((env : z.Beside) (s : State) → P env s → value env ≡ 0) → Runs at_most z n b is P S)
      → Runs at_most z n (λ env. if value env == 0 then b env else a env) is P S
  by_known {P = P} value v known some none' =
      elim (cases_eq v 0) [
        | inl zero' ↦ along_fit (λ env s fit. rw (eq-eqb (value env) 0 (known env s fit ∙ zero')))
            (none' (λ env s fit. known env s fit ∙ zero'))
        | inr other ↦
            let nonzero = λ (env : z.Beside) (s : State) (fit : P env s) (same : value env ≡ 0).
            other (sym (known env s fit) ∙ same) in
            along_fit (λ env s fit. rw (ne_eqb (value env) 0 (nonzero env s fit))) (some nonzero)
      ]

  module _ (r : ℕ) (small : r < 32) (nonzero : r ≢ 0) where
    -- the register is not 0, so the next instruction is not run
    pub skip_ends : (p : ℕ) (rest : List z.Mark) → Placed z.code p (skip r ∷ []) → p + 8 < 2 ^ 32 → (s : State)
        → s.pc ≡ p → s.regs r ≢ 0
        → Ends at_most z 1 (p + 4 + 4) (always (shown_at p)) rest rest (λ t. Still s t) s
    skip_ends p rest placed below s at some =
        taken_ends Bne r 0 4 p (small, omega arith, omega arith) placed rest s at (p + 4 + 4) (omega arith)
        (omega arith) (some_in s.regs r nonzero some)

    -- the register is 0
    pub pass_ends : (p : ℕ) (rest : List z.Mark) → Placed z.code p (skip r ∷ []) → (s : State) → s.pc ≡ p
        → s.regs r ≡ 0
        → Ends at_most z 1 (p + 4) (always (shown_at p)) rest rest (λ t. Still s t) s
    pass_ends p rest placed s at zero' =
        untaken_ends Bne r 0 4 p (small, omega arith, omega arith) placed rest s at (none_in s.regs r nonzero zero')

    -- Of two pieces one.

    module _ {m n : ℕ} {a b : Steps z} {xs ys : List Instr} {P P1 P2 : Before z} {Q R S : After z}
        (value : z.Beside → ℕ)
        (near : 2 * (length xs + length ys) + 8 < 2 ^ 19)
        (tested : (env : z.Beside) (s : State) → P env s → s.regs r ≡ value env)
        (accepts : (env : z.Beside) (s t : State) → value env ≢ 0 → P env s → Still s t → P1 env t)
        (accepted : (env : z.Beside) (s t u v : State) → value env ≢ 0 → P env s → Still s t → Q env t u → Still u v
        → S env s v)
        (rejects : (env : z.Beside) (s t : State) → value env ≡ 0 → P env s → Still s t → P2 env t)
        (rejected : (env : z.Beside) (s t u : State) → value env ≡ 0 → P env s → Still s t → R env t u → S env s u)
        (one : Runs at_most z m a xs P1 Q) (two : Runs at_most z n b ys P2 R) where
      module _ (p : ℕ) (placed : Placed z.code p (branch_code r xs ys)) where
        -- where the second jump stands
        abbrev middle : ℕ
        middle = p + 4 + 4 + 4 * length xs

        after_first : Placed z.code (p + 4 + 4) (xs ++ over (length ys) ∷ ys)
        after_first = placed.3.3

        after_arm : Placed z.code middle (over (length ys) ∷ ys)
        after_arm = Placed-right z.code (p + 4 + 4) xs (over (length ys) ∷ ys) after_first

        last : p + 4 + 4 + 4 * length xs + 4 + 4 * length ys ≡ p + 4 * length (branch_code r xs ys)
        last = omega (arith, length-append xs (over (length ys) ∷ ys))

        first_way : Way z p 1 1 (λ s. s.regs r ≢ 0) (branch_code r xs ys) xs Still
        first_way =
            let below = Placed-below z.code (middle + 4) ys after_arm.3 after_arm.1 in
            record {
              start = p + 4 + 4;
              stands_there = Placed-left z.code (p + 4 + 4) xs (over (length ys) ∷ ys) after_first;
              into = always (shown_at p);
              out = always (shown_at middle);
              enters = λ s rest at some.
                  skip_ends p rest (placed.0, placed.1, placed.2, tt) (omega (arith, after_arm.1)) s at some;
              leaves = λ u rest there.
                  ends_to (over_ends middle (length ys) rest (after_arm.0, after_arm.1, after_arm.2, tt)
                  (omega arith) below u there) (omega (arith, last)) (λ v still. still);
            }

        second_way : Way z p 2 0 (λ s. s.regs r ≡ 0) (branch_code r xs ys) ys (λ u v. v ≡ u)
        second_way =
            let past : p + 4 + 4 + 4 * (length xs + 1) ≡ middle + 4 = omega arith in
            record {
              start = middle + 4;
              stands_there = after_arm.3;
              into = both (always (shown_at p)) (always (shown_at (p + 4)));
              out = always [];
              enters = λ s rest at none'.
                  then_ends (pass_ends p rest (placed.0, placed.1, placed.2, tt) s at none')
                  (λ t there still.
                  ends_to (over_ends (p + 4) (length xs + 1) rest (placed.3.0, placed.3.1, placed.3.2, tt)
                  (omega arith) (omega (arith, after_arm.1, past)) t there) past
                  (λ u again. record { regs = again.regs ∙ still.regs; bytes = again.bytes ∙ still.bytes }));
              leaves = λ u rest there. stop_here u (omega (arith, there, last)) refl;
            }

      -- where the value is known to be 0
      pub second_runs : ((env : z.Beside) (s : State) → P env s → value env ≡ 0)
          → Runs at_most z (2 + m + n) b (branch_code r xs ys) P S
      second_runs none' =
          cheaper (omega arith)
          (arm_runs second_way (λ env s fit. tested env s fit ∙ none' env s fit)
          (λ env s t fit still. rejects env s t (none' env s fit) fit still)
          (λ env s t u v fit still done same.
          subst (S env s) (sym same) (rejected env s t u (none' env s fit) fit still done)) two)

      -- or known not to be
      pub first_runs : ((env : z.Beside) (s : State) → P env s → value env ≢ 0)
          → Runs at_most z (2 + m + n) a (branch_code r xs ys) P S
      first_runs some =
          cheaper (omega arith)
          (arm_runs first_way (λ env s fit e. some env s fit (sym (tested env s fit) ∙ e))
          (λ env s t fit still. accepts env s t (some env s fit) fit still)
          (λ env s t u v fit still done back. accepted env s t u v (some env s fit) fit still done back) one)

      -- where the value is known, the first piece where it is not 0, and else the second
      pub branching_at : (v : ℕ) → ((env : z.Beside) (s : State) → P env s → value env ≡ v)
          → Runs at_most z (2 + m + n) (λ env. if value env == 0 then b env else a env) (branch_code r xs ys) P S
      branching_at v is = by_known value v is first_runs second_runs
