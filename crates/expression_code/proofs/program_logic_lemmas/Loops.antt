-- A piece that is run again and again. What holds before each iteration is said of how many are left, of the number
-- that the iteration is for, and of the states at the loop's begin and now, beside what the piece is run beside now.
use Rattle.std.proofs.Common.{◌≡◌, ◌≢◌, ℕ, zero, suc, ◌+◌, ◌-◌, ◌*◌, ◌^◌, ◌<◌, ◌≤◌, not, List, [], ◌∷◌, ◌++◌, length}
use Rattle.std.proofs.Common.{refl, sym, ap, ◌∙◌, arith, length-append, append-nil, eq-eqb, ne_eqb}
use Rattle.std.proofs.lemmas.Bool.Decides.{nat_tests}
use Rattle.expression_code.proofs.program_logic_lemmas.Jumps.{shown_at, over_ends, back_ends, skip_ends, pass_ends}
use Rattle.expression_code.proofs.program_logic_lemmas.Jumps.{taken_ends}
use Rattle.expression_code.proofs.program_logic_lemmas.Jumps.{untaken_ends}
use Rattle.expression_code.proofs.program_logic_lemmas.Pieces.{seen_then, seen_nothing, then_ends, ends_as, ends_to}
use Rattle.expression_code.proofs.program_logic_lemmas.Pieces.{ends_on}
use Rattle.expression_code.proofs.program_logic_lemmas.PlacedLaws.{Placed-left, Placed-right}
use Rattle.expression_code.proofs.program_logic_lemmas.StepLaws.{counted}
use Rattle.expression_code.specs.program_logic.Jumps.{skip, over, back, loop_code, again_code}
use Rattle.expression_code.specs.program_logic.Pieces.{PieceSetting, Before, After, Steps, none, Leak, always, both}
use Rattle.expression_code.specs.program_logic.Pieces.{Ends}
use Rattle.expression_code.specs.program_logic.Pieces.{RunsAt, Runs, Still, iterations_after, iterations_path}
use Rattle.expression_code.specs.program_logic.Placed.{Placed}
use Rattle.expression_code.specs.program_logic.MachineSteps.{at_most, Bound}
use Rattle.expression_code.specs.Below.{Bne, branch_target, Instr, IsInstr, register, State}
use Rattle.rv_code.specs.declared.instructions.Instr.TheVariants as instr

-- A loop that tests first, and goes on as long as a register is not 0.

module _ {z : PieceSetting} (r : ℕ) (small : r < 32) (nonzero : r ≢ 0) {m n : ℕ} {test body : List Instr} {A : ℕ → ℕ
    → Before z} {B : ℕ → ℕ → After z} {C : ℕ → ℕ → Before z} {D : ℕ → ℕ → After z}
    (path : ℕ → Steps z) (iteration : ℕ → z.Beside → z.Beside)
    (Inv : ℕ → ℕ → z.Beside → State → State → Type 0)
    (Over : z.Beside → State → State → Type 0)
    (near : 2 * (length test + length body) + 8 < 2 ^ 19)
    (enters : (left i : ℕ) (env : z.Beside) (o s : State) → Inv left i env o s → A left i env s)
    (goes : (left i : ℕ) (env : z.Beside) (o s t : State) → Inv (suc left) i env o s → B (suc left) i env s t
    → t.regs r ≢ 0)
    (ends' : (i : ℕ) (env : z.Beside) (o s t : State) → Inv 0 i env o s → B 0 i env s t → t.regs r ≡ 0)
    (prepares : (left i : ℕ) (env : z.Beside) (o s t u : State) → Inv (suc left) i env o s → B (suc left) i env s t
    → Still t u → C left i env u)
    (iterated : (left i : ℕ) (env : z.Beside) (o s t u v w : State) → Inv (suc left) i env o s → B (suc left) i env s t
    → Still t u → D left i env u v → Still v w → Inv left (i + 1) (iteration i env) o w)
    (leaves : (i : ℕ) (env : z.Beside) (o s t u : State) → Inv 0 i env o s → B 0 i env s t → Still t u → Over env o u)
    (tests : (left i : ℕ) → Runs at_most z m none test (A left i) (B left i))
    (bodies : (left i : ℕ) → Runs at_most z n (path i) body (C left i) (D left i)) where
  module _ (p : ℕ) (placed : Placed z.code p (loop_code r test body)) where
    -- where the test has ended
    abbrev tested_at : ℕ
    tested_at = p + 4 * length test

    -- where the jump back stands
    abbrev back_at : ℕ
    back_at = tested_at + 4 + 4 + 4 * length body

    -- the jump back, and all behind the test
    abbrev jump : List Instr
    jump = back (length test + 2 + length body) ∷ []

    abbrev behind_test : List Instr
    behind_test = skip r ∷ over (length body + 1) ∷ (body ++ jump)

    from_skip : Placed z.code tested_at behind_test
    from_skip = Placed-right z.code p test behind_test placed

    from_back : Placed z.code back_at jump
    from_back = Placed-right z.code (tested_at + 4 + 4) body jump from_skip.3.3

    ended : back_at + 4 ≡ p + 4 * length (loop_code r test body)
    ended = omega (arith, length-append test behind_test, length-append body jump)

    test_at : (left i : ℕ) → RunsAt at_most z p m none test (A left i) (B left i)
    test_at left i = (tests left i).placed_at p (Placed-left z.code p test behind_test placed)

    body_at : (left i : ℕ) → RunsAt at_most z (tested_at + 4 + 4) n (path i) body (C left i) (D left i)
    body_at left i =
        (bodies left i).placed_at (tested_at + 4 + 4) (Placed-left z.code (tested_at + 4 + 4) body jump from_skip.3.3)

    leak_at : ℕ → ℕ → Leak z
    leak_at zero i = both (test_at 0 i).leak (both (always (shown_at tested_at)) (always (shown_at (tested_at + 4))))
    leak_at (suc left) i =
        both (test_at (suc left) i).leak (both (always (shown_at tested_at)) (both (body_at left i).leak
        (both (always (shown_at back_at)) (leak_at left (i + 1)))))

    -- the test on a path that it puts nothing on
    test_ends : (left i : ℕ) (env : z.Beside) (s : State) (rest : List z.Mark) → s.pc ≡ p → A left i env s
        → Ends at_most z m tested_at (test_at left i).leak rest rest (B left i env s) s
    test_ends left i env s rest at fit =
        ends_on ((test_at left i).runs env s rest at z.fine_none fit) (sym (seen_nothing z rest))

    last_ends : (i : ℕ) (env : z.Beside) (o s : State) (rest : List z.Mark) → s.pc ≡ p → Inv 0 i env o s
        → Ends at_most z (m + n + 2) (p + 4 * length (loop_code r test body)) (leak_at 0 i) rest rest (Over env o) s
    unfolding leak_at
    last_ends i env o s rest at inv =
        let past : tested_at + 4 + 4 + 4 * (length body + 1) ≡ back_at + 4 = omega arith in
        ends_as
        (then_ends (test_ends 0 i env s rest at (enters 0 i env o s inv))
        (λ t there done.
        then_ends
        (pass_ends r small nonzero tested_at rest (from_skip.0, from_skip.1, from_skip.2, tt) t there
        (ends' i env o s t inv done))
        (λ u there still.
        ends_to {R = Over env o}
        (over_ends (tested_at + 4) (length body + 1) rest (from_skip.3.0, from_skip.3.1, from_skip.3.2, tt)
        (omega arith) (omega (arith, from_back.1, past)) u there) past
        (λ v more. leaves i env o s t v inv done
        (record { regs = more.regs ∙ still.regs; bytes = more.bytes ∙ still.bytes })))))
        (omega arith) ended (λ t done. done)

    runs_at : (left i : ℕ) (env : z.Beside) (o s : State) (rest : List z.Mark) → s.pc ≡ p
        → z.Fine (iterations_path left i iteration path env) → Inv left i env o s
        → Ends at_most z ((left + 1) * (m + n + 2)) (p + 4 * length (loop_code r test body)) (leak_at left i)
        (z.seen (iterations_path left i iteration path env) ++ rest) rest
        (Over (iterations_after left i iteration env) o) s
    unfolding leak_at
    runs_at zero i env o s rest at fine inv =
        ends_as (ends_on (last_ends i env o s rest at inv) (seen_nothing z rest)) (omega arith) refl (λ t done. done)
    runs_at (suc left) i env o s rest at fine inv =
        let tail = iterations_path left (i + 1) iteration path (iteration i env) in
        let more = z.seen tail ++ rest in
        let there' : back_at ≡ p + 4 * (length test + 2 + length body) = omega arith in
        ends_as
        (ends_on
        (then_ends
        (test_ends (suc left) i env s (z.seen (path i env) ++ more) at (enters (suc left) i env o s inv))
        (λ t there done.
        then_ends
        (skip_ends r small nonzero tested_at (z.seen (path i env) ++ more)
        (from_skip.0, from_skip.1, from_skip.2, tt) (omega (arith, from_back.1)) t there
        (goes left i env o s t inv done))
        (λ u there still.
        then_ends
        ((body_at left i).runs env u more there (z.fine_left (path i env) tail fine)
        (prepares left i env o s t u inv done still))
        (λ v there made.
        then_ends
        (back_ends p (length test + 2 + length body) back_at more from_back (omega arith) (omega arith)
        there' v there)
        (λ w there back. runs_at left (i + 1) (iteration i env) o w rest there (z.fine_right (path i env) tail fine)
        (iterated left i env o s t u v w inv done still made back))))))
        (seen_then z (path i env) tail rest))
        (omega arith) refl (λ t done. done)

  -- so many iterations, the first at this number
  pub looping : (left i : ℕ)
      → Runs at_most z ((left + 1) * (m + n + 2)) (λ env. iterations_path left i iteration path env)
      (loop_code r test body)
      (λ env s. Inv left i env s s) (λ env s t. Over (iterations_after left i iteration env) s t)
  looping left i = record {
    placed_at = λ p placed. record {
      leak = leak_at p placed left i;
      runs = λ env s rest at fine inv. runs_at p placed left i env s s rest at fine inv;
    };
  }

-- A loop that goes back by a branch, as long as two registers differ.

back_target : (p n : ℕ) → 0 < n → 2 * n ≤ 2 ^ 11 → 4 * n ≤ p → p < 2 ^ 32
    → branch_target p (2 ^ 12 - 2 * n) ≡ p - 4 * n
back_target p n some near low below = grind (arith, nat_tests)

module _ {bound : Bound} {z : PieceSetting} (r q : ℕ) (small : r < 32) (small' : q < 32) {n : ℕ}
    {body : List Instr} {C : ℕ → ℕ → Before z} {D : ℕ → ℕ → After z}
    (path : ℕ → Steps z) (iteration : ℕ → z.Beside → z.Beside)
    (Inv : ℕ → ℕ → z.Beside → State → State → Type 0)
    (Over : z.Beside → State → State → Type 0)
    (some : 0 < length body) (near : 2 * length body ≤ 2 ^ 11)
    (enters : (left i : ℕ) (env : z.Beside) (o s : State) → Inv left i env o s → C left i env s)
    (goes : (left i : ℕ) (env : z.Beside) (o s t : State) → Inv (suc left) i env o s → D (suc left) i env s t
    → register t.regs r ≢ register t.regs q)
    (ends' : (i : ℕ) (env : z.Beside) (o s t : State) → Inv 0 i env o s → D 0 i env s t
    → register t.regs r ≡ register t.regs q)
    (iterated : (left i : ℕ) (env : z.Beside) (o s t u : State) → Inv (suc left) i env o s → D (suc left) i env s t
    → Still t u → Inv left (i + 1) (iteration i env) o u)
    (leaves : (i : ℕ) (env : z.Beside) (o s t u : State) → Inv 0 i env o s → D 0 i env s t → Still t u
    → Over (iteration i env) o u)
    (bodies : (left i : ℕ) → Runs bound z n (path i) body (C left i) (D left i)) where
  module _ (p : ℕ) (placed : Placed z.code p (again_code r q body)) where
    -- where the branch stands
    abbrev branch_at : ℕ
    branch_at = p + 4 * length body

    abbrev branch : Instr
    branch = instr.Branch Bne r q (2 ^ 12 - 2 * length body)

    from_branch : Placed z.code branch_at (branch ∷ [])
    from_branch = Placed-right z.code p body (branch ∷ []) placed

    behind : branch_at + 4 ≡ p + 4 * length (again_code r q body)
    behind = omega (arith, length-append body (branch ∷ []))

    round_at : (left i : ℕ) → RunsAt bound z p n (path i) body (C left i) (D left i)
    round_at left i = (bodies left i).placed_at p (Placed-left z.code p body (branch ∷ []) placed)

    fields : IsInstr branch
    fields = (small, small', omega arith)

    target : branch_target branch_at (2 ^ 12 - 2 * length body) ≡ p
    target =
        back_target branch_at (length body) some near (omega arith) (omega (arith, from_branch.1)) ∙ omega arith

    again_leak : ℕ → ℕ → Leak z
    again_leak zero i = both (round_at 0 i).leak (always (shown_at branch_at))
    again_leak (suc left) i =
        both (round_at (suc left) i).leak (both (always (shown_at branch_at)) (again_leak left (i + 1)))

    again_at : (left i : ℕ) (env : z.Beside) (o s : State) (rest : List z.Mark) → s.pc ≡ p
        → z.Fine (iterations_path (suc left) i iteration path env) → Inv left i env o s
        → Ends bound z ((left + 1) * (n + 1)) (p + 4 * length (again_code r q body)) (again_leak left i)
        (z.seen (iterations_path (suc left) i iteration path env) ++ rest) rest
        (Over (iterations_after (suc left) i iteration env) o) s
    unfolding again_leak
    again_at zero i env o s rest at fine inv =
        ends_as
        (ends_on
        (then_ends ((round_at 0 i).runs env s rest at (z.fine_left (path i env) [] fine) (enters 0 i env o s inv))
        (λ t there done.
        ends_to {R = Over (iteration i env) o}
        (untaken_ends Bne r q _ branch_at fields from_branch rest t there
        (ap not (eq-eqb _ _ (ends' i env o s t inv done)))) behind
        (λ u still. leaves i env o s t u inv done still)))
        (ap (λ (marks : List z.Mark). z.seen marks ++ rest) (append-nil (path i env))))
        (counted bound (omega arith)) refl (λ t done. done)
    again_at (suc left) i env o s rest at fine inv =
        let tail = iterations_path (suc left) (i + 1) iteration path (iteration i env) in
        let more = z.seen tail ++ rest in
        ends_as
        (ends_on
        (then_ends ((round_at (suc left) i).runs env s more at (z.fine_left (path i env) tail fine)
        (enters (suc left) i env o s inv))
        (λ t there done.
        then_ends
        (taken_ends Bne r q _ branch_at fields from_branch more t there p target (omega (arith, from_branch.0))
        (ap not (ne_eqb _ _ (goes left i env o s t inv done))))
        (λ w there still. again_at left (i + 1) (iteration i env) o w rest there (z.fine_right (path i env) tail fine)
        (iterated left i env o s t w inv done still))))
        (seen_then z (path i env) tail rest))
        (counted bound (omega arith)) refl (λ t done. done)

  -- one iteration more than so many, the first at this number
  pub repeating : (left i : ℕ)
      → Runs bound z ((left + 1) * (n + 1)) (λ env. iterations_path (suc left) i iteration path env)
      (again_code r q body)
      (λ env s. Inv left i env s s) (λ env s t. Over (iterations_after (suc left) i iteration env) s t)
  repeating left i = record {
    placed_at = λ p placed. record {
      leak = again_leak p placed left i;
      runs = λ env s rest at fine inv. again_at p placed left i env s s rest at fine inv;
    };
  }
