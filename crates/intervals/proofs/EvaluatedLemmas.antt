-- A run without a fault that makes no more iterations than are counted evaluates no more nodes than its work.
use Rattle.std.proofs.Common.{ℕ, zero, suc, ◌+◌, ◌-◌, ◌*◌, ◌≤◌, ◌==◌, Bool, true, false, if◌then◌else◌, List, [], ◌∷◌}
use Rattle.std.proofs.Common.{◌++◌, arith}
use Rattle.std.proofs.Math.Nat.{mul-le-mul_right}
use Rattle.intervals.specs.Below.{after, after_all, AreFine, AreWithin, Arg, bounded, branch, end_of, first, FlatBlock}
use Rattle.intervals.specs.Below.{FlatProgram, FlatTree, given, loop, nothing, Path, path_along, path_at, path_in}
use Rattle.intervals.specs.Below.{path_of, path_of_result, path_of_iterations, value_in, value_nodes, Values}
use Rattle.intervals.specs.Below.{with_value}
use Rattle.intervals.specs.Evaluated.{evaluated, evaluated_all, evaluated_in_iterations, evaluated_by}
use Rattle.intervals.specs.Loose.{IsSafe}
use Rattle.intervals.specs.Work.{tree_work, body_work}
use Rattle.intervals.proofs.Below.{fine_back, fine_front}
use Rattle.intervals.proofs.StrictRuns.{strict_is_loose}

module _ (most : List ℕ) where
  -- iterations, each of which is within so many nodes where its path is fine
  iterations_within : {S : Type 0} (iteration : ℕ → S → S) (path : ℕ → S → Path) (count : ℕ → S → ℕ) (share : ℕ)
      → ((i : ℕ) (s : S) → AreFine most (path i s) → count i s ≤ share)
      → (n i : ℕ) (s : S) → AreFine most (path_of_iterations n i iteration path s)
      → evaluated_in_iterations n i iteration count s ≤ n * (1 + share)
  iterations_within iteration path count share each zero i s fine = omega arith
  iterations_within iteration path count share each (suc n) i s fine =
      let rest = path_of_iterations n (i + 1) iteration path (iteration i s) in
      let one = each i s (fine_front most (path i s) rest fine) in
      let more = iterations_within iteration path count share each n (i + 1) (iteration i s)
      (fine_back most (path i s) rest fine) in
      omega (arith, one, more)

  -- one of two arms is within both
  arm_within : (b : Bool) (one other : ℕ) (p q : Path) (a c : ℕ) → (AreFine most p → one ≤ a)
      → (AreFine most q → other ≤ c)
      → AreFine most (if b then q else p) → (if b then other else one) ≤ a + c
  arm_within true one other p q a c accepted otherwise fine = omega (arith, otherwise fine)
  arm_within false one other p q a c accepted otherwise fine = omega (arith, accepted fine)

  mutual
    within_work : (s : FlatTree) (m : Values) → AreFine most (path_at m s) → evaluated m s ≤ tree_work most s
    within_work (branch label condition accepted otherwise) m fine =
        let arm = if value_in m condition == 0 then path_along m otherwise else path_along m accepted in
        let one = arm_within (value_in m condition == 0) (evaluated_all m accepted) (evaluated_all m otherwise)
        (path_along m accepted) (path_along m otherwise)
        (body_work most accepted) (body_work most otherwise) (within_work_all accepted m)
        (within_work_all otherwise m) (fine_back most (path_in m condition) arm fine) in
        omega (arith, one)
    within_work (loop x low high body) m fine =
        let a = value_in m low in
        let b = value_in m high in
        let iteration : ℕ → Values → Values = λ i t. after_all (with_value t x (i ∷ [])) body in
        let path : ℕ → Values → Path = λ i t. path_along (with_value t x (i ∷ [])) body in
        let count : ℕ → Values → ℕ = λ i t. evaluated_all (with_value t x (i ∷ [])) body in
        let share = body_work most body in
        let run = path_of_iterations (b - a) a iteration path m in
        let behind = fine_back most (path_in m low ++ path_in m high) (bounded x a b ∷ run) fine in
        let some = iterations_within iteration path count share
        (λ i t h. within_work_all body (with_value t x (i ∷ [])) h)
        (b - a) a m behind.1 in
        let few = mul-le-mul_right (1 + share) behind.0 in
        omega (arith, some, few)
    within_work other m fine = omega arith

    pub within_work_all : (b : FlatBlock) (m : Values) → AreFine most (path_along m b)
        → evaluated_all m b ≤ body_work most b
    within_work_all nothing m fine = omega arith
    within_work_all (first s rest) m fine =
        let one = within_work s m (fine_front most (path_at m s) (path_along (after m s) rest) fine) in
        let more = within_work_all rest (after m s) (fine_back most (path_at m s) (path_along (after m s) rest) fine) in
        omega (arith, one, more)

-- so of a safe program on arguments within its parameter types
pub safe_runs_are_within_work : (p : FlatProgram) (iterations : List ℕ) (args : List Arg) → IsSafe p iterations
    → AreWithin p.parameters args
    → evaluated_by p args ≤ body_work iterations p.body + value_nodes p.value
safe_runs_are_within_work p iterations args safe within =
    let m = given p.declared args in
    let back = path_of_result (end_of p args) p.value in
    let body =
    within_work_all iterations p.body m
    (fine_front iterations (path_along m p.body) back
    (safe args (path_of p args) within (strict_is_loose p args))) in
    omega (arith, body)
