-- The code of a branch on what is public.
use Rattle.std.proofs.Common.{◌≡◌, ◌≢◌, ℕ, ◌+◌, ◌*◌, ◌^◌, ◌<◌, ◌≤◌, ◌==◌, ◌&&◌, cond, List, ◌++◌}
use Rattle.std.proofs.Common.{length, sym, ap, subst, arith, ne_eqb}
use Rattle.std.proofs.lemmas.Bool.{and_parts, ltb-true}
use Rattle.codegen.proofs.ComparedRuns.{condition_runs, passes, test_is}
use Rattle.codegen.proofs.Language.{TermHasType, StraightBlock, StraightState, TermTree, WordType, after, after_all}
use Rattle.codegen.proofs.Language.{branch, path_along, path_at, term_nodes, types_of, value_in}
use Rattle.codegen.proofs.Logic.{base_of, branching_at, by_mark, condition_kind, gives, MarkKnown, Ready, Runs, seq}
use Rattle.codegen.proofs.Logic.{layout_of}
use Rattle.codegen.proofs.Logic.{Setting, setting, Still}
use Rattle.codegen.proofs.Machine.{branch_code, branching_code, condition_code, height_of, Instr, read_code}
use Rattle.codegen.proofs.Machine.{read_register, slots_to, test_of, unless_code}
use Rattle.codegen.proofs.PairRuns.{FirstRead, read_then}
use Rattle.codegen.proofs.Slots.{hidden_by, hidden_kept, hidden_then, read_source, ready_still, StateShown}
use Rattle.codegen.specs.private.Compared.{is_short_arm}
use Rattle.expression_code.proofs.program_logic_lemmas.Pieces.{by_test}
use Rattle.expression_code.proofs.program_logic_lemmas.Tests.{unless_at}
use Rattle.rv_machine.specs.Machine as machine

-- the test says whether the condition holds
record Decided (z : Setting) (condition : TermTree) (env : StraightState) (s : machine.State) : Type 0 where
  ready : Ready z env s
  decides : passes (test_of z.allocation condition) s.regs ≡ (value_in env.variables condition == 0)

module _ (z : Setting) (depth : ℕ) (condition : TermTree) (word : WordType) (accepted otherwise : StraightBlock)
    (m n : ℕ) {xs ys : List Instr}
    (has : TermHasType (types_of z.code.profile z.declared) condition word)
    (room : base_of z + 4 * slots_to z.allocation.count (height_of condition) ≤ z.size)
    (within : depth ≤ z.depths)
    (near : 2 * (length xs + length ys) + 8 < 2 ^ 19)
    (one : Runs z m (λ env. path_along env accepted) xs (Ready z) (StateShown z depth (λ env. after_all env accepted)))
    (two : Runs z n (λ env. path_along env otherwise) ys (Ready z)
    (StateShown z depth (λ env. after_all env otherwise))) where
  abbrev value : StraightState → ℕ
  value env = value_in env.variables condition

  abbrev Branches : List Instr → Type 0
  Branches code = Runs z (16 * term_nodes condition + (2 + m + n))
      (λ env. path_at env (branch condition accepted otherwise)) code (Ready z)
      (StateShown z depth (λ env. after env (branch condition accepted otherwise)))

  first_arm : (env : StraightState) (s t u v : machine.State) → value env ≢ 0 → Still s t
      → StateShown z depth (λ e. after_all e accepted) env t u → Still u v
      → StateShown z depth (λ e. after e (branch condition accepted otherwise)) env s v
  first_arm env s t u v some still done back = record {
    ready = subst (λ c. Ready z (cond c (after_all env otherwise) (after_all env accepted)) v)
        (sym (ne_eqb (value env) 0 some)) (ready_still z (after_all env accepted) u v done.ready back);
    hidden = hidden_then z depth s t v (hidden_by z depth s t still.bytes)
        (hidden_then z depth t u v done.hidden (hidden_by z depth u v back.bytes));
  }

  second_arm : (env : StraightState) (s t u : machine.State) → value env ≡ 0 → Still s t
      → StateShown z depth (λ e. after_all e otherwise) env t u
      → StateShown z depth (λ e. after e (branch condition accepted otherwise)) env s u
  second_arm env s t u none still done = record {
    ready = subst (λ c. Ready z (cond c (after_all env otherwise) (after_all env accepted)) u)
        (sym (ap (λ x. x == 0) none)) done.ready;
    hidden = hidden_then z depth s t u (hidden_by z depth s t still.bytes) done.hidden;
  }

  -- the condition in a register, and then one of both arms
  branch_runs : Branches (read_code (layout_of z) 5 0 condition
      ++ branch_code (read_register z.allocation 5 condition) xs ys)
  branch_runs =
      let source = read_source z condition 5 (omega arith) (omega arith) in
      read_then z depth within has room
      (by_mark (condition_kind z) {P = FirstRead z condition} value
      (λ v.
      branching_at {z = setting z} (read_register z.allocation 5 condition) (omega (arith, source.high))
      (λ e. omega (arith, source.low, e)) {P = MarkKnown (setting z) ℕ (λ w. Unit {0}) (FirstRead z condition) value v}
      {S = StateShown z depth (λ env. after env (branch condition accepted otherwise))} value near
      (λ env s known. known.given.there)
      (λ env s t some known still. ready_still z env s t known.given.ready still)
      (λ env s t u w some known still done back. first_arm env s t u w some still done back)
      (λ env s t none known still. ready_still z env s t known.given.ready still)
      (λ env s t u none known still done. second_arm env s t u none still done)
      one two v (λ env s known. known.is)))

  -- what is tested, and then one of both arms
  unless_runs : length xs < 1000
      → Branches (condition_code (layout_of z) condition
      ++ unless_code (test_of z.allocation condition) xs ys)
  unless_runs short =
      let test = test_of z.allocation condition in
      let is = test_is z condition in
      gives
      (λ env s t fine ready done. record {
        ready = done.second.ready;
        hidden = hidden_then z depth s done.middle t (hidden_kept z depth s done.middle within done.first.kept)
            done.second.hidden;
      })
      (seq
      (condition_runs z has room)
      (by_mark (condition_kind z) {P = Decided z condition} value
      (λ v.
      unless_at {z = setting z} test.test test.left test.right is.left is.right
      {P = MarkKnown (setting z) ℕ (λ w. Unit {0}) (Decided z condition) value v}
      {S = StateShown z depth (λ env. after env (branch condition accepted otherwise))} value (omega (arith, short))
      (omega (arith, near))
      (λ env s known. known.given.decides)
      (λ env s t some known still. ready_still z env s t known.given.ready still)
      (λ env s t u w some known still done back. first_arm env s t u w some still done back)
      (λ env s t none known still. ready_still z env s t known.given.ready still)
      (λ env s t u none known still done. second_arm env s t u none still done)
      one two v (λ env s known. known.is)))
      (λ env s t ready done. record { ready = done.ready; decides = done.decides }))

  pub branching_runs : Branches (branching_code (layout_of z) condition xs ys)
  branching_runs =
      by_test (z.allocation.immediates && is_short_arm xs)
      (λ is. unless_runs (ltb-true (length xs) 1000 (and_parts _ _ is).1)) (λ is. branch_runs)
