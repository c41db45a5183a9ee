-- The calls in a conditional and in a loop, by those in each of its parts, and in one statement more of a block.
use Rattle.std.proofs.Common.{refl}
use Rattle.std.proofs.lemmas.List.{append_assoc}
use Rattle.explanations.specs.Below.{block_tree, statement_tree}
use Rattle.explanations.specs.call_places.CallPlaces.{calls_in, calls_in_all}
use Rattle.explanations.proofs.BlockTrees.{conditional_is, loop_is}
use Rattle.explanations.proofs.call_places_lemmas.CallLemmas.{one_more}
use Rattle.explanations.proofs.call_places.+calls.Goals as goal

pub push_statement-returns-in_ok-push_calls-in-If : goal.push_statement-returns-in_ok-push_calls-in-If
push_statement-returns-in_ok-push_calls-in-If t c =
    simp (
      conditional_is c.in-If.accepted c.in-If.otherwise c.in-If.is,
      ← c.as_slice.ensures.value,
      ← c.as_slice-in-If.ensures.value,
      ← append_assoc,
      ← c.in_ok-push_calls-in-If.ensures,
    )
    c.push_calls-in-If.ensures

pub push_statement-returns-in-For : goal.push_statement-returns-in-For
push_statement-returns-in-For t c =
    simp (loop_is c.in-For.body c.in-For.is, ← c.as_slice-in-For.ensures.value) c.push_calls-in-For.ensures

pub push_calls-loop-statement-preserved : goal.push_calls-loop-statement-preserved
push_calls-loop-statement-preserved t c =
    let name = c.args.name.now in
    one_more (λ s. calls_in name (statement_tree s)) (λ block. calls_in_all name (block_tree block)) (λ s block. refl)
    c.args.block.now c.loop-statement.statement-index c.statement-item.result c.loop-statement.places.items _ _
    c.loop-statement-test.true c.statement-item.is c.in_ok-push_statement.ensures c.loop-statement.invariant
