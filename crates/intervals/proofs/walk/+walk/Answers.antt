use Rattle.std.proofs.lemmas.List.Sums.{fold-append}
use Rattle.std.proofs.Common.{◌+◌, rules, drop, fold, ap₂, refl, ◌∙◌, ap, sym}
use Rattle.intervals.specs.Below.{first, flat_block, flat_tree, noted, term_tree}
use Rattle.intervals.specs.Intervals.{interval}
use Rattle.intervals.specs.Ranges.{bounds_after, bounds_after_all, counted_all}
use Rattle.intervals.specs.Ranges.{violations, violations_all, term_violations}
use Rattle.intervals.proofs.UndoingLemmas.{bounds_back, from_before}
use Rattle.intervals.proofs.WalkLemmas.{on_ok, branch_iterations, branch_seen, loop_iterations, loop_seen}
use Rattle.intervals.proofs.WalkLemmas.{next_statement}
use Rattle.intervals.proofs.walk.+walk.Goals as goal

pub accepted_arm-returns-clause-bounds : goal.accepted_arm-returns-clause-bounds
accepted_arm-returns-clause-bounds t c =
    c.rewind.ensures.bounds ∙ bounds_back c.args.walk.now.known c.learn_true.new.known c.statements.new.walk.known
    c.mark-outside.result c.mark-outside.ensures c.in_ok-learn_true.ensures.from c.in_ok-statements.ensures.from

pub otherwise_arm-returns-clause-bounds : goal.otherwise_arm-returns-clause-bounds
otherwise_arm-returns-clause-bounds t c =
    c.rewind.ensures.bounds ∙ bounds_back c.args.walk.now.known c.learn_false.new.known c.statements.new.walk.known
    c.mark-outside.result c.mark-outside.ensures c.in_ok-learn_false.ensures.from
    c.in_ok-statements.ensures.from

pub iterations-returns-clause-bounds : goal.iterations-returns-clause-bounds
iterations-returns-clause-bounds t c =
    c.rewind.ensures.bounds ∙ bounds_back c.args.walk.now.known c.set.new.self c.statements.new.walk.known
    c.mark-outside.result c.mark-outside.ensures c.in_ok-set.ensures.from c.in_ok-statements.ensures.from

pub statement-returns-in_ok-accepted_arm-in-Branch-clause-iterations :
    goal.statement-returns-in_ok-accepted_arm-in-Branch-clause-iterations
statement-returns-in_ok-accepted_arm-in-Branch-clause-iterations t c =
    on_ok c.otherwise_arm.result (λ last. branch_iterations c.args.declared.now c.args.walk.now.known.bounds.items
    c.args.statement.now c.in-Branch.label c.in-Branch.condition c.in-Branch.accepted c.in-Branch.otherwise
    c.in-Branch.is
    c.as_slice-in-Branch.result.now c.as_slice-in-Branch-2.result.now c.as_slice-in-Branch.ensures.value
    c.as_slice-in-Branch-2.ensures.value c.accepted_arm.new.walk.known.bounds.items
    c.in_ok-accepted_arm-in-Branch.ensures.bounds
    c.args.walk.now.iterations.items c.accepted_arm.new.walk.iterations.items c.otherwise_arm.new.walk.iterations.items
    c.in_ok-accepted_arm-in-Branch.ensures.iterations last) c.otherwise_arm.ensures.iterations

pub statement-returns-in_ok-accepted_arm-in-Branch-clause-findings :
    goal.statement-returns-in_ok-accepted_arm-in-Branch-clause-findings
statement-returns-in_ok-accepted_arm-in-Branch-clause-findings t c =
    on_ok c.otherwise_arm.result (λ last. branch_seen c.args.declared.now c.args.walk.now.known.bounds.items
    c.args.statement.now c.in-Branch.label c.in-Branch.condition c.in-Branch.accepted c.in-Branch.otherwise
    c.in-Branch.is
    c.as_slice-in-Branch.result.now c.as_slice-in-Branch-2.result.now c.as_slice-in-Branch.ensures.value
    c.as_slice-in-Branch-2.ensures.value c.accepted_arm.new.walk.known.bounds.items
    c.in_ok-accepted_arm-in-Branch.ensures.bounds
    c.args.walk.now.findings c.note_term-in-Branch.new.findings c.accepted_arm.new.walk.findings
    c.otherwise_arm.new.walk.findings
    (c.note_term-in-Branch.ensures.findings
    ∙ ap (λ bounds. fold noted c.args.walk.now.findings
    (term_violations c.args.declared.now bounds (term_tree c.in-Branch.condition)))
    c.as_slice-bounds.ensures.value) c.in_ok-accepted_arm-in-Branch.ensures.findings last)
    c.otherwise_arm.ensures.findings

pub statement-returns-in-Loop-clause-iterations : goal.statement-returns-in-Loop-clause-iterations
statement-returns-in-Loop-clause-iterations t c =
    on_ok c.iterations.result (λ last. loop_iterations c.args.declared.now c.args.walk.now.known.bounds.items
    c.args.statement.now c.in-Loop.counter c.in-Loop.low c.in-Loop.high c.in-Loop.body c.in-Loop.is
    c.as_slice-in-Loop.result.now c.as_slice-in-Loop.ensures.value c.note_term-low.result c.note_term-high.result
    c.counter_interval-numbers.result
    (c.note_term-low.ensures.interval
    ∙ ap (λ bounds. interval c.args.declared.now bounds (term_tree c.in-Loop.low))
    c.as_slice-bounds.ensures.value)
    (c.note_term-high.ensures.interval
    ∙ ap (λ bounds. interval c.args.declared.now bounds (term_tree c.in-Loop.high))
    c.as_slice-bounds.ensures.value)
    c.counter_interval-numbers.ensures
    c.args.walk.now.iterations.items c.count.new.iterations.items c.iterations.new.walk.iterations.items
    c.most_iterations.result
    c.most_iterations.ensures c.count.ensures last) c.iterations.ensures.iterations

pub statement-returns-in-Loop-clause-findings : goal.statement-returns-in-Loop-clause-findings
statement-returns-in-Loop-clause-findings t c =
    on_ok c.iterations.result (λ last. loop_seen c.args.declared.now c.args.walk.now.known.bounds.items
    c.args.statement.now c.in-Loop.counter c.in-Loop.low c.in-Loop.high c.in-Loop.body c.in-Loop.is
    c.as_slice-in-Loop.result.now c.as_slice-in-Loop.ensures.value c.note_term-low.result c.note_term-high.result
    c.counter_interval-numbers.result
    (c.note_term-low.ensures.interval
    ∙ ap (λ bounds. interval c.args.declared.now bounds (term_tree c.in-Loop.low))
    c.as_slice-bounds.ensures.value)
    (c.note_term-high.ensures.interval
    ∙ ap (λ bounds. interval c.args.declared.now bounds (term_tree c.in-Loop.high))
    c.as_slice-bounds.ensures.value)
    c.counter_interval-numbers.ensures
    c.args.walk.now.findings c.note_term-low.new.findings c.note_term-high.new.findings
    c.iterations.new.walk.findings
    (c.note_term-low.ensures.findings
    ∙ ap (λ bounds. fold noted c.args.walk.now.findings
    (term_violations c.args.declared.now bounds (term_tree c.in-Loop.low))) c.as_slice-bounds.ensures.value)
    (c.note_term-high.ensures.findings
    ∙ ap (λ bounds. fold noted c.note_term-low.new.findings
    (term_violations c.args.declared.now bounds (term_tree c.in-Loop.high))) c.as_slice-bounds.ensures.value)
    last) c.iterations.ensures.findings

pub statements-loop-one-preserved : goal.statements-loop-one-preserved
statements-loop-one-preserved t c =
    let declared = c.args.declared.now in
    let bounds = c.loop-one.walk.known.bounds.items in
    let one = flat_tree c.one-item.result in
    let rest = flat_block (drop (c.loop-one.one-index + 1) c.args.body.now) in
    let next = next_statement c.args.body.now c.loop-one.one-index c.one-item.result (search rules)
    ∙ ap (λ s. first (flat_tree s) rest) (sym c.one-item.is) in
    let done = c.in_ok-statement.ensures in
    record {
      bounds = ap (λ b. bounds_after_all declared b rest) done.bounds
          ∙ (sym (ap (bounds_after_all declared bounds) next) ∙ c.loop-one.invariant.bounds);
      from = from_before c.args.walk.now.known c.loop-one.walk.known c.statement.new.walk.known
          c.loop-one.invariant.from done.from;
      iterations = ap₂ (λ b t. counted_all declared b t rest) done.bounds done.iterations
          ∙ (sym (ap (counted_all declared bounds c.loop-one.walk.iterations.items) next)
          ∙ c.loop-one.invariant.iterations);
      findings = ap₂ (λ b f. fold noted f (violations_all declared b rest)) done.bounds done.findings
          ∙ (sym (fold-append noted c.loop-one.walk.findings (violations declared bounds one)
          (violations_all declared (bounds_after declared bounds one) rest))
          ∙ (sym (ap (λ b. fold noted c.loop-one.walk.findings (violations_all declared bounds b)) next)
          ∙ c.loop-one.invariant.findings));
      declared = refl;
    }
