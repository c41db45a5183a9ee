use Rattle.std.proofs.Common.{rules, ℕ, List, refl, sym, ap, ◌∙◌}
use Rattle.branch_removal.specs.Uses.{used, used_in, used_by, used_by_all}
use Rattle.branch_removal.specs.Straight.{StraightTree, straight_block}
use Rattle.branch_removal.specs.Below.{term_tree}
use Rattle.branch_removal.proofs.StatementTrees.{tree_of_branch, tree_of_loop, accepted_smaller, otherwise_smaller}
use Rattle.branch_removal.proofs.StatementTrees.{body_smaller, item_here, smaller_here}
use Rattle.branch_removal.proofs.uses.+counts.Goals as goal

pub count_by-count_by_all-requires : goal.count_by-count_by_all-requires
count_by-count_by_all-requires t c =
    search (
      rules,
      accepted_smaller c.in-Branch.accepted c.in-Branch.otherwise c.in-Branch.is
          c.deref-in-Branch.ensures.value refl,
    )

pub count_by-count_by_all-requires-in-Branch : goal.count_by-count_by_all-requires-in-Branch
count_by-count_by_all-requires-in-Branch t c =
    search (
      rules,
      otherwise_smaller c.in-Branch.accepted c.in-Branch.otherwise c.in-Branch.is refl
          c.deref-in-Branch-2.ensures.value,
    )

pub count_by-count_by_all-requires-in-Repeat : goal.count_by-count_by_all-requires-in-Repeat
count_by-count_by_all-requires-in-Repeat t c =
    search (rules, body_smaller c.in-Repeat.body c.in-Repeat.is c.deref-in-Repeat.ensures.value)

pub count_by-returns-in-Branch : goal.count_by-returns-in-Branch
count_by-returns-in-Branch t c =
    let w = c.args.weight in
    let one = straight_block c.deref-in-Branch.result.now in
    let other = straight_block c.deref-in-Branch-2.result.now in
    let tree = tree_of_branch c.in-Branch.accepted c.in-Branch.otherwise c.in-Branch.is
    c.deref-in-Branch.ensures.value c.deref-in-Branch-2.ensures.value in
    c.count_by_all-in-Branch.ensures
    ∙ (ap (λ (weights : List ℕ). used_by_all w other weights) (c.count_by_all.ensures
    ∙ ap (λ (weights : List ℕ). used_by_all w one weights) c.count_in-in-Branch.ensures)
    ∙ sym (ap (λ (s : StraightTree). used_by w s c.args.weights.now) tree))

pub count_by-returns-in-Repeat : goal.count_by-returns-in-Repeat
count_by-returns-in-Repeat t c =
    let w = c.args.weight in
    let x = c.in-Repeat.counter in
    let inside = c.weight_inside-inside.result in
    let low = term_tree c.in-Repeat.low in
    let high = term_tree c.in-Repeat.high in
    let body = straight_block c.deref-in-Repeat.result.now in
    let before = c.count_in-in-Repeat-2.ensures
    ∙ ap (λ (weights : List ℕ). used_in w high weights) c.count_in-in-Repeat.ensures in
    c.count_by_all-in-Repeat.ensures
    ∙ (ap (λ (weights : List ℕ). used_by_all inside body weights) (c.count_use-in-Repeat.ensures
    ∙ ap (λ (weights : List ℕ). used inside x weights) before)
    ∙ (ap (λ (v : ℕ). used_by_all v body (used v x (used_in w high (used_in w low c.args.weights.now))))
    c.weight_inside-inside.ensures
    ∙ sym (ap (λ (s : StraightTree). used_by w s c.args.weights.now)
    (tree_of_loop c.in-Repeat.body c.in-Repeat.is c.deref-in-Repeat.ensures.value))))

pub count_by_all-count_by-requires : goal.count_by_all-count_by-requires
count_by_all-count_by-requires t c =
    let s = c.statement-item.result in
    let l = c.loop-statement in
    let here = item_here c.args.statements.now l.statement-index s c.loop-statement-test.true c.statement-item.is in
    search (rules, smaller_here c.args.statements.now l.statement-index s here)
