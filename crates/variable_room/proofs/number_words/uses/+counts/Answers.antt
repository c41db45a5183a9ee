use Rattle.std.proofs.Common.{rules, ◌≡◌, ℕ, List, refl, sym, ap, subst, ◌∙◌}
use Rattle.std.specs.Prelude.{OnOk}
use Rattle.std.proofs.lemmas.List.{at_drop_all}
use Rattle.branch_removal.proofs.StatementTrees.{tree_of_branch, tree_of_loop, accepted_smaller, otherwise_smaller}
use Rattle.branch_removal.proofs.StatementTrees.{body_smaller, item_here, smaller_here}
use Rattle.variable_room.specs.Below.{straight_block, StraightTree, term_tree}
use Rattle.variable_room.specs.declared.number_words.uses.NumberUse.{NumberUse}
use Rattle.variable_room.specs.number_words.private.Uses.{counted_by, counted_by_all, counted_in}
use Rattle.variable_room.proofs.number_words.uses.+counts.Goals as goal

pub count_by-count_by_all-requires : goal.count_by-count_by_all-requires
count_by-count_by_all-requires t c =
    search (
      rules,
      accepted_smaller c.in-Branch.accepted c.in-Branch.otherwise c.in-Branch.is
          c.deref-in-Branch.ensures.value refl,
    )

pub count_by-count_by_all-requires-in-Branch : goal.count_by-count_by_all-requires-in-Branch
count_by-count_by_all-requires-in-Branch t c =
    search (
      rules,
      otherwise_smaller c.in-Branch.accepted c.in-Branch.otherwise c.in-Branch.is refl
          c.deref-in-Branch-2.ensures.value,
    )

pub count_by-count_by_all-requires-in-Repeat : goal.count_by-count_by_all-requires-in-Repeat
count_by-count_by_all-requires-in-Repeat t c =
    search (rules, body_smaller c.in-Repeat.body c.in-Repeat.is c.deref-in-Repeat.ensures.value)

pub count_by-returns-in_ok-count_by_all-in-Branch : goal.count_by-returns-in_ok-count_by_all-in-Branch
count_by-returns-in_ok-count_by_all-in-Branch t c =
    let w = c.args.weight in
    let one = straight_block c.deref-in-Branch.result.now in
    let other = straight_block c.deref-in-Branch-2.result.now in
    let tree = tree_of_branch c.in-Branch.accepted c.in-Branch.otherwise c.in-Branch.is
    c.deref-in-Branch.ensures.value c.deref-in-Branch-2.ensures.value in
    subst (λ (uses : List NumberUse). OnOk c.count_by_all-in-Branch.result
    (c.count_by_all-in-Branch.new.uses.items ≡ uses))
    (ap (λ (uses : List NumberUse). counted_by_all w other uses) (c.in_ok-count_by_all-in-Branch.ensures
    ∙ ap (λ (uses : List NumberUse). counted_by_all w one uses) c.in_ok-count_in-in-Branch.ensures)
    ∙ sym (ap (λ (s : StraightTree). counted_by w s c.args.uses.now.items) tree)) c.count_by_all-in-Branch.ensures

pub count_by-returns-in_ok-count_in-in-Repeat-2 : goal.count_by-returns-in_ok-count_in-in-Repeat-2
count_by-returns-in_ok-count_in-in-Repeat-2 t c =
    let w = c.args.weight in
    let low = term_tree c.in-Repeat.low in
    let high = term_tree c.in-Repeat.high in
    let body = straight_block c.deref-in-Repeat.result.now in
    let tree = tree_of_loop c.in-Repeat.body c.in-Repeat.is c.deref-in-Repeat.ensures.value in
    subst (λ (uses : List NumberUse). OnOk c.count_by_all-in-Repeat.result
    (c.count_by_all-in-Repeat.new.uses.items ≡ uses))
    (ap (λ (uses : List NumberUse). counted_by_all c.weight_inside-inside.result body uses)
    (c.in_ok-count_in-in-Repeat-2.ensures
    ∙ ap (λ (uses : List NumberUse). counted_in w high uses) c.in_ok-count_in-in-Repeat.ensures)
    ∙ (ap (λ (v : ℕ). counted_by_all v body (counted_in w high (counted_in w low c.args.uses.now.items)))
    c.weight_inside-inside.ensures
    ∙ sym (ap (λ (s : StraightTree). counted_by w s c.args.uses.now.items) tree))) c.count_by_all-in-Repeat.ensures

pub count_by_all-count_by-requires : goal.count_by_all-count_by-requires
count_by_all-count_by-requires t c =
    let s = c.statement-item.result in
    let l = c.loop-statement in
    let here = item_here c.args.statements.now l.statement-index s c.loop-statement-test.true c.statement-item.is in
    search (rules, smaller_here c.args.statements.now l.statement-index s here)

pub count_by_all-loop-statement-preserved : goal.count_by_all-loop-statement-preserved
count_by_all-loop-statement-preserved t c =
    let l = c.loop-statement in
    let here = item_here c.args.statements.now l.statement-index c.statement-item.result c.loop-statement-test.true
    c.statement-item.is in
    rw (c.in_ok-count_by.ensures, ← l.invariant, here) refl

pub count_by_all-returns : goal.count_by_all-returns
count_by_all-returns t c =
    let l = c.loop-statement in
    let none = at_drop_all (λ xs. straight_block xs) c.args.statements.now l.statement-index
    c.loop-statement-test.false in
    rw (← l.invariant, none) refl
