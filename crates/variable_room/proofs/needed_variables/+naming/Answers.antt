use Rattle.std.proofs.Common.{rules, refl, sym, ap, ◌∙◌}
use Rattle.branch_removal.proofs.StatementTrees.{tree_of_branch, tree_of_loop, accepted_smaller, otherwise_smaller}
use Rattle.branch_removal.proofs.StatementTrees.{body_smaller, item_here, smaller_here}
use Rattle.variable_room.specs.Below.{straight_block, StraightTree, term_tree}
use Rattle.variable_room.specs.needed_variables.private.Named.{Named, named_by, named_by_all, named_in}
use Rattle.variable_room.proofs.needed_variables.+naming.Goals as goal

pub note_by-note_by_all-requires : goal.note_by-note_by_all-requires
note_by-note_by_all-requires t c =
    search (
      rules,
      accepted_smaller c.in-Branch.accepted c.in-Branch.otherwise c.in-Branch.is
          c.deref-in-Branch.ensures.value refl,
    )

pub note_by-note_by_all-requires-in-Branch : goal.note_by-note_by_all-requires-in-Branch
note_by-note_by_all-requires-in-Branch t c =
    search (
      rules,
      otherwise_smaller c.in-Branch.accepted c.in-Branch.otherwise c.in-Branch.is refl
          c.deref-in-Branch-2.ensures.value,
    )

pub note_by-note_by_all-requires-in-Repeat : goal.note_by-note_by_all-requires-in-Repeat
note_by-note_by_all-requires-in-Repeat t c =
    search (rules, body_smaller c.in-Repeat.body c.in-Repeat.is c.deref-in-Repeat.ensures.value)

pub note_by-returns-in-Branch : goal.note_by-returns-in-Branch
note_by-returns-in-Branch t c =
    let one = straight_block c.deref-in-Branch.result.now in
    let other = straight_block c.deref-in-Branch-2.result.now in
    let tree = tree_of_branch c.in-Branch.accepted c.in-Branch.otherwise c.in-Branch.is
    c.deref-in-Branch.ensures.value c.deref-in-Branch-2.ensures.value in
    c.note_by_all-in-Branch.ensures
    ∙ (ap (λ (named : Named). named_by_all other named) (c.note_by_all.ensures
    ∙ ap (λ (named : Named). named_by_all one named) c.note_in-in-Branch.ensures)
    ∙ sym (ap (λ (s : StraightTree). named_by s c.args.named.now) tree))

pub note_by-returns-in-Repeat : goal.note_by-returns-in-Repeat
note_by-returns-in-Repeat t c =
    let low = term_tree c.in-Repeat.low in
    let high = term_tree c.in-Repeat.high in
    let body = straight_block c.deref-in-Repeat.result.now in
    let before = c.note_in-in-Repeat-2.ensures
    ∙ ap (λ (named : Named). named_in high named) (c.note_in-in-Repeat.ensures
    ∙ ap (λ (named : Named). named_in low named) c.note-in-Repeat.ensures) in
    c.note_by_all-in-Repeat.ensures
    ∙ (ap (λ (named : Named). named_by_all body named) before
    ∙ sym (ap (λ (s : StraightTree). named_by s c.args.named.now)
    (tree_of_loop c.in-Repeat.body c.in-Repeat.is c.deref-in-Repeat.ensures.value)))

pub note_by_all-note_by-requires : goal.note_by_all-note_by-requires
note_by_all-note_by-requires t c =
    let s = c.statement-item.result in
    let l = c.loop-statement in
    let here = item_here c.args.statements.now l.statement-index s c.loop-statement-test.true c.statement-item.is in
    search (rules, smaller_here c.args.statements.now l.statement-index s here)
