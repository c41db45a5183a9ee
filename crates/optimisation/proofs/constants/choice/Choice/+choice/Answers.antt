use Rattle.std.proofs.Common.{◌≡◌, ◌+◌, List, rules, refl, ap, ◌∙◌, sym, subst, arith}
use Rattle.branch_removal.specs.declared.straight.StraightStatement.{StraightStatement}
use Rattle.optimisation.specs.Below.{straight_block, term_tree}
use Rattle.optimisation.specs.constants.private.Choice.{term_size, choice_of, chosen_all, Chosen, is_worth}
use Rattle.optimisation.specs.iteration_groups.private.Choice.{is_groupable}
use Rattle.optimisation.proofs.constants_lemmas.ChoiceLemmas.{closed_by, grown_by}
use Rattle.branch_removal.proofs.StatementTrees.{tree_of_branch, tree_of_loop, accepted_smaller, otherwise_smaller}
use Rattle.branch_removal.proofs.StatementTrees.{body_smaller, item_here, smaller_here}
use Rattle.optimisation.proofs.constants.choice.Choice.+choice.Goals as goal

pub choose-choose_all-requires : goal.choose-choose_all-requires
choose-choose_all-requires t c =
    search (
      rules,
      accepted_smaller c.in-Branch.accepted c.in-Branch.otherwise c.in-Branch.is c.deref-in-Branch.ensures.value refl,
    )

pub choose-choose_all-requires-in-Branch : goal.choose-choose_all-requires-in-Branch
choose-choose_all-requires-in-Branch t c =
    search (
      rules,
      otherwise_smaller c.in-Branch.accepted c.in-Branch.otherwise c.in-Branch.is refl
          c.deref-in-Branch-2.ensures.value,
    )

pub choose-choose_all-requires-in-Repeat : goal.choose-choose_all-requires-in-Repeat
choose-choose_all-requires-in-Repeat t c =
    search (rules, body_smaller c.in-Repeat.body c.in-Repeat.is c.deref-in-Repeat.ensures.value)

pub choose-returns-in-Branch : goal.choose-returns-in-Branch
choose-returns-in-Branch t c =
    rw (
      c.choose_all-in-Branch.ensures,
      c.choose_all.ensures,
      c.grow-in-Branch.ensures,
      tree_of_branch c.in-Branch.accepted c.in-Branch.otherwise c.in-Branch.is c.deref-in-Branch.ensures.value
          c.deref-in-Branch-2.ensures.value,
      grown_by (choice_of c.args.self.now) c.saturating_add-in-Branch.result
          (1 + term_size (term_tree c.in-Branch.condition))
          (omega (arith, c.saturating_add-in-Branch.ensures, c.nodes_in-in-Branch.ensures)),
    ) refl

pub choose-returns-in-Repeat : goal.choose-returns-in-Repeat
choose-returns-in-Repeat t c =
    let same = c.deref-in-Repeat-2.ensures.value ∙ sym c.deref-in-Repeat.ensures.value in
    let alike = c.deref-in-Repeat-3.ensures.value ∙ sym c.deref-in-Repeat.ensures.value in
    let may = subst (λ (items : List StraightStatement). c.is_groupable-groupable.result
    ≡ is_groupable c.choose_all-in-Repeat.new.self.arrays.arrays.items c.in-Repeat.counter (straight_block items))
    same c.is_groupable-groupable.ensures in
    let saves = subst (λ (items : List StraightStatement). c.is_worth-worth.result
    ≡ is_worth c.args.self.now.counts.times c.in-Repeat.counter (straight_block items)
    (choice_of c.choose_all-in-Repeat.new.self)) alike c.is_worth-worth.ensures in
    rw (c.settle.ensures, tree_of_loop c.in-Repeat.body c.in-Repeat.is c.deref-in-Repeat.ensures.value)
    (closed_by c.args.self.now.counts c.in-Repeat.counter _
    (1 + term_size (term_tree c.in-Repeat.low) + term_size (term_tree c.in-Repeat.high))
    (straight_block c.deref-in-Repeat.result.now) _ _ _ _
    (omega (
      arith,
      c.saturating_add-in-Repeat.ensures,
      c.saturating_add-own.ensures,
      c.nodes_in-in-Repeat.ensures,
      c.nodes_in-in-Repeat-2.ensures,
    )) (c.choose_all-in-Repeat.ensures ∙ ap (λ (so_far : Chosen). chosen_all so_far
    (straight_block c.deref-in-Repeat.result.now)) c.open.ensures) may saves)

pub choose_all-choose-requires : goal.choose_all-choose-requires
choose_all-choose-requires t c =
    let s = c.statement-item.result in
    let i = c.loop-statement.statement-index in
    let here = item_here c.args.body.now i s c.loop-statement-test.true c.statement-item.is in
    search (rules, smaller_here c.args.body.now i s here)
