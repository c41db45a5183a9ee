use Rattle.std.proofs.Common.{rules, refl}
use Rattle.std.proofs.lemmas.List.{at_drop_all}
use Rattle.optimisation.specs.Below.{straight_block}
use Rattle.branch_removal.proofs.StatementTrees.{tree_of_branch, tree_of_loop, accepted_smaller, otherwise_smaller}
use Rattle.branch_removal.proofs.StatementTrees.{body_smaller, item_here, smaller_here}
use Rattle.optimisation.proofs.high_products.finding.+finding.Goals as goal

pub makes_in-one_makes_in-one-requires : goal.makes_in-one_makes_in-one-requires
makes_in-one_makes_in-one-requires t c =
    search (
      rules,
      accepted_smaller c.in-Branch.accepted c.in-Branch.otherwise c.in-Branch.is
          c.deref-in-Branch.ensures.value refl,
    )

pub makes_in-one_makes_in-other-requires : goal.makes_in-one_makes_in-other-requires
makes_in-one_makes_in-other-requires t c =
    search (
      rules,
      otherwise_smaller c.in-Branch.accepted c.in-Branch.otherwise c.in-Branch.is refl
          c.deref-in-Branch-2.ensures.value,
    )

pub makes_in-one_makes_in-each-requires : goal.makes_in-one_makes_in-each-requires
makes_in-one_makes_in-each-requires t c =
    search (rules, body_smaller c.in-Repeat.body c.in-Repeat.is c.deref-in-Repeat.ensures.value)

pub makes_in-returns-in-Branch : goal.makes_in-returns-in-Branch
makes_in-returns-in-Branch t c =
    rw (
      tree_of_branch c.in-Branch.accepted c.in-Branch.otherwise c.in-Branch.is c.deref-in-Branch.ensures.value
          c.deref-in-Branch-2.ensures.value,
      c.any_of_three.ensures,
      c.makes-chosen.ensures,
      c.one_makes_in-one.ensures,
      c.one_makes_in-other.ensures,
    ) refl

pub makes_in-returns-in-Repeat : goal.makes_in-returns-in-Repeat
makes_in-returns-in-Repeat t c =
    rw (
      tree_of_loop c.in-Repeat.body c.in-Repeat.is c.deref-in-Repeat.ensures.value,
      c.any_of_three-in-Repeat.ensures,
      c.makes-from.ensures,
      c.makes-to.ensures,
      c.one_makes_in-each.ensures,
    ) refl

pub one_makes_in-makes_in-requires : goal.one_makes_in-makes_in-requires
one_makes_in-makes_in-requires t c =
    let s = c.statement-item.result in
    let l = c.loop-statement in
    let here = item_here c.args.statements.now l.statement-index s c.loop-statement-test.true c.statement-item.is in
    search (rules, smaller_here c.args.statements.now l.statement-index s here)

pub one_makes_in-loop-statement-preserved : goal.one_makes_in-loop-statement-preserved
one_makes_in-loop-statement-preserved t c =
    let l = c.loop-statement in
    let here = item_here c.args.statements.now l.statement-index c.statement-item.result c.loop-statement-test.true
    c.statement-item.is in
    rw (← l.invariant, here, ← c.makes_in.ensures, c.if-makes_in.false) refl

pub one_makes_in-returns : goal.one_makes_in-returns
one_makes_in-returns t c =
    let l = c.loop-statement in
    let none = at_drop_all (λ xs. straight_block xs) c.args.statements.now l.statement-index
    c.loop-statement-test.false in
    rw (← l.invariant, none) refl
