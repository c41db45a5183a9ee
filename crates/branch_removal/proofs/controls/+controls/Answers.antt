use Rattle.std.proofs.Common.{refl, rules, arith, sym, ◌∙◌}
use Rattle.inline.specs.declared.flat.FlatStatement.{the_lemmas}
use Rattle.branch_removal.proofs.Statements.{controls_of_branch, accepted_fewer, otherwise_fewer, controls_of_loop}
use Rattle.branch_removal.proofs.controls.+controls.Goals as goal

pub controls_in-overflow_add-result : goal.controls_in-overflow_add-result
controls_in-overflow_add-result t c =
    let all = controls_of_branch c.args.statement.now c.in-Branch.label c.in-Branch.field-1 c.in-Branch.accepted
    c.in-Branch.otherwise c.in-Branch.is c.deref.result.now c.deref-in-Branch.result.now c.deref.ensures.value
    c.deref-in-Branch.ensures.value in
    rw (c.own_controls.ensures, c.max.ensures, c.controls_in_all.ensures, c.controls_in_all-in-Branch.ensures) omega
    (arith, all, c.requires.numbered)

pub controls_in-returns-in-Branch : goal.controls_in-returns-in-Branch
controls_in-returns-in-Branch t c =
    let all = controls_of_branch c.args.statement.now c.in-Branch.label c.in-Branch.field-1 c.in-Branch.accepted
    c.in-Branch.otherwise c.in-Branch.is c.deref.result.now c.deref-in-Branch.result.now c.deref.ensures.value
    c.deref-in-Branch.ensures.value in
    rw (
      c.own_controls.ensures,
      c.max.ensures,
      c.controls_in_all.ensures,
      c.controls_in_all-in-Branch.ensures,
      all,
    ) refl

pub controls_in-controls_in_all-requires : goal.controls_in-controls_in_all-requires
controls_in-controls_in_all-requires t c =
    let few = accepted_fewer c.args.statement.now c.in-Branch.label c.in-Branch.field-1 c.in-Branch.accepted
    c.in-Branch.otherwise c.in-Branch.is c.deref.result.now c.deref.ensures.value in
    (search (rules, the_lemmas), omega (arith, few, c.requires.numbered))

pub controls_in-controls_in_all-requires-in-Branch :
    goal.controls_in-controls_in_all-requires-in-Branch
controls_in-controls_in_all-requires-in-Branch t c =
    let few = otherwise_fewer c.args.statement.now c.in-Branch.label c.in-Branch.field-1 c.in-Branch.accepted
    c.in-Branch.otherwise c.in-Branch.is c.deref-in-Branch.result.now c.deref-in-Branch.ensures.value in
    (search (rules, the_lemmas), omega (arith, few, c.requires.numbered))

pub controls_in-controls_in_all-requires-in-Loop :
    goal.controls_in-controls_in_all-requires-in-Loop
controls_in-controls_in_all-requires-in-Loop t c =
    let all = controls_of_loop c.args.statement.now c.in-Loop.field-0 c.in-Loop.field-1 c.in-Loop.field-2
    c.in-Loop.body c.in-Loop.is c.deref-in-Loop.result.now c.deref-in-Loop.ensures.value in
    (search (rules, the_lemmas), omega (arith, all, c.requires.numbered))

pub controls_in-returns-in-Loop : goal.controls_in-returns-in-Loop
controls_in-returns-in-Loop t c =
    let all = controls_of_loop c.args.statement.now c.in-Loop.field-0 c.in-Loop.field-1 c.in-Loop.field-2
    c.in-Loop.body c.in-Loop.is c.deref-in-Loop.result.now c.deref-in-Loop.ensures.value in
    c.controls_in_all-in-Loop.ensures ∙ sym all
