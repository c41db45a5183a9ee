use Rattle.std.proofs.Common.{◌≡◌, ◌+◌, ◌-◌, suc, rules, refl, arith}
use Rattle.std.proofs.lemmas.List.{at_drop_all}
use Rattle.optimisation.specs.Below.{straight_block}
use Rattle.branch_removal.proofs.StatementTrees.{arms_smaller, body_smaller, chain-assoc, chain-nothing, item_here}
use Rattle.branch_removal.proofs.StatementTrees.{smaller_here, tree_of_branch, tree_of_loop}
use Rattle.optimisation.proofs.constants.statements.+simplification.Goals as goal

pub statement-branch-pass-requires : goal.statement-branch-pass-requires
statement-branch-pass-requires t c =
    search (
      rules,
      arms_smaller c.in-Branch.accepted c.in-Branch.otherwise c.in-Branch.is c.deref-in-Branch.ensures.value
          c.deref-in-Branch-2.ensures.value,
    )

pub statement-repeat-requires : goal.statement-repeat-requires
statement-repeat-requires t c =
    search (rules, body_smaller c.in-Repeat.body c.in-Repeat.is c.deref-in-Repeat.ensures.value)

pub statement-returns-in-Branch-clause-code : goal.statement-returns-in-Branch-clause-code
statement-returns-in-Branch-clause-code t c =
    rw (tree_of_branch c.in-Branch.accepted c.in-Branch.otherwise c.in-Branch.is c.deref-in-Branch.ensures.value
    c.deref-in-Branch-2.ensures.value)
    c.branch-pass.ensures.code

pub statement-returns-in-Branch-clause-known : goal.statement-returns-in-Branch-clause-known
statement-returns-in-Branch-clause-known t c =
    rw (tree_of_branch c.in-Branch.accepted c.in-Branch.otherwise c.in-Branch.is c.deref-in-Branch.ensures.value
    c.deref-in-Branch-2.ensures.value)
    c.branch-pass.ensures.known

pub statement-returns-in-Repeat-clause-code : goal.statement-returns-in-Repeat-clause-code
statement-returns-in-Repeat-clause-code t c =
    rw (tree_of_loop c.in-Repeat.body c.in-Repeat.is c.deref-in-Repeat.ensures.value) c.repeat.ensures.code

pub statement-returns-in-Repeat-clause-known : goal.statement-returns-in-Repeat-clause-known
statement-returns-in-Repeat-clause-known t c =
    rw (tree_of_loop c.in-Repeat.body c.in-Repeat.is c.deref-in-Repeat.ensures.value) c.repeat.ensures.known

pub statements-statement-requires : goal.statements-statement-requires
statements-statement-requires t c =
    let s = c.each-item.result in
    let i = c.loop-each.each-index in
    let here = item_here c.args.body.now i s c.loop-each-test.true c.each-item.is in
    search (rules, smaller_here c.args.body.now i s here)

pub statements-loop-each-preserved : goal.statements-loop-each-preserved
statements-loop-each-preserved t c =
    let l = c.loop-each in
    let here = item_here c.args.body.now l.each-index c.each-item.result c.loop-each-test.true c.each-item.is in
    record {
      code = rw (
        c.in_ok-statement.ensures.code,
        c.in_ok-statement.ensures.known,
        chain-assoc,
        ← l.invariant.code,
        here,
      ) refl;
      known = rw (c.in_ok-statement.ensures.known, ← l.invariant.known, here) refl;
    }

pub statements-returns-clause-code : goal.statements-returns-clause-code
statements-returns-clause-code t c =
    let l = c.loop-each in
    let none = at_drop_all (λ xs. straight_block xs) c.args.body.now l.each-index c.loop-each-test.false in
    rw (← l.invariant.code, none, chain-nothing) refl

pub iterations-loop-value-init : goal.iterations-loop-value-init
iterations-loop-value-init t c = record { code = refl; known = refl }

pub iterations-loop-value-preserved : goal.iterations-loop-value-preserved
iterations-loop-value-preserved t c =
    let l = c.loop-value in
    let more : c.args.numbers.high - l.value ≡ suc (c.args.numbers.high - (l.value + 1)) =
    omega (arith, c.loop-value-test.true) in
    record {
      code = rw (
        c.in_ok-statements.ensures.known,
        c.in_ok-statements.ensures.code,
        c.in_ok-push.ensures,
        c.number_of.ensures,
        c.note.ensures,
        ← l.invariant.code,
        more,
      ) (simp chain-assoc);
      known = rw (c.in_ok-statements.ensures.known, c.note.ensures, ← l.invariant.known, more) refl;
    }

pub iterations-returns-clause-code : goal.iterations-returns-clause-code
iterations-returns-clause-code t c =
    let none : c.args.numbers.high - c.loop-value.value ≡ 0 = omega (arith, c.loop-value-test.false) in
    rw (← c.loop-value.invariant.code, none, chain-nothing) refl

pub iterations-returns-clause-known : goal.iterations-returns-clause-known
iterations-returns-clause-known t c =
    let none : c.args.numbers.high - c.loop-value.value ≡ 0 = omega (arith, c.loop-value-test.false) in
    rw (← c.loop-value.invariant.known, none) refl

pub branch-returns-in-Some-true-clause-code : goal.branch-returns-in-Some-true-clause-code
branch-returns-in-Some-true-clause-code t c =
    rw (← c.in_ok-condition.ensures, ← c.in-Some-true.ensures, c.in-Some-true.field-0-test)
    c.statements.ensures.code

pub branch-returns-in-Some-true-clause-known : goal.branch-returns-in-Some-true-clause-known
branch-returns-in-Some-true-clause-known t c =
    rw (← c.in_ok-condition.ensures, ← c.in-Some-true.ensures, c.in-Some-true.field-0-test)
    c.statements.ensures.known

pub branch-returns-in-Some-false-clause-code : goal.branch-returns-in-Some-false-clause-code
branch-returns-in-Some-false-clause-code t c =
    rw (← c.in_ok-condition.ensures, ← c.in-Some-false.ensures, c.in-Some-false.field-0-test)
    c.statements-in-Some-false.ensures.code

pub branch-returns-in-Some-false-clause-known : goal.branch-returns-in-Some-false-clause-known
branch-returns-in-Some-false-clause-known t c =
    rw (← c.in_ok-condition.ensures, ← c.in-Some-false.ensures, c.in-Some-false.field-0-test)
    c.statements-in-Some-false.ensures.known

pub repeat-returns-in-Some-clause-code : goal.repeat-returns-in-Some-clause-code
repeat-returns-in-Some-clause-code t c =
    rw (← c.in_ok-low.ensures, ← c.in_ok-high.ensures, ← c.unroll_limit_of-most.ensures, ← c.in-Some.ensures)
    c.iterations.ensures.code

pub repeat-returns-in-Some-clause-known : goal.repeat-returns-in-Some-clause-known
repeat-returns-in-Some-clause-known t c =
    rw (← c.in_ok-low.ensures, ← c.in_ok-high.ensures, ← c.unroll_limit_of-most.ensures, ← c.in-Some.ensures)
    c.iterations.ensures.known

pub repeat-returns-in_ok-iteration-in-None-clause-code : goal.repeat-returns-in_ok-iteration-in-None-clause-code
repeat-returns-in_ok-iteration-in-None-clause-code t c =
    rw (
      ← c.in_ok-low.ensures,
      ← c.in_ok-high.ensures,
      ← c.unroll_limit_of-most.ensures,
      ← c.in-None.ensures,
      ← c.begin_loop.ensures,
      ← c.in_ok-iteration-in-None.ensures.code,
      ← c.loop_of.ensures,
    ) c.push.ensures

pub statement-returns-in_ok-value-in-Put-clause-code : goal.statement-returns-in_ok-value-in-Put-clause-code
statement-returns-in_ok-value-in-Put-clause-code t c =
    rw (c.in-Put.is, ← c.in_ok-index-in-Put.ensures, ← c.in_ok-value-in-Put.ensures) c.push-in-Put.ensures

pub statement-returns-in_ok-condition-in-Take-clause-code : goal.statement-returns-in_ok-condition-in-Take-clause-code
statement-returns-in_ok-condition-in-Take-clause-code t c =
    rw (c.in-Take.is, ← c.in_ok-condition-in-Take.ensures) c.push-in-Take.ensures

pub statement-returns-in-Set-clause-code : goal.statement-returns-in-Set-clause-code
statement-returns-in-Set-clause-code t c =
    rw (c.in-Set.is) c.set_simple.ensures.code

pub statement-returns-in-Set-clause-known : goal.statement-returns-in-Set-clause-known
statement-returns-in-Set-clause-known t c =
    rw (c.in-Set.is) c.set_simple.ensures.known
