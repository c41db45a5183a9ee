use Rattle.std.proofs.Common.{rules, ◌≡◌, suc, ◌+◌, ◌-◌, refl, subst, ◌∙◌, arith}
use Rattle.std.specs.Prelude.{OnOk}
use Rattle.std.proofs.lemmas.List.{at_drop_all}
use Rattle.optimisation.specs.Below.{chain, straight_block, StraightBlock}
use Rattle.branch_removal.proofs.StatementTrees.{tree_of_branch, tree_of_loop, accepted_smaller, otherwise_smaller}
use Rattle.branch_removal.proofs.StatementTrees.{body_smaller, item_here, smaller_here, chain-assoc, chain-nothing}
use Rattle.optimisation.proofs.iteration_groups.statements.+grouping.Goals as goal

pub push_all-statement-requires : goal.push_all-statement-requires
push_all-statement-requires t c =
    let s = c.each-item.result in
    let l = c.loop-each in
    let here = item_here c.args.body.now l.each-index s c.loop-each-test.true c.each-item.is in
    search (rules, smaller_here c.args.body.now l.each-index s here)

pub push_all-loop-each-preserved : goal.push_all-loop-each-preserved
push_all-loop-each-preserved t c =
    let l = c.loop-each in
    let here = item_here c.args.body.now l.each-index c.each-item.result c.loop-each-test.true c.each-item.is in
    rw (c.in_ok-statement.ensures, chain-assoc, ← l.invariant, here) refl

pub push_all-returns : goal.push_all-returns
push_all-returns t c =
    let l = c.loop-each in
    let none = at_drop_all (λ xs. straight_block xs) c.args.body.now l.each-index c.loop-each-test.false in
    rw (← l.invariant, none, chain-nothing) refl

pub push_copies-loop-offset-preserved : goal.push_copies-loop-offset-preserved
push_copies-loop-offset-preserved t c =
    let l = c.loop-offset in
    let left : c.args.count - l.offset ≡ suc (c.args.count - (l.offset + 1)) = omega (arith, c.loop-offset-test.true) in
    rw (c.in_ok-push_all.ensures, chain-assoc, ← l.invariant, left) refl

pub push_copies-returns : goal.push_copies-returns
push_copies-returns t c =
    let l = c.loop-offset in
    let none : c.args.count - l.offset ≡ 0 = omega (arith, c.loop-offset-test.false) in
    rw (← l.invariant, none, chain-nothing) refl

pub statement-block-requires : goal.statement-block-requires
statement-block-requires t c =
    search (
      rules,
      accepted_smaller c.in-Branch.accepted c.in-Branch.otherwise c.in-Branch.is
          c.deref.ensures.value refl,
    )

pub statement-block-requires-in-Branch : goal.statement-block-requires-in-Branch
statement-block-requires-in-Branch t c =
    search (
      rules,
      otherwise_smaller c.in-Branch.accepted c.in-Branch.otherwise c.in-Branch.is refl
          c.deref-in-Branch.ensures.value,
    )

pub statement-push_loop-requires : goal.statement-push_loop-requires
statement-push_loop-requires t c =
    search (rules, body_smaller c.in-Repeat.body c.in-Repeat.is c.deref-in-Repeat.ensures.value)

pub statement-returns-in_ok-other-in-Branch : goal.statement-returns-in_ok-other-in-Branch
statement-returns-in_ok-other-in-Branch t c =
    rw (
      tree_of_branch c.in-Branch.accepted c.in-Branch.otherwise c.in-Branch.is c.deref.ensures.value
          c.deref-in-Branch.ensures.value,
      ← c.in_ok-condition-in-Branch.ensures,
      ← c.in_ok-one-in-Branch.ensures,
      ← c.in_ok-other-in-Branch.ensures,
      ← c.branch_of.ensures,
    ) c.push.ensures

pub statement-returns-in-Repeat : goal.statement-returns-in-Repeat
statement-returns-in-Repeat t c =
    rw (tree_of_loop c.in-Repeat.body c.in-Repeat.is c.deref-in-Repeat.ensures.value) c.push_loop.ensures

-- a block, and four behind it
in_order : (these one two three four : StraightBlock)
    → chain (chain (chain (chain these one) two) three) four
    ≡ chain these (chain one (chain two (chain three four)))
in_order these one two three four =
    chain-assoc (chain (chain these one) two) three four
    ∙ (chain-assoc (chain these one) two (chain three four) ∙ chain-assoc these one (chain two (chain three four)))

pub push_groups-returns : goal.push_groups-returns
push_groups-returns t c =
    subst (λ (made : StraightBlock). OnOk c.push-3.result (straight_block c.push-3.new.code.items ≡ made))
    (rw (
      c.in_ok-push_copies.ensures,
      c.in_ok-push-2.ensures,
      c.in_ok-push.ensures,
      c.loop_of.ensures,
      c.number_set.ensures,
      c.number_set-2.ensures,
      c.in_ok-group.ensures,
      c.saturating_sub-2.ensures,
      c.saturating_sub.ensures,
      c.saturating_sub-iterations.ensures,
      in_order,
    ) refl) c.push-3.ensures
