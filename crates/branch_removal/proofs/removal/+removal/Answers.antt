use Rattle.std.proofs.Common.{◌≡◌, ◌+◌, ◌*◌, ◌∷◌, ◌<◌, drop, rules, arith, refl, sym, ap, ◌∙◌}
use Rattle.std.proofs.lemmas.List.{at_drop_all, drop_more}
use Rattle.branch_removal.specs.Below.{body_nodes, flat_block, flat_tree, Public, Secret, term_tree, tree_nodes}
use Rattle.branch_removal.specs.private.Removal.{own_controls, removed, removed_all}
use Rattle.branch_removal.specs.Straight.{chain, straight_block}
use Rattle.branch_removal.proofs.Statements.{accepted_fewer, otherwise_fewer, arms_smaller, controls_of_loop}
use Rattle.branch_removal.proofs.Statements.{body_smaller, smaller_here, passed, fewer_here, fewer_behind}
use Rattle.branch_removal.proofs.Statements.{code_of_branch, code_of_secret, code_of_loop}
use Rattle.branch_removal.proofs.StatementTrees.{chain-nothing}
use Rattle.branch_removal.proofs.removal.+removal.Goals as goal

pub push_removed-returns-in-Skip : goal.push_removed-returns-in-Skip
push_removed-returns-in-Skip t c =
    sym (chain-nothing (straight_block c.args.code.now.items))
    ∙ ap (λ s. chain (straight_block c.args.code.now.items) (removed c.args.within c.args.control (flat_tree s)))
    (sym c.in-Skip.is)

pub push_removed-push_secret-requires : goal.push_removed-push_secret-requires
push_removed-push_secret-requires t c =
    let ones = c.deref-in-Secret.result.now in
    let others = c.deref-in-Secret-2.result.now in
    let smaller : 4 * (body_nodes (flat_block ones) + body_nodes (flat_block others)) + 3
    < 4 * tree_nodes (flat_tree c.args.statement.now) =
    omega (
      arith,
      arms_smaller c.args.statement.now c.in-Branch.label c.in-Branch.condition c.in-Branch.accepted
          c.in-Branch.otherwise c.in-Branch.is ones others c.deref-in-Secret.ensures.value
          c.deref-in-Secret-2.ensures.value,
    ) in
    let few = accepted_fewer c.args.statement.now c.in-Branch.label c.in-Branch.condition c.in-Branch.accepted
    c.in-Branch.otherwise c.in-Branch.is ones c.deref-in-Secret.ensures.value in
    let others_few = otherwise_fewer c.args.statement.now c.in-Branch.label c.in-Branch.condition c.in-Branch.accepted
    c.in-Branch.otherwise c.in-Branch.is others c.deref-in-Secret-2.ensures.value in (
      search (rules, smaller),
      (
        omega (arith, few, ap own_controls c.in-Secret.is, c.requires.numbered),
        omega (arith, others_few, ap own_controls c.in-Secret.is, c.requires.numbered),
      ),
    )

pub push_removed-returns-in-Secret : goal.push_removed-returns-in-Secret
push_removed-returns-in-Secret t c =
    rw (code_of_branch c.args.statement.now c.in-Branch.label c.in-Branch.condition c.in-Branch.accepted
    c.in-Branch.otherwise c.in-Branch.is Secret c.in-Secret.is c.args.within c.args.control _ _
    c.deref-in-Secret.ensures.value c.deref-in-Secret-2.ensures.value) at c.push_secret.ensures

pub push_removed-push_public-requires : goal.push_removed-push_public-requires
push_removed-push_public-requires t c =
    let ones = c.deref-in-Public.result.now in
    let others = c.deref-in-Public-2.result.now in
    let smaller : 4 * (body_nodes (flat_block ones) + body_nodes (flat_block others)) + 3
    < 4 * tree_nodes (flat_tree c.args.statement.now) =
    omega (
      arith,
      arms_smaller c.args.statement.now c.in-Branch.label c.in-Branch.condition c.in-Branch.accepted
          c.in-Branch.otherwise c.in-Branch.is ones others c.deref-in-Public.ensures.value
          c.deref-in-Public-2.ensures.value,
    ) in
    let few = accepted_fewer c.args.statement.now c.in-Branch.label c.in-Branch.condition c.in-Branch.accepted
    c.in-Branch.otherwise c.in-Branch.is ones c.deref-in-Public.ensures.value in
    let others_few = otherwise_fewer c.args.statement.now c.in-Branch.label c.in-Branch.condition c.in-Branch.accepted
    c.in-Branch.otherwise c.in-Branch.is others c.deref-in-Public-2.ensures.value in (
      search (rules, smaller),
      (omega (arith, few, c.requires.numbered), omega (arith, others_few, c.requires.numbered)),
    )

pub push_removed-returns-in-Public : goal.push_removed-returns-in-Public
push_removed-returns-in-Public t c =
    rw (code_of_branch c.args.statement.now c.in-Branch.label c.in-Branch.condition c.in-Branch.accepted
    c.in-Branch.otherwise c.in-Branch.is Public c.in-Public.is c.args.within c.args.control _ _
    c.deref-in-Public.ensures.value c.deref-in-Public-2.ensures.value) at c.push_public.ensures

pub push_removed-part-requires : goal.push_removed-part-requires
push_removed-part-requires t c =
    let all = controls_of_loop c.args.statement.now c.in-Loop.counter c.in-Loop.low c.in-Loop.high c.in-Loop.body
    c.in-Loop.is c.deref-in-Loop.result.now c.deref-in-Loop.ensures.value in
    let smaller : 4 * body_nodes (flat_block c.deref-in-Loop.result.now) + 2
    < 4 * tree_nodes (flat_tree c.args.statement.now) =
    omega (
      arith,
      body_smaller c.args.statement.now c.in-Loop.counter c.in-Loop.low c.in-Loop.high c.in-Loop.body
          c.in-Loop.is c.deref-in-Loop.result.now c.deref-in-Loop.ensures.value,
    ) in
    (search (rules, smaller), omega (arith, all, c.requires.numbered))

pub push_removed-returns-in_ok-repeat-in-Loop : goal.push_removed-returns-in_ok-repeat-in-Loop
push_removed-returns-in_ok-repeat-in-Loop t c =
    rw (code_of_loop c.args.statement.now c.in-Loop.counter c.in-Loop.low c.in-Loop.high c.in-Loop.body c.in-Loop.is
    c.args.within c.args.control _ _ c.deref-in-Loop.result.now c.deref-in-Loop.ensures.value
    c.in_ok-iteration-in-Loop.ensures c.in_ok-repeat-in-Loop.ensures) at c.push-in-Loop.ensures

pub push_secret-returns : goal.push_secret-returns
push_secret-returns t c =
    rw (code_of_secret c.args.within c.args.control (term_tree c.args.condition.now) _ (flat_block c.args.accepted.now)
    (flat_block c.args.otherwise.now) (straight_block c.args.code.now.items) _ _ c.in_ok-condition.ensures
    c.in_ok-push.ensures c.in_ok-push_removed_all.ensures) at c.push_removed_all-2.ensures

pub push_removed_all-push_removed-requires : goal.push_removed_all-push_removed-requires
push_removed_all-push_removed-requires t c =
    let s = c.statement-item.result in
    let l = c.loop-statement in
    let here : drop l.statement-index c.args.body.now ≡ s ∷ drop (l.statement-index + 1) c.args.body.now =
    drop_more c.args.body.now l.statement-index s c.loop-statement-test.true
    ∙ ap (λ x. x ∷ drop (l.statement-index + 1) c.args.body.now) (sym c.statement-item.is) in
    let smaller : 4 * tree_nodes (flat_tree s) < 4 * body_nodes (flat_block c.args.body.now) + 1 =
    omega (arith, smaller_here c.args.body.now l.statement-index s here) in (
      search (rules, smaller),
      fewer_here c.args.control _ c.args.body.now l.statement-index s here
          l.invariant.numbered,
    )

pub push_removed_all-loop-statement-preserved : goal.push_removed_all-loop-statement-preserved
push_removed_all-loop-statement-preserved t c =
    let s = c.statement-item.result in
    let l = c.loop-statement in
    let here : drop l.statement-index c.args.body.now ≡ s ∷ drop (l.statement-index + 1) c.args.body.now =
    drop_more c.args.body.now l.statement-index s c.loop-statement-test.true
    ∙ ap (λ x. x ∷ drop (l.statement-index + 1) c.args.body.now) (sym c.statement-item.is) in
    record {
      code = passed c.args.within c.args.control c.args.body.now l.statement-index s here _ _ _ l.invariant.code
          c.in_ok-push_removed.ensures;
      numbered = fewer_behind c.args.control _ c.args.body.now l.statement-index s here l.invariant.numbered;
      within = refl;
      control = refl;
    }

pub push_removed_all-returns : goal.push_removed_all-returns
push_removed_all-returns t c =
    let l = c.loop-statement in
    let none =
    at_drop_all (λ xs. chain (straight_block l.code.items)
    (removed_all c.args.within c.args.control (flat_block xs))) c.args.body.now l.statement-index
    c.loop-statement-test.false in
    sym (chain-nothing (straight_block l.code.items)) ∙ (sym none ∙ l.invariant.code)
