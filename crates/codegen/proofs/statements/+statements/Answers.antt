use Rattle.std.proofs.Common.{rules, ◌≡◌, ◌++◌, length, List, refl, sym, ap, ◌∙◌, subst, arith, IfErr, OnOk}
use Rattle.codegen.specs.Below.{straight_block}
use Rattle.branch_removal.proofs.StatementTrees.{tree_of_branch, tree_of_loop, accepted_smaller, otherwise_smaller}
use Rattle.branch_removal.proofs.StatementTrees.{body_smaller}
use Rattle.codegen.proofs.Machine.{Instr, IsFar}
use Rattle.codegen.proofs.StatementCode.{arms_within, branch_is, body_within, loop_is, emitted, for_part}
use Rattle.codegen.specs.private.Loops.{any_sets}
use Rattle.codegen.proofs.statements.+statements.Goals as goal

pub statement-statements-requires : goal.statement-statements-requires
statement-statements-requires t c =
    let b = c.in-Branch in
    let tree = tree_of_branch b.accepted b.otherwise b.is c.deref-in-Branch.ensures.value refl in
    let placed = rw tree at c.requires.placed in
    (search (rules, accepted_smaller b.accepted b.otherwise b.is c.deref-in-Branch.ensures.value refl), placed.1)

pub statement-statements-requires-in-Branch : goal.statement-statements-requires-in-Branch
statement-statements-requires-in-Branch t c =
    let b = c.in-Branch in
    let tree = tree_of_branch b.accepted b.otherwise b.is refl c.deref-in-Branch-2.ensures.value in
    let placed = rw tree at c.requires.placed in
    (search (rules, otherwise_smaller b.accepted b.otherwise b.is refl c.deref-in-Branch-2.ensures.value), placed.2)

pub statement-statements-requires-in-Repeat : goal.statement-statements-requires-in-Repeat
statement-statements-requires-in-Repeat t c =
    let r = c.in-Repeat in
    let placed = rw (tree_of_loop r.body r.is c.deref-in-Repeat.ensures.value) at c.requires.placed in
    (search (rules, body_smaller r.body r.is c.deref-in-Repeat.ensures.value), placed.4)

pub statement-returns-in_ok-branch-in-Branch-clause-code : goal.statement-returns-in_ok-branch-in-Branch-clause-code
statement-returns-in_ok-branch-in-Branch-clause-code t c =
    let b = c.in-Branch in
    c.in_ok-branch-in-Branch.ensures
    ∙ ap (λ (l : List Instr). c.args.code.now.items ++ l)
    (branch_is c.args.layout.now c.args.depth
    (tree_of_branch b.accepted b.otherwise b.is c.deref-in-Branch.ensures.value c.deref-in-Branch-2.ensures.value)
    (c.as_slice.ensures.value ∙ emitted c.in_ok-statements-in-Branch.ensures.code c.new-one.ensures.items)
    (c.as_slice-in-Branch.ensures.value
    ∙ emitted c.in_ok-statements-in-Branch-2.ensures.code c.new-other.ensures.items))

pub statement-returns-in_ok-statements-in-Repeat : goal.statement-returns-in_ok-statements-in-Repeat
statement-returns-in_ok-statements-in-Repeat t c =
    let r = c.in-Repeat in
    let same = c.deref-in-Repeat-2.ensures.value ∙ sym c.deref-in-Repeat.ensures.value in
    let set = c.any_sets.ensures ∙ ap (λ body. any_sets r.counter (straight_block body)) same in
    let code =
    loop_is c.args.layout.now c.args.depth r.counter
    (tree_of_loop r.body r.is c.deref-in-Repeat.ensures.value)
    (c.as_slice-in-Repeat.ensures.value ∙ emitted c.in_ok-statements-in-Repeat.ensures.code
    c.new-iteration.ensures.items)
    c.any_sets.result set in
    record {
      code = subst (λ (l : List Instr). OnOk c.repeat.result (c.repeat.new.code.items ≡ c.args.code.now.items ++ l))
          code c.repeat.ensures.code;
      far = subst (λ (l : List Instr). IfErr c.repeat.result (IsFar (length l))) code c.repeat.ensures.far;
    }

-- Code that is not emitted.

pub statement-returns-in_err-statements-in-Branch-clause-far :
    goal.statement-returns-in_err-statements-in-Branch-clause-far
statement-returns-in_err-statements-in-Branch-clause-far t c =
    let b = c.in-Branch in
    let tree = tree_of_branch b.accepted b.otherwise b.is c.deref-in-Branch.ensures.value refl in
    for_part _ _ _ c.from_residual-in_err-statements-in-Branch.ensures.1 c.in_err-statements-in-Branch.ensures.far
    (omega (arith, arms_within c.args.layout.now c.args.depth tree refl refl))

pub statement-returns-in_err-statements-in-Branch-2-clause-far :
    goal.statement-returns-in_err-statements-in-Branch-2-clause-far
statement-returns-in_err-statements-in-Branch-2-clause-far t c =
    let b = c.in-Branch in
    let tree = tree_of_branch b.accepted b.otherwise b.is c.deref-in-Branch.ensures.value
    c.deref-in-Branch-2.ensures.value in
    for_part _ _ _ c.from_residual-in_err-statements-in-Branch-2.ensures.1 c.in_err-statements-in-Branch-2.ensures.far
    (omega (arith, arms_within c.args.layout.now c.args.depth tree refl refl))

pub statement-returns-in_err-reach-in-Branch-clause-far : goal.statement-returns-in_err-reach-in-Branch-clause-far
statement-returns-in_err-reach-in-Branch-clause-far t c =
    let b = c.in-Branch in
    let tree = tree_of_branch b.accepted b.otherwise b.is c.deref-in-Branch.ensures.value
    c.deref-in-Branch-2.ensures.value in
    let within = arms_within c.args.layout.now c.args.depth tree
    (emitted c.in_ok-statements-in-Branch.ensures.code c.new-one.ensures.items)
    (emitted c.in_ok-statements-in-Branch-2.ensures.code c.new-other.ensures.items) in
    for_part _ _ _ c.from_residual-in_err-reach-in-Branch.ensures.1 c.in_err-reach-in-Branch.ensures.far
    (omega (arith, c.len.ensures, c.len-in-Branch.ensures, within))

pub statement-returns-in_err-statements-in-Repeat-clause-far :
    goal.statement-returns-in_err-statements-in-Repeat-clause-far
statement-returns-in_err-statements-in-Repeat-clause-far t c =
    let r = c.in-Repeat in
    let tree = tree_of_loop r.body r.is c.deref-in-Repeat.ensures.value in
    for_part _ _ _ c.from_residual-in_err-statements-in-Repeat.ensures.1 c.in_err-statements-in-Repeat.ensures.far
    (omega (arith, body_within c.args.layout.now c.args.depth r.counter tree refl))
