use Rattle.std.proofs.Common.{◌≡◌, ◌∙◌, None, arith, rules, ap, sym, subst}
use Rattle.std.proofs.lemmas.Result.{err_from_is_err_and}
use Rattle.syntax.specs.private.Machine.{statements, after_else}
use Rattle.syntax.specs.private.ParserViews.{ahead, after_start}
use Rattle.syntax.specs.Below.{BlockTree, nothing}
use Rattle.syntax.proofs.MachineSteps.{more_statements}
use Rattle.syntax.proofs.ParserSteps.{ahead-otherwise}
use Rattle.syntax.proofs.StatementSteps.{followed_by, followed-nothing, ahead-push}
use Rattle.language.proofs.BlockLemmas.{row_trees}
use Rattle.syntax.proofs.parser.Parser.+statement.Goals as goal

pub after_else-returns-in-None-clause-leads : goal.after_else-returns-in-None-clause-leads
after_else-returns-in-None-clause-leads t c = λ k.
    simp (c.in_ok-word.ensures.leads, c.in-None.is) (c.block.ensures.leads k)

pub conditional-returns-clause-leads : goal.conditional-returns-clause-leads
conditional-returns-clause-leads t c = λ k.
    rw row_trees.arms (simp (c.in_ok-pass.ensures.leads, c.in_ok-condition.ensures.leads)
    (simp c.in_ok-accepted.ensures.leads (c.in_ok-otherwise.ensures.leads _)))

pub counted-returns-clause-leads : goal.counted-returns-clause-leads
counted-returns-clause-leads t c = λ k.
    rw row_trees.bodies (simp (
      c.in_ok-counter.ensures.place,
      c.in_ok-counter.ensures.name,
      c.in_ok-name.ensures.leads,
      c.in_ok-low.ensures.leads,
    ) (simp c.in_ok-high.ensures.leads (c.in_ok-body.ensures.leads _)))

pub otherwise-returns-in_err-skips-clause-leads : goal.otherwise-returns-in_err-skips-clause-leads
otherwise-returns-in_err-skips-clause-leads t c = λ k.
    let p = err_from_is_err_and c.from_residual.result c.from_residual.ensures.1 in
    rw (p.1, p.2, ahead-otherwise k) (c.in_err-skips.ensures.leads (λ _. after_else k) (k nothing))

pub otherwise-returns-then-branch-clause-leads : goal.otherwise-returns-then-branch-clause-leads
otherwise-returns-then-branch-clause-leads t c = λ k.
    simp (ahead-otherwise k, c.in_ok-skips.ensures.leads, c.if-branch.true) (c.after_else.ensures.leads k)

pub otherwise-returns-clause-leads : goal.otherwise-returns-clause-leads
otherwise-returns-clause-leads t c = λ k.
    simp (ahead-otherwise k, c.in_ok-skips.ensures.leads, c.if-branch.false, c.new.ensures.items)

pub statements-loop-statements-preserved : goal.statements-loop-statements-preserved
statements-loop-statements-preserved t c = record {
  same = λ k.
      let ss = c.loop-statements.statements.items in
      let k' = λ (b : BlockTree). k (followed_by ss b) in
      let begun = subst (λ o. ahead (statements k') c.loop-statements.self
      ≡ ahead (after_start k' o) c.start.new.self) c.in-Some.is (c.in_ok-begun.ensures.leads k') in
      c.loop-statements.invariant.same k
      ∙ begun
      ∙ c.in_ok-statement.ensures.leads (more_statements k')
      ∙ ahead-push k ss c.in_ok-statement.field-0 c.statement.new.self
      ∙ ap (λ xs. ahead (statements (λ b. k (followed_by xs b))) c.statement.new.self)
      (sym c.in_ok-push.ensures.items);
  shorter = omega (
    arith,
    c.loop-statements.invariant.shorter,
    c.in_ok-begun.ensures.same,
    c.in_ok-statement.ensures.shorter,
  );
}

pub statements-returns-clause-leads : goal.statements-returns-clause-leads
statements-returns-clause-leads t c = λ k.
    let ss = c.loop-statements.statements.items in
    let k' = λ (b : BlockTree). k (followed_by ss b) in
    let none : c.in_ok-begun.field-0 ≡ None = search rules in
    c.loop-statements.invariant.same k
    ∙ subst (λ o. ahead (statements k') c.loop-statements.self ≡ ahead (after_start k' o) c.start.new.self) none
    (c.in_ok-begun.ensures.leads k')
    ∙ ap (λ b. ahead (k b) c.start.new.self) (followed-nothing ss)
