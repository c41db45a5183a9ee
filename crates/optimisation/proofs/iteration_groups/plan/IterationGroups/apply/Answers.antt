use Rattle.std.proofs.Common.{sym, ap, ◌∙◌}
use Rattle.branch_removal.proofs.Checked.{where_checked}
use Rattle.optimisation.specs.Below.{checked, IsReplaced, straight_block}
use Rattle.optimisation.specs.iteration_groups.Exact.{grouped_of, groups_for}
use Rattle.optimisation.specs.iteration_groups.private.Grouping.{GroupPlan}
use Rattle.optimisation.proofs.iteration_groups_lemmas.Whole.{as_grouped, made_none, made_some, replaced}
use Rattle.optimisation.proofs.iteration_groups.plan.IterationGroups.apply.Goals as goal

pub returns-in-None-clause-exact : goal.returns-in-None-clause-exact
unfolding groups_for grouped_of
returns-in-None-clause-exact c =
    made_none c.args.straight.now (sym (ap (λ (g : GroupPlan). g.base) (c.self.view_is ∙ c.requires)) ∙ c.in-None.is)

pub returns-clause-exact : goal.returns-clause-exact
unfolding groups_for grouped_of
returns-clause-exact c =
    let p = c.args.straight.now in
    let plan = c.self.view_is ∙ c.requires in
    let some = sym (ap (λ (g : GroupPlan). g.base) plan) ∙ c.in-Some.is in
    c.rewritten.ensures.exact
    ∙ (ap checked (as_grouped p c.in-Some.base some _ _ _ _ _ _
    (c.as_slice.ensures.value ∙ ap (λ (g : GroupPlan). g.declared) plan)
    c.body.ensures.body (ap straight_block c.new-code.ensures.items) c.in_ok-push_all.ensures c.value.ensures
    c.in_ok-value.ensures)
    ∙ sym (made_some p c.in-Some.base some))

pub returns-clause-replaced : goal.returns-clause-replaced
unfolding groups_for grouped_of
returns-clause-replaced c =
    let p = c.args.straight.now in
    let some = sym (ap (λ (g : GroupPlan). g.base) (c.self.view_is ∙ c.requires)) ∙ c.in-Some.is in
    where_checked (IsReplaced p) _ _ (returns-clause-exact c ∙ made_some p c.in-Some.base some)
    c.rewritten.ensures.straight (replaced p c.body.ensures.kept)
