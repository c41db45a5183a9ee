use Rattle.std.proofs.Common.{ap, ◌∙◌}
use Rattle.branch_removal.proofs.Checked.{where_checked}
use Rattle.straight_words.specs.Below.{checked, IsReplaced}
use Rattle.straight_words.specs.element_words.Exact.{words_of, split_of}
use Rattle.straight_words.specs.element_words.private.Plan.{WordPlan}
use Rattle.straight_words.proofs.element_words_lemmas.Whole.{as_split, replaced}
use Rattle.straight_words.proofs.element_words.plan.ElementWords.apply.Goals as goal

pub returns-clause-exact : goal.returns-clause-exact
unfolding words_of split_of
returns-clause-exact c =
    let view = c.self.view_is in
    c.rewritten.ensures.exact ∙ ap checked (as_split c.args.straight.now c.args.self.now _ _ _ _ _ _ c.requires
    (c.as_slice.ensures.value ∙ ap (λ (w : WordPlan). w.declared) view)
    (ap (λ (w : WordPlan). w.parts) view) c.body.ensures.body c.in_ok-code.ensures c.value.ensures
    c.in_ok-value.ensures)

pub returns-clause-replaced : goal.returns-clause-replaced
unfolding split_of
returns-clause-replaced c =
    let p = c.args.straight.now in
    where_checked (IsReplaced p) _ _ (returns-clause-exact c) c.rewritten.ensures.straight
    (replaced p c.body.ensures.kept)
