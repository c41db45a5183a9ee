use Rattle.std.proofs.Common.{ap, ◌∙◌}
use Rattle.branch_removal.proofs.Checked.{where_checked}
use Rattle.variable_room.specs.Below.{checked, IsReplaced}
use Rattle.variable_room.specs.number_words.Exact.{number_words_of, numbers_as_words}
use Rattle.variable_room.specs.number_words.private.Plan.{NumberPlan}
use Rattle.variable_room.proofs.number_words_lemmas.Whole.{as_worded, replaced}
use Rattle.variable_room.proofs.number_words.plan.NumberWords.apply.Goals as goal

pub returns-clause-exact : goal.returns-clause-exact
unfolding number_words_of numbers_as_words
returns-clause-exact c =
    let view = c.self.view_is in
    c.rewritten.ensures.exact ∙ ap checked (as_worded c.args.straight.now c.args.self.now _ _ _ _ _ _ _ c.requires
    (c.as_slice.ensures.value ∙ ap (λ (w : NumberPlan). w.declared) view)
    (c.as_slice-words.ensures.value ∙ ap (λ (w : NumberPlan). w.words) view) c.body.ensures.body c.in_ok-code.ensures
    c.in_ok-push_all.ensures c.value.ensures c.in_ok-value.ensures)

pub returns-clause-replaced : goal.returns-clause-replaced
unfolding numbers_as_words
returns-clause-replaced c =
    let p = c.args.straight.now in
    where_checked (IsReplaced p) _ _ (returns-clause-exact c) c.rewritten.ensures.straight
    (replaced p c.body.ensures.kept)
