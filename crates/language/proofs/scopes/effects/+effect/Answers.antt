use Rattle.std.proofs.Common.{refl, ◌∙◌}
use Rattle.language.specs.Tree.{block_tree}
use Rattle.language.specs.Typing.{block_assigns}
use Rattle.language.proofs.scopes_lemmas.EffectLemmas.{conditional_assigns, first_does, loop_assigns, second_does}
use Rattle.language.proofs.scopes.effects.+effect.Goals as goal

pub statement_assigns-returns-then-block_assigns :
    goal.statement_assigns-returns-then-block_assigns
statement_assigns-returns-then-block_assigns t c =
    first_does c.block_assigns.result (block_assigns c.args.names.now (block_tree c.as_slice.result.now))
    (block_assigns c.args.names.now (block_tree c.in-If.otherwise.items)) c.block_assigns.ensures
    c.if-block_assigns.true
    ∙ conditional_assigns c.args.names.now c.args.statement.now c.in-If.field-0 c.in-If.field-1 c.in-If.accepted
    c.in-If.otherwise c.as_slice.result.now c.in-If.otherwise.items c.in-If.is c.as_slice.ensures.value refl

pub statement_assigns-returns-else-block_assigns :
    goal.statement_assigns-returns-else-block_assigns
statement_assigns-returns-else-block_assigns t c =
    second_does c.block_assigns-else-block_assigns.result c.block_assigns.result
    (block_assigns c.args.names.now (block_tree c.as_slice.result.now))
    (block_assigns c.args.names.now (block_tree c.as_slice-else-block_assigns.result.now))
    c.block_assigns.ensures c.if-block_assigns.false c.block_assigns-else-block_assigns.ensures
    ∙ conditional_assigns c.args.names.now c.args.statement.now c.in-If.field-0 c.in-If.field-1 c.in-If.accepted
    c.in-If.otherwise c.as_slice.result.now c.as_slice-else-block_assigns.result.now c.in-If.is
    c.as_slice.ensures.value c.as_slice-else-block_assigns.ensures.value

pub statement_assigns-returns-in-For : goal.statement_assigns-returns-in-For
statement_assigns-returns-in-For t c =
    c.block_assigns-in-For.ensures
    ∙ loop_assigns c.args.names.now c.args.statement.now c.in-For.field-0 c.in-For.field-1 c.in-For.field-2
    c.in-For.field-3 c.in-For.body c.as_slice-in-For.result.now c.in-For.is c.as_slice-in-For.ensures.value
