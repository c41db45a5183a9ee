use Rattle.std.proofs.Common.{◌∙◌}
use Rattle.functions.proofs.function_code_lemmas.DistanceLemmas.{next_is}
use Rattle.functions.proofs.function_code.sections.next_code.Goals as goal

pub returns : goal.returns
returns c = λ rest left.
    c.in_ok-code.ensures
    ∙ next_is c.args.image.now c.args.around.pace c.args.behind c.args.left c.in_ok-own.own c.args.section rest left
    c.in_ok-own.ensures
