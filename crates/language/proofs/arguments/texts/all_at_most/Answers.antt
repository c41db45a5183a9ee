use Rattle.std.proofs.Common.{◌==◌, Some, true, ◌∙◌, lit<, arith, rules, tests}
use Rattle.std.specs.List.{slice_split}
use Rattle.std.proofs.lemmas.Iterator.Consumers.{fold_from_yields_List}
use Rattle.std.proofs.lemmas.Iterator.Splits.{YieldsList-from_str_split}
use Rattle.language.proofs.arguments_lemmas.TextLemmas.{with_part, fold-with_part}
use Rattle.language.proofs.arguments.texts.all_at_most.Goals as goal

pub returns : goal.returns
returns c =
    let text = c.args.text.now in
    let road = YieldsList-from_str_split 44 text (lit< tt) c.split.ensures.text c.split.ensures.has_more
    c.split.ensures.pattern in
    fold_from_yields_List _ (with_part c.args.most) (Some true) _ c.fold.ensures.ran road
    (λ all part r q k. search (rules, tests))
    ∙ fold-with_part c.args.most true (slice_split (λ byte. byte == 44) text) (omega arith)
