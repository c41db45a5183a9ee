use Rattle.std.proofs.Common.{not, ◌==◌, length, lit<, rules, tests}
use Rattle.std.proofs.lemmas.Iterator.Consumers.{YieldsList-at, YieldsList-from_filter, map_from_collect}
use Rattle.std.proofs.lemmas.Iterator.Splits.{YieldsList-from_str_split}
use Rattle.image_reports.proofs.vectors.lines.fields_of.Goals as goal

pub returns : goal.returns
returns c =
    map_from_collect _ c.collect.ensures.ran
    (YieldsList-from_filter _ (λ field. not (length field == 0))
    (YieldsList-at c.filter.ensures.source
    (YieldsList-from_str_split 32 c.args.text.now (lit< tt) c.split.ensures.text c.split.ensures.has_more
    c.split.ensures.pattern))
    c.filter.ensures.closure (λ x b q k. search (rules, tests)))
