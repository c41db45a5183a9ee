use Rattle.std.proofs.Common.{lit<, rules, tests}
use Rattle.std.proofs.lemmas.Iterator.{items_from_collect}
use Rattle.std.proofs.lemmas.Iterator.Consumers.{YieldsList-at, YieldsList-from_filter_map}
use Rattle.std.proofs.lemmas.Iterator.Splits.{YieldsList-from_str_split}
use Rattle.language.specs.arguments.Texts.{word_of}
use Rattle.language.proofs.arguments.texts.words.Goals as goal

pub returns : goal.returns
returns c =
    let road = YieldsList-from_str_split 44 c.args.text.now (lit< tt) c.split.ensures.text c.split.ensures.has_more
    c.split.ensures.pattern in
    items_from_collect _ c.collect.ensures.ran
    (YieldsList-from_filter_map _ word_of (YieldsList-at c.filter_map.ensures.source road)
    c.filter_map.ensures.closure (λ part r q k. search (rules, tests)))
