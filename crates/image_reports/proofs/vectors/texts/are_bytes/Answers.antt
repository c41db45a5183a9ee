use Rattle.std.proofs.Common.{nat_lt, rules, tests}
use Rattle.std.proofs.lemmas.Iterator.{YieldsList-from_slice}
use Rattle.std.proofs.lemmas.Iterator.Search.{all_from_yields_List}
use Rattle.image_reports.proofs.vectors.texts.are_bytes.Goals as goal

pub returns : goal.returns
returns c = all_from_yields_List (λ number. nat_lt number 256) _ _ _ c.all.ensures.ran
    (YieldsList-from_slice c.args.numbers.now c.iter.ensures.rest) (λ x b q k. search (rules, tests))
