use Rattle.std.proofs.Common.{sym}
use Rattle.explanations.proofs.refusal_details_lemmas.SourceNames.{no_name}
use Rattle.explanations.proofs.refusal_details.source_names.name_at.Goals as goal

pub returns-in-None : goal.returns-in-None
returns-in-None c =
    sym
    (no_name c.args.source.now c.args.place.offset
    (λ boundary. let differ = c.in-None.ensures.variant.1 boundary in cc))
