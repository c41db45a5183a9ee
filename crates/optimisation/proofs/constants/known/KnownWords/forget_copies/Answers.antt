use Rattle.std.proofs.Common.{rules}
use Rattle.std.proofs.lemmas.Fn.{filter_same}
use Rattle.optimisation.proofs.constants.known.KnownWords.forget_copies.Goals as goal

pub returns-clause-copies : goal.returns-clause-copies
returns-clause-copies c = filter_same _ _ _ (λ x b f' k. search rules) _ _ c.retain.ensures.filtered
