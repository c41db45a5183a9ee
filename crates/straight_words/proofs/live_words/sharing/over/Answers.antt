use Rattle.std.proofs.Common.{◌<◌, ◌^◌, length, List, subst, sym}
use Rattle.straight_words.specs.Below.{Param}
use Rattle.straight_words.proofs.live_words_lemmas.Whole.{few_parameters}
use Rattle.straight_words.proofs.live_words.sharing.over.Goals as goal

pub keep_results-requires : goal.keep_results-requires
keep_results-requires c = record {
  numbered = subst (λ (ps : List Param). length ps < 2 ^ 32) (sym c.parameters.ensures)
      (few_parameters c.args.straight.now c.body-code.ensures.kept);
}
