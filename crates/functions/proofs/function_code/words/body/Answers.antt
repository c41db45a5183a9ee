use Rattle.std.proofs.Common.{ap, ◌∙◌}
use Rattle.functions.specs.Below.{body_words}
use Rattle.functions.proofs.function_code_lemmas.BodyLemmas.{all_but_one}
use Rattle.functions.proofs.function_code.words.body.Goals as goal

pub returns-in-len1-up : goal.returns-in-len1-up
returns-in-len1-up c = all_but_one c.words.result.now ∙ ap body_words c.words.ensures.words
