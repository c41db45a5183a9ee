use Rattle.std.proofs.Common.{arith}
use Rattle.language.proofs.arguments_lemmas.ReadLemmas.{word_below}
use Rattle.language.proofs.arguments.texts.word_of.Goals as goal

pub returns-in-Some : goal.returns-in-Some
returns-in-Some c = word_below c.args.text.now c.in-Some.value c.in-Some.ensures (omega arith)
