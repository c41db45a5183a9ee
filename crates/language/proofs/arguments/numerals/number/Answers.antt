use Rattle.std.proofs.Common.{ap, ◌∙◌, sym}
use Rattle.language.proofs.arguments_lemmas.NumberLemmas.{capped, number_of-hexadecimal, number_of-decimal}
use Rattle.language.proofs.arguments.numerals.number.Goals as goal

pub returns-in-Some : goal.returns-in-Some
returns-in-Some c = c.number_from_digits.ensures
    ∙ ap capped (sym (number_of-hexadecimal c.args.text.now c.in-Some.digits.now c.in-Some.ensures.cases))

pub returns-in-None : goal.returns-in-None
returns-in-None c = c.number_from_digits-in-None.ensures
    ∙ ap capped (sym (number_of-decimal c.args.text.now c.in-None.ensures.cases))
