use Rattle.functions.proofs.function_text_lemmas.TextLaws.{one_function, one_pair}
use Rattle.functions.proofs.function_text.laws.functions_agree.Goals as goal

pub returns : goal.returns
returns c = record {
  parts = one_function c.one_answer_for_a_source.ensures;
  texts = λ optimisation profile prefix notation. one_pair c.words_differ.ensures notation
      c.one_answer_for_a_source.ensures optimisation profile prefix;
}
