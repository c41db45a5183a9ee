use Rattle.functions.proofs.function_text_lemmas.LinkedLemmas.{functions_are_linked, headers_state_stacks}
use Rattle.functions.proofs.function_text.laws.functions_are_linked.Goals as goal

pub returns : goal.returns
returns c = record {
  linked = functions_are_linked c.calls_are_linked.ensures;
  stack = headers_state_stacks;
}
