use Rattle.std.proofs.Common.{refl}
use Rattle.commands.specs.FunctionRunRefusals.{broken, out_of_memory}
use Rattle.commands.proofs.function_words.fault_of_start.Goals as goal

pub returns-in_ok-word-in-Refused : goal.returns-in_ok-word-in-Refused
returns-in_ok-word-in-Refused c = λ first is.
    broken (rw c.in-Refused.is at is) c.in_ok-word-in-Refused.ensures

pub returns-in-Memory : goal.returns-in-Memory
returns-in-Memory c = λ first is. out_of_memory refl
