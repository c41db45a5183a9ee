-- Each line, letter by letter.
use Rattle.std.proofs.Common.{rules}
use Rattle.std.specs.Fmt.{digits}
use Rattle.serde_json.proofs.OnLiterals.{serde_json_on_literals}
use Rattle.commands.proofs.json.subject.JsonCommand.no_memory_line.Goals as goal

pub returns-in-Check : goal.returns-in-Check
unfolding digits serde_json_on_literals
returns-in-Check c = search rules

pub returns-in-Build : goal.returns-in-Build
unfolding digits serde_json_on_literals
returns-in-Build c = search rules

pub returns-in-Function : goal.returns-in-Function
unfolding digits serde_json_on_literals
returns-in-Function c = search rules

pub returns-in-Stat : goal.returns-in-Stat
unfolding digits serde_json_on_literals
returns-in-Stat c = search rules

pub returns-in-Eval : goal.returns-in-Eval
unfolding digits serde_json_on_literals
returns-in-Eval c = search rules

pub returns-in-Pair : goal.returns-in-Pair
unfolding digits serde_json_on_literals
returns-in-Pair c = search rules

pub returns-in-Certify : goal.returns-in-Certify
unfolding digits serde_json_on_literals
returns-in-Certify c = search rules

pub returns-in-Vectors : goal.returns-in-Vectors
unfolding digits serde_json_on_literals
returns-in-Vectors c = search rules
