-- How commands that answer in JSON are named.
use Rattle.std.specs.Prelude.{ℕ, List, codes}
use Rattle.commands.specs.declared.json.subject.JsonCommand.{JsonCommand}
use Rattle.commands.specs.declared.json.subject.JsonCommand.TheVariants.{Check, Build, Function, Stat, Eval, Pair}
use Rattle.commands.specs.declared.json.subject.JsonCommand.TheVariants.{Certify, Vectors}

abbrev pub command_name : JsonCommand → List ℕ
command_name Check = codes "check"
command_name Build = codes "build"
command_name Function = codes "function"
command_name Stat = codes "stat"
command_name Eval = codes "eval"
command_name Pair = codes "pair"
command_name Certify = codes "certify"
command_name Vectors = codes "vectors"
