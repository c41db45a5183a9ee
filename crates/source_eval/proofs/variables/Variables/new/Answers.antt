use Rattle.std.proofs.Common.{ap}
use Rattle.std.proofs.Math.Path.{fun_ext}
use Rattle.std.specs.Map.{lookup}
use Rattle.std.specs.Option.{option_map}
use Rattle.std.specs.Str.{bytes_eq}
use Rattle.source_eval.specs.Views.{held, value_of}
use Rattle.source_eval.proofs.variables.Variables.new.Goals as goal

pub returns : goal.returns
unfolding held
returns c =
    fun_ext (λ text. ap (λ entries. option_map value_of (lookup (λ key. bytes_eq text key.now) entries))
    c.new.ensures.empty)
