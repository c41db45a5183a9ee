-- What a program means on arguments.
use Rattle.std.specs.Prelude.{◌≡◌, List}
use Rattle.hepurita.specs.Below.{Arg, Ending, Gives, gives, ProgramTree, Results}

-- on these arguments the program gives these results, and nothing else: it meets no fault
pub record Means (program : ProgramTree) (args : List Arg) (results : Results) : Type 0 where
  pub given : Gives program args (gives results)
  pub alone : (other : Ending Results) → Gives program args other → other ≡ gives results
