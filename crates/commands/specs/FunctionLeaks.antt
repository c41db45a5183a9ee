-- What is printed of a run of a function of an executable in which all that is not set is as it stands at the start.
use Rattle.std.specs.Prelude.{◌≡◌, ℕ, List}
use Rattle.commands.specs.Below.{AskedRun, AskedWords, AsksFor, Executable, FunctionStop, Hidden, IsFunctionLeak}
use Rattle.commands.specs.Below.{RunOptions}
use Rattle.commands.specs.Contents.{Contents}
use Rattle.commands.specs.Executables.{HoldsExecutable}
use Rattle.commands.specs.Stops.{function_stop_status}
use Rattle.command_line.specs.declared.options.ObservedOptions.{ObservedOptions}

-- how runs are to be made one by one, as the options say
abbrev pub observed_run : ObservedOptions → RunOptions
observed_run options = record { profile = options.profile; shifts = Hidden; steps = options.steps }

-- the listing of the run of a function of the file's program, as the words ask, and the exit status of how it stops
pub record SaysFunctionLeak (files : Contents) (path : List ℕ) (words : AskedWords) (options : ObservedOptions)
    (text : List ℕ) (status : ℕ) : Type 0 where
  pub program : Executable
  pub asked : AskedRun
  pub stop : FunctionStop
  pub held : HoldsExecutable files path program
  pub as_said : AsksFor words asked
  pub listed : IsFunctionLeak program asked (observed_run options) stop text
  pub ended : status ≡ function_stop_status stop
