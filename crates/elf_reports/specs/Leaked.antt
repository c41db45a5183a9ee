-- What is answered where the run of a function is to be listed, and which bytes are its listing.
use Rattle.std.specs.Prelude.{◌≡◌, ℕ, List, ◌++◌, codes, None, Result, Ok, Err}
use Rattle.elf_reports.specs.Below.{Asked, Executable, first_unmet, function_stop, FunctionStop, IsTold, lines_of}
use Rattle.elf_reports.specs.Below.{needs, Observation, RunOptions, RunsUncut, StartFault, State, state_at_start, Stop}
use Rattle.elf_reports.specs.Below.{stop_name}
use Rattle.elf_reports.specs.declared.leaking.FunctionLeakFault.{FunctionLeakFault}
use Rattle.elf_reports.specs.declared.leaking.FunctionLeakFault.TheVariants.{Start, Write}

-- the line of how a function's run stops
abbrev pub end_line : FunctionStop → List ℕ
end_line how = codes "stop " ++ stop_name how ++ codes "\n"

-- the function's run in which each bit that is not known is as it stands when it begins shows this and stops so
abbrev pub FunctionEnds : Executable → Asked → RunOptions → List Observation → FunctionStop → Type 0
FunctionEnds program asked options seen how =
    (stop : Stop) × (end : State) × RunsUncut program asked options (state_at_start program asked) seen stop end
    × (how ≡ function_stop stop end.pc)

-- these bytes are the listing of that run, which stops so
abbrev pub IsFunctionLeak : Executable → Asked → RunOptions → FunctionStop → List ℕ → Type 0
IsFunctionLeak program asked options how bytes =
    (seen : List Observation) × FunctionEnds program asked options seen how × (bytes ≡ lines_of seen ++ end_line how)

-- what is answered: the request is refused by what it does not meet first, or memory was wanting; else it is how the
-- run stops, or the sink failed
pub data LeaksFunction (program : Executable) (asked : Asked) (options : RunOptions)
    : Result FunctionStop FunctionLeakFault → Type 0 where
  refused : {fault : StartFault} → IsTold fault (needs program asked)
      → LeaksFunction program asked options (Err (Start fault))
  cut_off : first_unmet (needs program asked) ≡ None → LeaksFunction program asked options (Err Write)
  ran : {seen : List Observation} {how : FunctionStop} → first_unmet (needs program asked) ≡ None
      → FunctionEnds program asked options seen how → LeaksFunction program asked options (Ok how)
