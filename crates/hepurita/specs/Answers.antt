-- What `execute` and `pair` are to answer for the image of an accepted source.
use Rattle.std.specs.Prelude.{◌≡◌, ◌⊎◌, ℕ, List, Result, Ok, Err}
use Rattle.hepurita.specs.Below.{Arg, Fields, IsImage, Pairing, ProcedureTree, Profile, ProgramTree, RecorderRefused}
use Rattle.hepurita.specs.Below.{Results, Same, Spells}
use Rattle.hepurita.specs.declared.fault.RunFault.{RunFault}
use Rattle.hepurita.specs.declared.fault.RunFault.TheVariants.{Memory, Stopped}
use Rattle.hepurita.specs.Built.{Judges, accepts, IsBuilt}
use Rattle.hepurita.specs.Compiled.{Means}
use Rattle.compilation.specs.declared.optimised.Optimisation.{Optimisation}

-- a source that is accepted with this export, for an observer, and the plain or the optimised image that its bytes
-- spell
pub record Builds (optimisation : Optimisation) (profile : Profile) (source bytes : List ℕ) (program : ProgramTree)
    (before : List ProcedureTree) (export : ProcedureTree) (image : Fields) : Type 0 where
  pub built : IsBuilt optimisation profile source bytes
  pub judged : Judges profile source (accepts program before export)
  pub allowed : IsImage image
  pub spelled : Spells bytes image

-- the one outcome that the program gives, which meets no fault; or memory was refused, or the recorder refused
abbrev pub IsTheOutcome : ProgramTree → List Arg → Result Results RunFault → Type 0
IsTheOutcome program args (Ok outcome) = Means program args outcome
IsTheOutcome program args (Err fault) = (fault ≡ Memory) ⊎ (fault ≡ Stopped RecorderRefused)

-- `same`; or memory was refused
abbrev pub IsSame : Result Pairing RunFault → Type 0
IsSame (Ok pairing) = pairing ≡ Same
IsSame (Err fault) = fault ≡ Memory
