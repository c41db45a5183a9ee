-- What a source is up to the passes on size.
use Rattle.std.specs.Prelude.{◌≡◌, ℕ, List}
use Rattle.hepurita.specs.Built.{IsSmall}
use Rattle.hepurita.specs.declared.flattening.Flattened.{Flattened}
use Rattle.hepurita.specs.Below.{accepted, flattened, ProcedureTree, Profile, program_tree, Reads}

-- the source is this program, and the body is its export with the bodies that it calls, which passes no limit on size
pub record IsFlattened (profile : Profile) (source : List ℕ) (made : Flattened) : Type 0 where
  pub before : List ProcedureTree
  pub export : ProcedureTree
  pub read : Reads source (accepted (program_tree made.program))
  pub small : IsSmall profile (program_tree made.program) before export
  pub body : made.flat ≡ flattened profile before export
