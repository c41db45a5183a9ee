-- All that a source violates of the rules that the pass asks that refuses it.
use Rattle.std.specs.Prelude.{◌≡◌, ◌<◌, ℕ, List, [], ◌∷◌, length}
use Rattle.hepurita.specs.Below.{accepted, AreInOrder, first_found, flattened, Place, Plain, ProcedureTree, Profile}
use Rattle.hepurita.specs.Below.{ProgramTree, range_violations, Reads, refused, Rule, size_violations, Violation}
use Rattle.hepurita.specs.Below.{violations}
use Rattle.hepurita.specs.Built.{IsSmall, IsWellFormed}
use Rattle.hepurita.specs.source_work.SourceWork.{work_violations}

-- of a program: rules on names, types and labels; or else limits on size; or else ranges, or else the limit on work
pub data ViolatesAsProgram (profile : Profile) (program : ProgramTree) : List Violation → Type 0 where
  by_types : 0 < length (violations profile program) → ViolatesAsProgram profile program (violations profile program)
  by_size : {before : List ProcedureTree} {export : ProcedureTree} → IsWellFormed profile program before export
      → 0 < length (size_violations before export) → ViolatesAsProgram profile program (size_violations before export)
  by_ranges : {before : List ProcedureTree} {export : ProcedureTree} → IsSmall profile program before export
      → ViolatesAsProgram profile program
      (first_found (range_violations (flattened profile before export)) (work_violations before export))

-- these are what a program violates, in their order
pub record ListsProgram (profile : Profile) (program : ProgramTree) (found : List Violation) : Type 0 where
  pub all : List Violation
  pub violated : ViolatesAsProgram profile program all
  pub order : AreInOrder all found

-- these are what a source violates, for an observer, in their order
pub data ListsViolations (profile : Profile) (source : List ℕ) (found : List Violation) : Type 0 where
  -- it is no program: this alone
  lists_refusal : {rule : Rule} {place : Place} → Reads source (refused rule place)
      → found ≡ record { place = place; rule = rule; why = Plain } ∷ [] → ListsViolations profile source found
  -- it is one
  lists_program : {program : ProgramTree} → Reads source (accepted program) → ListsProgram profile program found
      → ListsViolations profile source found
