-- What refuses a source, and what its refusal tells: of a program the first violation, as it comes, of the pass that
-- refuses it, with why.
use Rattle.std.specs.Prelude.{◌≡◌, ◌⊎◌, ℕ, List, length, Some}
use Rattle.hepurita.specs.Built.{IsSmall, IsWellFormed, Judges, refuses}
use Rattle.hepurita.specs.Below.{accepted, flattened, IsRefusedAs, IsToldOf, IsWantOfMemory, Place, ProcedureTree}
use Rattle.hepurita.specs.Below.{Profile, ProgramTree, range_violations, Reads, Refusal, size_violations, violations}
use Rattle.hepurita.specs.source_work.SourceWork.{work_violations}

pub data IsToldOfProgram (profile : Profile) (program : ProgramTree) (refusal : Refusal) : Type 0 where
  -- a rule on names, types and labels
  of_types : IsToldOf (violations profile program) refusal → IsToldOfProgram profile program refusal
  -- a limit on size
  of_sizes : {before : List ProcedureTree} {export : ProcedureTree}
      → IsWellFormed profile program before export
      → IsToldOf (size_violations before export) refusal
      → IsToldOfProgram profile program refusal
  -- an index or a divisor
  of_ranges : {before : List ProcedureTree} {export : ProcedureTree}
      → IsSmall profile program before export
      → IsToldOf (range_violations (flattened profile before export)) refusal
      → IsToldOfProgram profile program refusal
  -- the work
  of_work : {before : List ProcedureTree} {export : ProcedureTree}
      → IsSmall profile program before export
      → length (range_violations (flattened profile before export)) ≡ 0
      → IsToldOf (work_violations before export) refusal
      → IsToldOfProgram profile program refusal

pub data IsToldOfSource (profile : Profile) (source : List ℕ) (refusal : Refusal) : Type 0 where
  -- it is no program
  of_reading : IsRefusedAs (Reads source) refusal → IsToldOfSource profile source refusal
  -- it is one
  of_program : {program : ProgramTree}
      → Reads source (accepted program)
      → IsToldOfProgram profile program refusal
      → IsToldOfSource profile source refusal

-- the refusal of the source, for an observer: it is out of memory, which has no place; or it has a place, is the
-- judgement, and tells why
abbrev pub IsRefusalOf : Profile → List ℕ → Refusal → Type 0
IsRefusalOf profile source refusal = IsWantOfMemory refusal.rule refusal.place
    ⊎ ((place : Place) × (refusal.place ≡ Some place) × Judges profile source (refuses refusal.rule place)
    × IsToldOfSource profile source refusal)
