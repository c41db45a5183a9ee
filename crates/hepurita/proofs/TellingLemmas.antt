-- Refusals of the passes tell of the first violation of a program.
use Rattle.std.proofs.Common.{◌≡◌, inl, inr, List, [], length, Some, sym, subst}
use Rattle.hepurita.proofs.BuiltLemmas.{IsSmallFlat}
use Rattle.hepurita.proofs.GrammaticalExports.{HasGrammaticalExport, same_violations}
use Rattle.hepurita.specs.Built.{IsSmall}
use Rattle.hepurita.specs.Told.{IsToldOfProgram, of_sizes, of_ranges, of_work}
use Rattle.hepurita.specs.Below.{exported, FlatProgram, flattened, IsToldByRanges, IsToldOf, ProcedureTree, Profile}
use Rattle.hepurita.specs.Below.{ProgramTree, Refusal, size_violations, Violation, violations}

module _ (profile : Profile) where
  -- the export's size, or out of memory
  abbrev pub IsToldOfSize : ProgramTree → Refusal → Type 0
  IsToldOfSize program r =
      (before : List ProcedureTree) × (export : ProcedureTree)
      × (exported [] program.procedures ≡ Some (before, export)) × IsToldOf (size_violations before export) r

  pub told_of_size : (program : ProgramTree) (r : Refusal) → length (violations profile program) ≡ 0
      → IsToldOfSize program r → IsToldOfProgram profile program r
  told_of_size program r typed (before, export, is, told) =
      of_sizes (record { typed = typed; is_export = is }) told

  -- ranges, or the work
  pub told_of_ranges : (program : ProgramTree) (flat : FlatProgram) (r : Refusal) → HasGrammaticalExport program
      → IsSmallFlat profile program flat → IsToldByRanges flat r → IsToldOfProgram profile program r
  told_of_ranges program flat r plain (before, export, small, same) (inl told) =
      of_ranges small (rw same at told)
  told_of_ranges program flat r plain (before, export, small, same) (inr (in_range, told)) =
      of_work small (rw same at in_range)
      (subst (λ (vs : List Violation). IsToldOf vs r) (sym (same_violations profile program before export plain small))
      (rw same at told))
