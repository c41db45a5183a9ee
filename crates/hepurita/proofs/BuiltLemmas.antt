-- Refusals of the passes as judgements on programs and texts.
use Rattle.std.proofs.Common.{◌≡◌, inl, inr, ℕ, List, [], length, Some, sym, subst}
use Rattle.hepurita.specs.Below.{accepted, exported, FlatProgram, flattened, IsFirst, IsRefusedAs, IsRefusedByRanges}
use Rattle.hepurita.specs.Below.{IsRefusedFor, ProcedureTree, Profile, ProgramTree, Reads, Refusal, size_violations}
use Rattle.hepurita.specs.Below.{Violation, violations}
use Rattle.hepurita.specs.Built.{IsWellFormed, IsSmall, JudgesProgram, ill_typed, too_large, out_of_range}
use Rattle.hepurita.specs.Built.{too_much_work, unreadable, readable, IsRefusal}
use Rattle.hepurita.specs.Told.{IsRefusalOf, IsToldOfProgram, of_program, of_reading}
use Rattle.hepurita.proofs.GrammaticalExports.{HasGrammaticalExport, same_violations}

module _ (profile : Profile) where
  -- a refusal by the rules on names, types and labels
  pub refusal_of_types : (program : ProgramTree) (r : Refusal)
      → IsRefusedFor (violations profile program) r.rule r.place → IsRefusal (JudgesProgram profile program) r
  refusal_of_types program r (inl memory) = inl memory
  refusal_of_types program r (inr (first, is, rule, place)) =
      inr (first.place, place, rw rule (ill_typed is))

  -- the export as one body, where it passes no limit
  abbrev pub IsSmallFlat : ProgramTree → FlatProgram → Type 0
  IsSmallFlat program flat = (before : List ProcedureTree) × (export : ProcedureTree)
      × IsSmall profile program before export × (flat ≡ flattened profile before export)

  -- the same, without the rules on names, types and labels
  abbrev pub IsAllowedFlat : ProgramTree → FlatProgram → Type 0
  IsAllowedFlat program flat =
      (before : List ProcedureTree) × (export : ProcedureTree)
      × (exported [] program.procedures ≡ Some (before, export))
      × (length (size_violations before export) ≡ 0) × (flat ≡ flattened profile before export)

  pub small_flat : (program : ProgramTree) (flat : FlatProgram) → length (violations profile program) ≡ 0
      → IsAllowedFlat program flat → IsSmallFlat program flat
  small_flat program flat typed (before, export, is, sized, made) =
      (before, export, record { well_formed = record { typed = typed; is_export = is }; sized = sized }, made)

  -- what is refused for the export's size, or when out of memory
  abbrev pub IsLargeFor : ProgramTree → Refusal → Type 0
  IsLargeFor program r =
      (before : List ProcedureTree) × (export : ProcedureTree)
      × (exported [] program.procedures ≡ Some (before, export))
      × IsRefusedFor (size_violations before export) r.rule r.place

  pub refusal_of_export : (program : ProgramTree) (r : Refusal) → length (violations profile program) ≡ 0
      → IsLargeFor program r → IsRefusal (JudgesProgram profile program) r
  refusal_of_export program r typed (before, export, is, inl memory) = inl memory
  refusal_of_export program r typed (before, export, is, inr (first, earliest, rule, place)) =
      let well_formed : IsWellFormed profile program before export = record { typed = typed; is_export = is } in
      inr (first.place, place, rw rule (too_large well_formed earliest))

  -- a refusal by the ranges of indices and divisors, or by the limit on work
  pub refusal_of_ranges : (program : ProgramTree) (before : List ProcedureTree) (export : ProcedureTree)
      (flat : FlatProgram) (r : Refusal) → HasGrammaticalExport program → IsSmall profile program before export
      → flat ≡ flattened profile before export → IsRefusedByRanges flat r.rule r.place
      → IsRefusal (JudgesProgram profile program) r
  refusal_of_ranges program before export flat r plain small same (inl (inl memory)) = inl memory
  refusal_of_ranges program before export flat r plain small same (inl (inr (first, earliest, rule, place))) =
      inr (first.place, place, rw rule (out_of_range small (rw same at earliest)))
  refusal_of_ranges program before export flat r plain small same (inr (in_range, inl memory)) = inl memory
  refusal_of_ranges program before export flat r plain small same (inr (in_range, inr (first, earliest, rule, place))) =
      inr (
        first.place,
        place,
        rw rule (too_much_work small (rw same at in_range)
            (subst (λ (vs : List Violation). IsFirst vs first)
            (sym (same_violations profile program before export plain small)) (rw same at earliest))),
      )

  -- a refusal of the source as such
  pub refusal_of_source : (source : List ℕ) (r : Refusal) → IsRefusedAs (Reads source) r → IsRefusalOf profile source r
  refusal_of_source source r (inl memory) = inl memory
  refusal_of_source source r (inr (place, at, reads, plain)) =
      inr (place, at, unreadable reads, of_reading (inr (place, at, reads, plain)))

  -- a refusal of the program that the source is
  pub refusal_of_program : (source : List ℕ) (program : ProgramTree) (r : Refusal) → Reads source (accepted program)
      → IsRefusal (JudgesProgram profile program) r → IsToldOfProgram profile program r → IsRefusalOf profile source r
  refusal_of_program source program r reads (inl memory) told = inl memory
  refusal_of_program source program r reads (inr (place, at, judges)) told =
      inr (place, at, readable reads judges, of_program reads told)
