-- What a program is refused for stands at a head of its tree, so its offset decides its line and its column.
use Rattle.std.proofs.Common.{◌≡◌, ℕ, Bool, true, false, List, [], ◌∷◌, ◌++◌, is_some, cond, Some, refl, ap, subst}
use Rattle.std.proofs.Common.{arith}
use Rattle.word.specs.Places.{origin}
use Rattle.hepurita.specs.Below.{accepted, exported, Place}
use Rattle.hepurita.specs.grammar_laws.Heads.{astray, in_procedure, in_procedures, in_program}
use Rattle.hepurita.specs.Below.{ProcedureTree, Profile, ProgramTree, Reads, Rule}
use Rattle.hepurita.proofs.grammar_laws_lemmas.HeadPlaces.{heads_in_place}
use Rattle.hepurita.proofs.grammar_laws_lemmas.Light.{light_of}
use Rattle.hepurita.proofs.grammar_laws_lemmas.ViolationPlaces.{sizes_light, violations_light}
use Rattle.hepurita.specs.Built.{IsWellFormed, JudgesProgram, refuses, ill_typed, too_large, out_of_range}
use Rattle.hepurita.specs.Built.{too_much_work}
use Rattle.hepurita.proofs.Exports.{Export, export_or, front_or}
use Rattle.hepurita.proofs.RangePlaces.{ranges_light, work_light}

module _ (w : Place → ℕ) where
  -- an exported procedure and those before it
  record AreLightBoth (before : List ProcedureTree) (p : ProcedureTree) : Type 0 where
    earlier : in_procedures w before ≡ 0
    export : in_procedure w p ≡ 0

  behind : (before : List ProcedureTree) (q : ProcedureTree) → in_procedures w before ≡ 0 → in_procedure w q ≡ 0
      → in_procedures w (before ++ q ∷ []) ≡ 0
  behind [] q h k = omega (arith, h, k)
  behind (p ∷ before) q h k =
      omega (arith, behind before q (omega arith) k)

  export_light : (before ps front : List ProcedureTree) (p : ProcedureTree) → exported before ps ≡ Some (front, p)
      → in_procedures w before ≡ 0 → in_procedures w ps ≡ 0 → AreLightBoth front p
  export_light before [] front p is k h = cc
  export_light before (q ∷ ps) front p is k h =
      by (is_some q.export) _ is
      (λ rest. export_light (before ++ q ∷ []) ps front p rest (behind before q k (omega (arith, h)))
      (omega (arith, h)))
    where
      by : (marked : Bool) (rest : Export) → cond {A = Export} marked (Some (before, q)) rest ≡ Some (front, p)
          → (rest ≡ Some (front, p) → AreLightBoth front p) → AreLightBoth front p
      by true rest found after = record {
        earlier = subst (λ (qs : List ProcedureTree). in_procedures w qs ≡ 0) (ap (front_or before) found) k;
        export = subst (λ (e : ProcedureTree). in_procedure w e ≡ 0) (ap (export_or q) found) (omega (arith, h));
      }
      by false rest found after = after found

  parts_light : (profile : Profile) (program : ProgramTree) (before : List ProcedureTree) (p : ProcedureTree)
      → IsWellFormed profile program before p → in_program w program ≡ 0 → AreLightBoth before p
  parts_light profile program before p is h = export_light [] program.procedures before p is.is_export refl h

  refused_light : (profile : Profile) (program : ProgramTree) (rule : Rule) (place : Place) → in_program w program ≡ 0
      → w origin ≡ 0 → JudgesProgram profile program (refuses rule place) → w place ≡ 0
  refused_light profile program rule place h at_origin (ill_typed earliest) =
      light_of (violations_light w profile program h at_origin) earliest.there
  refused_light profile program rule place h at_origin (too_large {before} {export} is earliest) =
      light_of (sizes_light w before export (parts_light profile program before export is h).export) earliest.there
  refused_light profile program rule place h at_origin (out_of_range {before} {export} small earliest) =
      let both = parts_light profile program before export small.well_formed h in
      light_of (ranges_light w profile before export both.earlier both.export) earliest.there
  refused_light profile program rule place h at_origin (too_much_work {before} {export} small in_range earliest) =
      light_of (work_light w before export (parts_light profile program before export small.well_formed h).export)
      earliest.there

pub refused_in_place : (profile : Profile) (source : List ℕ) (program : ProgramTree) (rule : Rule) (place : Place)
    → Reads source (accepted program) → JudgesProgram profile program (refuses rule place) → astray source place ≡ 0
refused_in_place profile source program rule place reads judges =
    refused_light (astray source) profile program rule place (heads_in_place source program reads) refl judges
