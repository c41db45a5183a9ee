-- An accepted source's image is the export, compiled; and what the passes ask of its export.
use Rattle.std.proofs.Common.{◌≡◌, ℕ, ◌≤◌, inl, inr, nat_lt, List, length, map, sym, subst, ◌∙◌, arith}
use Rattle.std.proofs.lemmas.Bool.{cases_lt, lt-ltb}
use Rattle.hepurita.specs.Below.{accepted, AreWithin, Arg, because, Ending, Fields, FlatProgram, flattened, Gives}
use Rattle.hepurita.specs.Below.{gives, IsGenerated, IsRemoved, IsTypedFlat, most_work, outcome_of, param_of, Place}
use Rattle.hepurita.specs.Below.{ProcedureTree, Profile, ProgramTree, ranged, Reads, Results, StraightProgram}
use Rattle.hepurita.specs.Below.{TooMuchWork, iterations_of, when}
use Rattle.language.specs.declared.why.Why.{Why}
use Rattle.hepurita.proofs.Below.{flat_keeps_meaning, flat_is_typed, accepted_is_safe, safe_runs_meet_no_fault}
use Rattle.intervals.specs.Loose.{IsSafe}
use Rattle.hepurita.specs.Compiled.{Means, IsCompiled}
use Rattle.source_eval.proofs.WorkedOut.{worked-out}
use Rattle.hepurita.specs.Built.{IsSmall, JudgesProgram, accepts}
use Rattle.compilation.specs.Begun.{FollowsAnywhere}
use Rattle.compilation.specs.Needs.{Needs}
use Rattle.hepurita.specs.Linked.{StartsAnywhere}
use Rattle.hepurita.proofs.Compiler.{compiled, started}
use Rattle.hepurita.proofs.GrammaticalExports.{HasGrammaticalExport, grammatical_export, same_work}
use Rattle.hepurita.proofs.JudgementLemmas.{of_accepted}

-- where the limit on work is not passed, it is kept
pub within_work : (why : Why) (place : Place) (work : ℕ)
    → length (because why place (when (nat_lt most_work work) TooMuchWork)) ≡ 0
    → work ≤ most_work
within_work why place work none =
    elim (cases_lt most_work work) [
      | inl above ↦ (let some = rw (lt-ltb most_work work above) at none in absurd (omega arith))
      | inr within ↦ within
    ]

-- ---- an accepted program's export

module _ (profile : Profile) (program : ProgramTree) (before : List ProcedureTree) (export : ProcedureTree)
    (plain : HasGrammaticalExport program) (small : IsSmall profile program before export) where
  abbrev flat : FlatProgram
  flat = flattened profile before export

  pub flat_typed : IsTypedFlat flat
  flat_typed =
      let is = small.well_formed in
      let parts = plain before export is.is_export in
      flat_is_typed profile program before export is.typed is.is_export parts.0 parts.1

  -- the one meaning on arguments, where it is safe
  pub safe_means : IsSafe flat (iterations_of flat) → (args : List Arg) → AreWithin
      (map param_of export.parameters) args
      → Means program args (outcome_of flat args)
  safe_means safe args within =
      let is = small.well_formed in
      let parts = plain before export is.is_export in
      let given =
      subst (λ (e : Ending Results). Gives program args e)
      (safe_runs_meet_no_fault flat (iterations_of flat) args safe within)
      (flat_keeps_meaning profile program before export args is.typed is.is_export parts.0 parts.1 within) in
      record {
        given = given;
        alone = λ other is_other. sym (worked-out program args other is_other)
            ∙ worked-out program args (gives (outcome_of flat args)) given;
      }

-- ---- an accepted source's image

pub sources_compiled : (profile : Profile) (source : List ℕ) (program : ProgramTree) (before : List ProcedureTree)
    (export : ProcedureTree) (straight : StraightProgram) (image : Fields) → Reads source (accepted program)
    → JudgesProgram profile program (accepts program before export)
    → IsRemoved (ranged (flattened profile before export)) straight → IsGenerated straight image
    → IsCompiled program before export image
sources_compiled profile source program before export straight image reads judged removed generated =
    let plain = grammatical_export source program reads in
    let is = of_accepted profile program program before export judged in
    let safe = accepted_is_safe (flattened profile before export)
    (flat_typed profile program before export plain is.0) is.1 in
    compiled profile program before export straight image (safe_means profile program before export plain is.0 safe)
    (same_work profile program before export plain is.0) removed generated

pub sources_started : (profile : Profile) (source : List ℕ) (program : ProgramTree) (before : List ProcedureTree)
    (export : ProcedureTree) (straight : StraightProgram) (image : Fields) (needs : Needs)
    → Reads source (accepted program)
    → JudgesProgram profile program (accepts program before export)
    → IsRemoved (ranged (flattened profile before export)) straight → IsGenerated straight image
    → FollowsAnywhere straight image needs → StartsAnywhere program export image needs
sources_started profile source program before export straight image needs reads judged removed generated follows =
    let plain = grammatical_export source program reads in
    let is = of_accepted profile program program before export judged in
    let safe = accepted_is_safe (flattened profile before export)
    (flat_typed profile program before export plain is.0) is.1 in
    started profile program before export straight image (safe_means profile program before export plain is.0 safe)
    (same_work profile program before export plain is.0) removed generated needs follows
