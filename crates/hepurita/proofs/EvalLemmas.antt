-- What `eval` answers for an accepted source: its one outcome.
use Rattle.std.proofs.Common.{◌≡◌, ℕ, ◌≤◌, List, map, None, Ok, ap, subst, ◌∙◌}
use Rattle.hepurita.specs.Below.{answer, AreWithin, Arg, extents_of, fault_of, flattened, found_params, judged_answer}
use Rattle.hepurita.specs.Below.{most_work, outcome_of, Param, param_of, ProcedureTree, Profile, ProgramTree, Results}
use Rattle.hepurita.specs.source_work.SourceWork.{source_work, work_excess}
use Rattle.language.specs.declared.why.Why.TheVariants.{TooMuch}
use Rattle.hepurita.proofs.Below.{accepted_is_safe, few_of}
use Rattle.language.specs.Evaluation.{program_run}
use Rattle.hepurita.proofs.run_bounds_lemmas.Answered.{answered}
use Rattle.source_eval.specs.Answer.{params_of}
use Rattle.hepurita.specs.Built.{Judges, accepts, readable, fine}
use Rattle.hepurita.specs.Compiled.{Means}
use Rattle.hepurita.proofs.AnswerLemmas.{Faultless}
use Rattle.hepurita.proofs.TheoremLemmas.{flat_typed, safe_means, within_work}
use Rattle.hepurita.proofs.GrammaticalExports.{grammatical_export, same_work}

-- arguments without a fault are answered by the run
judged : (program : ProgramTree) (args : List Arg) (budget : ℕ) (params : List Param) → params_of program ≡ params
    → fault_of params args ≡ None
    → answer program args budget ≡ judged_answer None (program_run program args) budget
judged program args budget params same none =
    rw (same, none)

pub evaluated : Faultless
    → (profile : Profile) (source : List ℕ) (program : ProgramTree) (before : List ProcedureTree)
    (export : ProcedureTree) (args : List Arg) (budget : ℕ) → Judges profile source (accepts program before export)
    → AreWithin (map param_of export.parameters) args → most_work ≤ budget
    → (results : Results) × Means program args results × (answer program args budget ≡ Ok results)
evaluated faultless profile source program before export args budget (readable reads (fine small in_range in_time))
    within enough =
    let plain = grammatical_export source program reads in
    let is = small.well_formed in
    let parts = plain before export is.is_export in
    let flat = flattened profile before export in
    let typed = flat_typed profile program before export plain small in
    let safe = accepted_is_safe flat typed in_range in
    let work = subst (λ n. n ≤ most_work) (same_work profile program before export plain small)
    (within_work (TooMuch (work_excess before export)) export.place (source_work before export) in_time) in
    let params = map param_of export.parameters in
    let run = answered profile program before export args budget is.typed is.is_export parts.0 parts.1 typed
    (few_of (extents_of before) export small.sized).bodies in_range work within enough in (
      outcome_of flat args,
      safe_means profile program before export plain small safe args within,
      judged program args budget params (ap found_params is.is_export) ((faultless params args).1 within) ∙ run,
    )
