-- The laws: the work of the export's source, and of its parts, is that of its one body with numbered variables.
use Rattle.std.proofs.Common.{◌≡◌, ◌-◌, List, [], ◌++◌, length, map, replicate, None, Some, refl, sym, ap, ap₂, arith}
use Rattle.std.proofs.Common.{subst, ◌∙◌}
use Rattle.std.proofs.Common.{length-append}
use Rattle.std.proofs.lemmas.List.{length-map, length-replicate}
use Rattle.std.specs.List.{AllByRecursion}
use Rattle.hepurita.specs.Below.{block, bound_of, Callables, callables, declared_in_all, exported, first_bounds}
use Rattle.hepurita.specs.Below.{flattened, IsGrammatical, parameter_types, ProcedureTree, Profile, ProgramTree}
use Rattle.hepurita.specs.Below.{Bounds, cost_by, cost_of, return_names, shares_by, stretch_shares, stretches}
use Rattle.hepurita.specs.Below.{iterations_of, violations, with_procedure, work_of}
use Rattle.hepurita.proofs.source_work_lemmas.Below.{AllCounted, callable_parameters, earlier_within, IsAt}
use Rattle.hepurita.proofs.source_work_lemmas.Below.{same_result, flat_is_typed, own_typing, enough_all}
use Rattle.language.specs.declared.signature.Label.TheVariants.{Public}
use Rattle.hepurita.specs.source_work.SourceWork.{export_start, export_variables, source_work, work_cost}
use Rattle.hepurita.specs.source_work.SourceWork.{work_shares}
use Rattle.hepurita.proofs.source_work_lemmas.Parts.{parts_summed, value_shared}
use Rattle.hepurita.proofs.source_work_lemmas.Sums.{Summed, numbered_alike, summed_one}
use Rattle.hepurita.proofs.source_work_lemmas.Walked.{body_walked, walked_all}

export_summed : (profile : Profile) (program : ProgramTree) (before : List ProcedureTree)
    (p : ProcedureTree) → length (violations profile program) ≡ 0
    → exported [] program.procedures ≡ Some (before, p) → AllByRecursion IsGrammatical before → IsGrammatical p
    → (source_work before p ≡ work_of (flattened profile before p))
    × (work_shares before p ≡ shares_by (iterations_of (flattened profile before p)) (flattened profile before p))
export_summed profile program before p h is earlier plain =
    let whole = flattened profile before p in
    let declared = export_variables before p in
    let e = own_typing (Summed declared) IsGrammatical
    (λ before at p stand typed plain. summed_one declared before at p stand typed) profile program before p h
    is earlier in
    let body = summed_one declared before e.scope p e.stand e.typed in
    let start = export_start before p in
    let typed = flat_is_typed profile program before p h is earlier plain in
    let counted = enough_all declared (iterations_of whole) whole.body (parameter_types profile whole.parameters) Public
    (length whole.parameters) (first_bounds whole) (replicate (length declared) 0) typed.body typed.numbered
    (length-replicate (length declared) 0) (λ y low high. refl) in
    let one = body_walked declared (iterations_of whole) whole.body (first_bounds whole) counted in
    let later : length declared - length whole.parameters ≡ length (declared_in_all (callables before) p.body) =
    simp (length-append, length-map) (omega arith) in
    let bounds : first_bounds whole ≡ start.bounds =
    ap (λ k. map bound_of whole.parameters ++ replicate k None) later in
    let alike = ap₂ (λ b (known : Callables). walked_all declared b (block known start.names start.next p.body))
    bounds (sym (numbered_alike declared before)) in
    let summed = body.work start in
    let value = same_result (return_names (callables before) p) p.returned in
    let inside = callable_parameters before (IsAt e.scope) p.parameters (with_procedure e.scope (length before) p)
    (earlier_within (Summed declared) before e.scope e.stand p e.typed.is_new) in
    let counted_there = subst (λ (known : Callables).
    AllCounted declared (iterations_of whole) start.bounds (block known start.names start.next p.body))
    (sym (numbered_alike declared before))
    (subst (λ (b : Bounds). AllCounted declared (iterations_of whole) b whole.body) bounds counted) in
    let parts = parts_summed declared (iterations_of whole) before e.scope e.stand e.typed.body inside start
    counted_there
    ∙ ap (λ (known : Callables). stretch_shares (iterations_of whole) (stretches known start.names start.next p.body)
    (block known start.names start.next p.body)) (numbered_alike declared before) in (
      omega (arith, one, alike, summed, value),
      ap₂ ◌++◌ parts (value_shared (return_names (callables before) p) p.returned),
    )

pub work_is_that_of_the_body : (profile : Profile) (program : ProgramTree) (before : List ProcedureTree)
    (p : ProcedureTree) → length (violations profile program) ≡ 0
    → exported [] program.procedures ≡ Some (before, p) → AllByRecursion IsGrammatical before → IsGrammatical p
    → source_work before p ≡ work_of (flattened profile before p)
work_is_that_of_the_body profile program before p h is earlier plain =
    (export_summed profile program before p h is earlier plain).0

-- what is counted of it, and the part that has most
pub cost_is_that_of_the_body : (profile : Profile) (program : ProgramTree) (before : List ProcedureTree)
    (p : ProcedureTree) → length (violations profile program) ≡ 0
    → exported [] program.procedures ≡ Some (before, p) → AllByRecursion IsGrammatical before → IsGrammatical p
    → work_cost before p ≡ cost_by (iterations_of (flattened profile before p)) (flattened profile before p)
cost_is_that_of_the_body profile program before p h is earlier plain =
    let both = export_summed profile program before p h is earlier plain in
    ap₂ cost_of both.0 both.1
