use Rattle.std.proofs.Common.{ap, subst, ◌∙◌, ◌≡◌, List, [], ◌++◌, inl, IfOk, IfSome, Option, sym}
use Rattle.std.proofs.lemmas.Result.{IfOk-weaker, IfErr-weaker}
use Rattle.std.specs.String.{string_bytes}
use Rattle.image_reports.specs.Below.{code_for, cost_by, exported, flattened, image_for, ProcedureTree}
use Rattle.image_reports.specs.Below.{program_tree, ranged, RangedProgram, straight_of, work_cost}
use Rattle.language.proofs.Handed.{handed_on}
use Rattle.image_reports.proofs.source_statistics_lemmas.Below.{grammatical_export, same_cost}
use Rattle.image_reports.specs.source_places.Placed.{numbered_of}
use Rattle.image_reports.specs.source_statistics.SourceText.{costs_text, export_lines}
use Rattle.image_reports.proofs.source_statistics.source_statistics.Goals as goal

pub returns-in_err-ranged-clause-refused : goal.returns-in_err-ranged-clause-refused
returns-in_err-ranged-clause-refused c =
    handed_on _ _ c.from_residual-in_err-ranged.ensures.1
    (c.in_err-ranged.ensures.refused c.args.profile c.args.source.now c.in_ok-flattened.ensures.accepted)

pub returns-clause-refused : goal.returns-clause-refused
returns-clause-refused c = IfErr-weaker c.costs.result _ _ (λ refusal none. inl none) c.costs.ensures.memory

pub returns-clause-said : goal.returns-clause-said
unfolding image_for
returns-clause-said c =
    let is = c.in_ok-flattened.ensures.accepted in
    let counted = c.in_ok-ranged.ensures.accepted c.args.profile c.args.source.now is in
    let program = program_tree c.in_ok-flattened.flattened.program in
    let body = ranged (flattened c.args.profile is.before is.export) in
    let by_body =
    subst (λ (r : RangedProgram). IfOk c.costs.result
    (λ text. string_bytes text ≡ costs_text r (code_for c.args.optimisation (straight_of r))
    ++ export_lines (numbered_of c.args.libraries.now) (exported [] program.procedures))) counted.0 c.costs.ensures.said in
    let printed =
    subst (λ (o : Option (List ProcedureTree × ProcedureTree)).
    IfOk c.costs.result (λ text. string_bytes text ≡ costs_text body (code_for c.args.optimisation (straight_of body))
    ++ export_lines (numbered_of c.args.libraries.now) o)) is.small.well_formed.is_export by_body in
    IfOk-weaker c.costs.result _ _ (λ text exact. record {
      program = program;
      before = is.before;
      export = is.export;
      judged = counted.1;
      printed = exact;
    }) printed

pub costs-requires : goal.costs-requires
costs-requires c =
    let is = c.in_ok-flattened.ensures.accepted in
    let counted = c.in_ok-ranged.ensures.accepted c.args.profile c.args.source.now is in
    let program = program_tree c.in_ok-flattened.flattened.program in
    let plain = grammatical_export c.args.source.now program is.read in
    let same = ap (λ (r : RangedProgram). cost_by r.iterations r.flat) counted.0 in
    subst (λ (o : Option (List ProcedureTree × ProcedureTree)).
    IfSome o (λ export. cost_by c.in_ok-ranged.ranged.iterations c.in_ok-ranged.ranged.flat
    ≡ work_cost export.0 export.1))
    (sym is.small.well_formed.is_export)
    (same ∙ sym (same_cost c.args.profile program is.before is.export plain is.small))
