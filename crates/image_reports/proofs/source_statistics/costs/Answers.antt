use Rattle.std.proofs.Common.{[], IfSome, sym, subst, ◌≡◌, ap₂, ◌∙◌}
use Rattle.language.specs.declared.cost.Cost.{Cost}
use Rattle.image_reports.specs.Below.{cost_by, exported, program_tree, work_cost}
use Rattle.image_reports.proofs.source_statistics.costs.Goals as goal

pub push_sizes-requires : goal.push_sizes-requires
push_sizes-requires c =
    let counted = c.program_cost-work.ensures ∙ ap₂ cost_by c.iterations.ensures c.flat.ensures.flat in
    subst (λ (work : Cost). IfSome (exported [] (program_tree c.args.program.now).procedures)
    (λ export. work ≡ work_cost export.0 export.1)) (sym counted) c.requires
