use Rattle.std.proofs.Common.{IfSome, Option, List, sym, ap, subst, ◌≡◌, ◌∙◌}
use Rattle.std.specs.Option.{option_map}
use Rattle.image_reports.specs.Below.{ProcedureTree, work_cost}
use Rattle.image_reports.proofs.source_statistics.sizes.push_sizes.Goals as goal

pub push_export-requires : goal.push_export-requires
push_export-requires c =
    let is = sym c.exported.ensures ∙ ap (option_map _) c.in-Some.is in
    subst (λ (o : Option (List ProcedureTree × ProcedureTree)).
    IfSome o (λ export. c.args.work ≡ work_cost export.0 export.1)) is c.requires
