use Rattle.std.proofs.Common.{map, length, ◌≡◌, subst, sym}
use Rattle.inline.proofs.FlatPrograms.{flat_is_typed}
use Rattle.inline.proofs.FlatSizes.{flat_is_sized}
use Rattle.inline.proofs.inlining.inline.Goals as goal
use Rattle.inline.specs.Below.{procedure_tree, program_tree, violations}

pub flat_of-requires : goal.flat_of-requires
flat_of-requires c =
    let checked = c.args.checked.now in
    let program = program_tree checked.program.now in
    let before = map procedure_tree c.export.result.0.now in
    let p = procedure_tree c.export.result.1.now in
    let is = c.export.ensures in
    let profile = c.profile.result in
    let well_typed = subst (λ seen. length (violations seen program) ≡ 0) (sym c.profile.ensures)
    checked.well_typed in
    λ small. record {
      typed = flat_is_typed profile program before p well_typed is.exported is.earlier is.grammatical;
      sized = flat_is_sized profile program before p well_typed is.exported is.earlier is.grammatical small;
    }
