-- The exported procedure and those before it are the program's.
use Rattle.std.proofs.Common.{◌≡◌, List, [], length, Option, None, Some, ap, sym, subst, ◌∙◌}
use Rattle.std.proofs.ByRecursion.{All-get_or, All-take}
use Rattle.std.proofs.lemmas.Option.{get_or_from_slice_get, same_Some, slice_get_within}
use Rattle.std.specs.List.{AllByRecursion}
use Rattle.hepurita.proofs.Below.{export_at}
use Rattle.labels.specs.Exports.{export_index}
use Rattle.hepurita.specs.Below.{exported, ProcedureTree}

-- the exported procedure, and those before it, if there is one
abbrev pub Export : Type 0
Export = Option (List ProcedureTree × ProcedureTree)

-- the procedure of an export, or this one
abbrev pub export_or : ProcedureTree → Export → ProcedureTree
export_or q None = q
export_or q (Some both) = both.1

-- the procedures before an export, or these
abbrev pub front_or : List ProcedureTree → Export → List ProcedureTree
front_or qs None = qs
front_or qs (Some both) = both.0

-- what holds of all procedures of a program holds of its export, and of all before it
pub of_export : (P : ProcedureTree → Type 0) (ps front : List ProcedureTree) (p : ProcedureTree)
    → exported [] ps ≡ Some (front, p) → AllByRecursion P ps → AllByRecursion P front × P p
of_export P ps front p is all =
    let at = export_at ps (length front) (ap export_index is) in
    let same = same_Some _ _ (sym at.2 ∙ is) in
    let there = subst P (get_or_from_slice_get ps (length front) at.0 at.0 at.1)
    (All-get_or P ps (length front) at.0 (slice_get_within ps (length front) at.0 at.1) all) in (
      subst (AllByRecursion P) (ap (λ both. both.0) same) (All-take P (length front) ps all),
      subst P (ap (λ both. both.1) same) there,
    )
