use Rattle.std.proofs.Common.{◌≡◌, ◌∙◌, ap, is_some, Some}
use Rattle.std.proofs.lemmas.List.Sums.{fold-append}
use Rattle.labels.specs.Below.{found, noted, typed_of_all, written}
use Rattle.labels.specs.private.Written.{values_tree}
use Rattle.labels.proofs.declarations.array.Goals as goal

pub returns-in-Some-clause-findings : goal.returns-in-Some-clause-findings
returns-in-Some-clause-findings c =
    let taken : c.in_ok-taken.taken ≡ is_some (found c.args.names.now c.args.array.now.name) =
    c.in_ok-taken.ensures.taken ∙ ap (λ text. is_some (found c.args.names.now text)) c.as_str.ensures in
    let typed : Some c.in-Some.types.items ≡ typed_of_all c.args.names.now (written (values_tree c.args.array.now.values)) =
    rw c.in-Some.is at c.in_ok-types.ensures.typed in
    rw (c.note_array.ensures, c.as_slice.ensures.value, taken, ← typed, c.in_ok-types.ensures.findings)
    (simp (fold-append noted))
