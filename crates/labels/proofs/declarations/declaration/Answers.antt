use Rattle.std.proofs.Common.{◌≡◌, ◌∙◌, ap, is_some}
use Rattle.std.proofs.lemmas.List.Sums.{fold-append}
use Rattle.labels.specs.Below.{found, noted}
use Rattle.labels.proofs.declarations.declaration.Goals as goal

pub returns-clause-findings : goal.returns-clause-findings
returns-clause-findings c =
    let taken : c.in_ok-taken.taken ≡ is_some (found c.args.names.now c.args.declaration.now.name) =
    c.in_ok-taken.ensures.taken ∙ ap (λ text. is_some (found c.args.names.now text)) c.as_str.ensures in
    rw (c.note_declaration.ensures, taken, c.in_ok-given.ensures.typed, c.in_ok-given.ensures.findings)
    (simp (fold-append noted))
