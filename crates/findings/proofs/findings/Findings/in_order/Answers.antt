use Rattle.std.proofs.Common.{◌≡◌, ◌∙◌, ap, arith}
use Rattle.findings.specs.Noted.{Noted, nothing_within}
use Rattle.findings.proofs.NotedLemmas.{kept_over}
use Rattle.std.proofs.Common.{length}
use Rattle.findings.proofs.findings.Findings.in_order.Goals as goal

pub returns : goal.returns
returns c all h =
    let is : c.self.inside.kept.items ≡ all =
    ap (λ (found : Noted). found.kept) (c.self.view_is ∙ h)
    ∙ kept_over (nothing_within (length all)) all (omega arith) in
    rw is at c.in_order.ensures
