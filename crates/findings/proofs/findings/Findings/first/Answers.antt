use Rattle.std.proofs.Common.{◌∙◌, ap}
use Rattle.findings.specs.Noted.{Noted, nothing_within}
use Rattle.findings.proofs.NotedLemmas.{first_over}
use Rattle.findings.proofs.findings.Findings.first.Goals as goal

pub returns : goal.returns
returns c all h = ap (λ (found : Noted). found.first) (c.self.view_is ∙ h) ∙ first_over (nothing_within 0) all
