use Rattle.std.proofs.Common.{◌≡◌, ◌∙◌, ap, length, arith, ◌<◌, ◌-◌, ◌^◌, fold}
use Rattle.findings.specs.Noted.{noted, Noted, nothing_within}
use Rattle.findings.proofs.NotedLemmas.{count_over}
use Rattle.findings.proofs.findings.Findings.again.Goals as goal

pub returns-then-self-lt18446744073709551615 : goal.returns-then-self-lt18446744073709551615
returns-then-self-lt18446744073709551615 c all h =
    let is = ap (λ (found : Noted). found.count) (c.self.view_is ∙ h) in
    let below : (fold noted (nothing_within 0) all).count < 2 ^ 64 - 1 = omega (arith, is, c.if-self-lt18446744073709551615.true) in
    let counted = count_over (nothing_within 0) all below in
    let many : c.self.inside.count ≡ length all = omega (arith, is, counted) in
    rw many at c.within.ensures
