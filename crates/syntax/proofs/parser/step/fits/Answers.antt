use Rattle.std.proofs.Common.{rules, ◌≡◌, ◌↔◌, true}
use Rattle.syntax.proofs.MachineKinds.{fits-equal}
use Rattle.syntax.proofs.parser.step.fits.Goals as goal

pub returns : goal.returns
returns c =
    let equal : (c.eq.result ≡ true) ↔ (c.args.wanted ≡ c.args.kind) = search rules in
    fits-equal c.args.wanted c.args.kind c.eq.result equal
