use Rattle.std.proofs.Common.{◌∙◌, append-nil, drop, sym}
use Rattle.std.proofs.lemmas.List.{at_drop_all}
use Rattle.image_reports.specs.vectors.Spelled.{publics}
use Rattle.image_reports.proofs.vectors.given.publics.Goals as goal

pub returns : goal.returns
returns c =
    let l = c.loop-index in
    let left = drop l.index c.args.args.now in
    let none = at_drop_all (λ rest. publics rest left) c.args.params.now l.index c.loop-index-test.false in
    sym (append-nil l.given.items) ∙ rw none at l.invariant
