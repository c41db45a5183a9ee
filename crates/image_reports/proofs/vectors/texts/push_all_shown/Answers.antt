use Rattle.std.proofs.Common.{◌∙◌, append-nil, drop, map, sym}
use Rattle.std.specs.String.{string_bytes}
use Rattle.std.proofs.lemmas.List.{at_drop_all}
use Rattle.image_reports.specs.vectors.Texts.{all_shown}
use Rattle.image_reports.proofs.vectors.texts.push_all_shown.Goals as goal

pub returns : goal.returns
returns c =
    let l = c.loop-index in
    let left = map (λ text. text.now) (drop l.index c.args.wanted.now) in
    let none = at_drop_all (all_shown left) c.args.lists.now l.index c.loop-index-test.false in
    sym (append-nil (string_bytes l.text)) ∙ rw none at l.invariant
