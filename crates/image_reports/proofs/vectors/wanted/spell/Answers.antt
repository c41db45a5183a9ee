use Rattle.std.proofs.Common.{arith, refl}
use Rattle.std.proofs.lemmas.List.{drop_all}
use Rattle.image_reports.proofs.vectors.wanted.spell.Goals as goal

pub returns : goal.returns
returns c =
    let l = c.loop-index in
    let texts = drop_all l.index c.args.texts.now c.loop-index-test.false in
    let lists = drop_all l.index c.args.lists.now (omega (arith, c.loop-index-test.false, c.if-texts-lists.false)) in
    (λ _. l.invariant.1 (rw (texts, lists) refl), λ _. refl)
