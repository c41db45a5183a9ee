use Rattle.std.proofs.Common.{◌≡◌, ◌+◌, ◌∷◌, drop, map, sym, ap, ◌∙◌, refl}
use Rattle.std.proofs.lemmas.List.{at_drop_all, drop_more}
use Rattle.inline.specs.declared.flat.Term.{Term}
use Rattle.straight_words.specs.Below.{term_tree}
use Rattle.straight_words.proofs.live_words.terms.read_all.Goals as goal

pub loop-term-preserved : goal.loop-term-preserved
loop-term-preserved c =
    let l = c.loop-term in
    let terms = c.args.terms.now in
    let term = c.term-item.result in
    let here : drop l.term-index terms ≡ term ∷ drop (l.term-index + 1) terms =
    drop_more terms l.term-index term c.loop-term-test.true
    ∙ ap (λ (e : Term). e ∷ drop (l.term-index + 1) terms) (sym c.term-item.is) in
    rw (c.read.ensures, ← l.invariant, here) refl

pub returns : goal.returns
returns c =
    let l = c.loop-term in
    let none = at_drop_all (map term_tree) c.args.terms.now l.term-index c.loop-term-test.false in
    rw (← l.invariant, none) refl
