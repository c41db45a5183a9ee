use Rattle.std.proofs.Common.{◌≡◌, ◌+◌, ◌++◌, [], ◌∷◌, take, sym, ap, ◌∙◌, refl}
use Rattle.std.proofs.lemmas.List.{map_push, take_more}
use Rattle.inline.specs.declared.flat.Term.{Term}
use Rattle.straight_words.specs.Below.{term_tree}
use Rattle.straight_words.specs.private.Rewriting.{rewritten}
use Rattle.straight_words.proofs.rewriting.terms.all_rewritten.Goals as goal

pub loop-term-preserved : goal.loop-term-preserved
loop-term-preserved g c =
    let l = c.loop-term in
    let terms = c.args.terms.now in
    let term = c.term-item.result in
    let more : take (l.term-index + 1) terms ≡ take l.term-index terms ++ term ∷ [] =
    take_more terms l.term-index term c.loop-term-test.true
    ∙ ap (λ (e : Term). take l.term-index terms ++ e ∷ []) (sym c.term-item.is) in
    rw (
      c.in_ok-push.ensures.items,
      map_push term_tree l.made.items,
      l.invariant,
      c.in_ok-rewritten.ensures,
      more,
      map_push term_tree (take l.term-index terms),
      map_push (rewritten (g.R.Rewriting.rule c.args.rewriting.now)),
    ) refl
