use Rattle.std.proofs.Common.{◌≡◌, ℕ, suc, ◌+◌, ◌-◌, List, map, drop, refl, ap, ◌∙◌, arith}
use Rattle.std.proofs.lemmas.List.{drop-map, drop-drop}
use Rattle.inline.specs.declared.flat.Term.{Term}
use Rattle.straight_words.specs.Below.{term_tree}
use Rattle.branch_removal.proofs.StatementTrees.{chain-assoc, chain-nothing}
use Rattle.straight_words.specs.element_words.private.Parts.{Parts}
use Rattle.straight_words.specs.element_words.private.Splitting.{split}
use Rattle.straight_words.proofs.element_words.statements.push_words.Goals as goal

values_left : (parts : Parts) (values : List Term) (k : ℕ)
    → drop 1 (map (split parts) (map term_tree (drop k values)))
    ≡ map (split parts) (map term_tree (drop (k + 1) values))
values_left parts values k =
    drop-map (split parts) 1 (map term_tree (drop k values))
    ∙ ap (map (split parts)) (drop-map term_tree 1 (drop k values) ∙ ap (map term_tree) (drop-drop 1 k values))

pub loop-k-preserved : goal.loop-k-preserved
loop-k-preserved c =
    let part = c.args.part in
    let k = c.loop-k.k in
    let left : part.size - k ≡ suc (part.size - (k + 1)) = omega (arith, c.loop-k-test.true) in
    let word : part.base + (k + 1) ≡ part.base + k + 1 = omega arith in
    rw (
      c.in_ok-push.ensures,
      c.from.ensures,
      c.from-in-loop-k.ensures,
      c.in_ok-value.ensures,
      chain-assoc,
      ← c.loop-k.invariant,
      left,
      word,
      values_left c.args.parts.now.arrays.items c.args.values.now k,
    ) refl

pub returns : goal.returns
returns c =
    let none : c.args.part.size - c.loop-k.k ≡ 0 = omega (arith, c.loop-k-test.false) in
    rw (← c.loop-k.invariant, none, chain-nothing) refl
