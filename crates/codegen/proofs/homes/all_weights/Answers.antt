use Rattle.std.proofs.Common.{◌≡◌, ℕ, suc, ◌+◌, ◌-◌, ◌<◌, ◌++◌, List, [], ◌∷◌, length, ap, ap₂, ◌∙◌, arith, append_assoc}
use Rattle.std.proofs.Common.{min, slice_index}
use Rattle.codegen.specs.private.Uses.{word_weights_of}
use Rattle.codegen.proofs.Language.{FlatVariable}
use Rattle.codegen.specs.private.MirrorUses.{mirror_weight, mirror_weights_from, Uses, uses_of}
use Rattle.codegen.proofs.homes.all_weights.Goals as goal

-- one more weight
one_more : (uses : Uses) (words : List ℕ) (count x weight : ℕ) (old new : List ℕ) → x < count
    → weight ≡ min (mirror_weight uses x) (slice_index words x)
    → new ≡ old ++ weight ∷ [] → new ++ mirror_weights_from uses words (x + 1) (count - (x + 1))
    ≡ old ++ mirror_weights_from uses words x (count - x)
one_more uses words count x weight old new less is pushed =
    let more : count - x ≡ suc (count - (x + 1)) = omega (arith, less) in
    rw (pushed, is, more, append_assoc)

pub loop-variable-preserved : goal.loop-variable-preserved
loop-variable-preserved c =
    let p = c.args.straight.now in
    let l = c.loop-variable in
    let less : l.variable < length p.declared =
    omega (
      arith,
      c.loop-variable-test.true,
      ap (λ (ds : List FlatVariable). length ds) c.declared-variable-end.ensures,
    ) in
    let listed : c.as_slice-in-loop-variable.result.now ≡ word_weights_of p =
    c.as_slice-in-loop-variable.ensures.value ∙ l.invariant.words in
    let is : c.min.result ≡ min (mirror_weight (uses_of p) l.variable) (slice_index (word_weights_of p) l.variable) =
    c.min.ensures
    ∙ ap₂ min (c.saved.ensures ∙ ap (λ (uses : Uses). mirror_weight uses l.variable) c.requires)
    (c.weight_of-own.ensures ∙ ap (λ (ws : List ℕ). slice_index ws l.variable) listed) in
    record {
      made = one_more (uses_of p) (word_weights_of p) (length p.declared) l.variable c.min.result l.weights.items
          c.push.new.self.items less is c.in_ok-push.ensures.items
          ∙ l.invariant.made;
      words = l.invariant.words;
    }
