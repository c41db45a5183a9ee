use Rattle.std.proofs.Common.{◌≡◌, ℕ, ◌+◌, ◌*◌, ◌<◌, ◌≤◌, ◌++◌, List, [], ◌∷◌, drop, get_or, length, arith, append_assoc, ◌∙◌}
use Rattle.std.proofs.lemmas.List.{at_drop_all, at_drop_more}
use Rattle.expression_code.proofs.Below.{FlatVariable}
use Rattle.expression_code.proofs.Below.{offsets_from, declared_words, words_of}
use Rattle.expression_code.proofs.layout.offsets.Goals as goal

-- one more offset
one_more : (ds : List FlatVariable) (i low words : ℕ) (d : FlatVariable) (old new : List ℕ) → i < length ds
    → words ≡ words_of (get_or ds i d) → low + 4 * declared_words (drop i ds) ≤ 65536 → new ≡ old ++ low ∷ []
    → (low + 4 * words + 4 * declared_words (drop (i + 1) ds) ≤ 65536)
    × new ++ offsets_from (low + 4 * words) (drop (i + 1) ds) ≡ old ++ offsets_from low (drop i ds)
one_more ds i low words d old new less is within pushed = (
  omega (arith, within, is, at_drop_more declared_words ds i d less),
  rw (pushed, is, at_drop_more (offsets_from low) ds i d less, append_assoc),
)

pub loop-variable-preserved : goal.loop-variable-preserved
loop-variable-preserved c =
    let l = c.loop-variable in
    let more =
    one_more c.args.declared.now l.variable-index l.low c.words.result _ l.offsets.items c.push.new.self.items
    c.loop-variable-test.true c.words.ensures l.invariant.low c.in_ok-push.ensures.items in
    record { low = more.0; rest = more.1 ∙ l.invariant.rest }

pub overflow_mul-low : goal.overflow_mul-low
overflow_mul-low c = omega (arith, (loop-variable-preserved c).low)

pub overflow_add-low : goal.overflow_add-low
overflow_add-low c = omega (arith, (loop-variable-preserved c).low)

pub returns : goal.returns
returns c =
    let l = c.loop-variable in
    c.in_ok-push-2.ensures.items
    ∙ rw (at_drop_all (offsets_from l.low) c.args.declared.now l.variable-index c.loop-variable-test.false)
    at l.invariant.rest
