use Rattle.std.proofs.Common.{◌≡◌, ℕ, ◌+◌, ◌*◌, ◌<◌, ◌≤◌, ◌++◌, List, [], ◌∷◌, drop, get_or, length, map, arith}
use Rattle.std.proofs.Common.{append_assoc, append-nil, sym, ◌∙◌}
use Rattle.std.proofs.lemmas.List.{at_drop_all, at_drop_more}
use Rattle.expression_code.proofs.Below.{Param}
use Rattle.expression_code.proofs.Below.{slots_from, declaration_of, declared_words, words_of}
use Rattle.expression_code.specs.declared.image_fields.slot.Slot.{Slot}
use Rattle.expression_code.proofs.layout.slots.Goals as goal

-- one more slot
one_more : (ps : List Param) (i low words : ℕ) (p : Param) (old new : List Slot) → i < length ps
    → words ≡ words_of (declaration_of (get_or ps i p))
    → low + 4 * declared_words (map declaration_of (drop i ps)) ≤ 65536
    → new ≡ old ++ record { param = get_or ps i p; offset = low } ∷ []
    → (low + 4 * words + 4 * declared_words (map declaration_of (drop (i + 1) ps)) ≤ 65536)
    × new ++ slots_from (low + 4 * words) (drop (i + 1) ps) ≡ old ++ slots_from low (drop i ps)
one_more ps i low words p old new less is within pushed = (
  omega (arith, within, is, at_drop_more (λ rest. declared_words (map declaration_of rest)) ps i p less),
  rw (pushed, is, at_drop_more (slots_from low) ps i p less, append_assoc),
)

pub loop-parameter-preserved : goal.loop-parameter-preserved
loop-parameter-preserved c =
    let l = c.loop-parameter in
    let more =
    one_more c.args.parameters.now l.parameter-index l.low c.parameter_words.result _ l.slots.items
    c.push.new.self.items c.loop-parameter-test.true c.parameter_words.ensures l.invariant.low
    c.in_ok-push.ensures.items in
    record { low = more.0; rest = more.1 ∙ l.invariant.rest }

pub overflow_mul-low : goal.overflow_mul-low
overflow_mul-low c = omega (arith, (loop-parameter-preserved c).low)

pub overflow_add-low : goal.overflow_add-low
overflow_add-low c = omega (arith, (loop-parameter-preserved c).low)

pub returns : goal.returns
returns c =
    let l = c.loop-parameter in
    let none = at_drop_all (slots_from l.low) c.args.parameters.now l.parameter-index c.loop-parameter-test.false in
    sym (append-nil l.slots.items) ∙ rw none at l.invariant.rest
