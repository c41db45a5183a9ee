use Rattle.std.proofs.Common.{◌+◌, ◌∷◌, ap, drop, map, refl, sym}
use Rattle.functions.specs.Below.{word_of}
use Rattle.functions.proofs.Steps.{all_made, next_item, one_more}
use Rattle.functions.proofs.function_code.words.push_words.Goals as goal

pub loop-instruction-preserved : goal.loop-instruction-preserved
loop-instruction-preserved c =
    let l = c.loop-instruction in
    let code = c.args.code.now in
    let instruction = c.instruction-item.result in
    let rest = map word_of (drop (l.instruction-index + 1) code) in
    one_more (map word_of) code l.instruction-index instruction _ rest l.words.items _ _
    (next_item code l.instruction-index instruction c.loop-instruction-test.true c.instruction-item.is)
    (ap (λ word. word ∷ rest) (sym c.encode.ensures.word)) c.in_ok-push.ensures.items l.invariant

pub returns : goal.returns
returns c =
    let l = c.loop-instruction in
    all_made (map word_of) c.args.code.now l.instruction-index l.words.items _ refl
    c.loop-instruction-test.false l.invariant
