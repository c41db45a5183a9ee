-- A word that an instruction has suggests that instruction.
use Rattle.std.proofs.Common.{◌≡◌, ◌∙◌, ap, sym, arith}
use Rattle.rv_code.specs.Words.{word_of}
use Rattle.rv_code.specs.private.Reading.{reading}
use Rattle.rv_code.proofs.WordLaws.{reading-word_of}
use Rattle.rv_code.proofs.decoding.decode.Goals as goal

pub returns-in_err-suggested-clause-only : goal.returns-in_err-suggested-clause-only
returns-in_err-suggested-clause-only c = λ i is_i same.
    let read = c.suggested.ensures ∙ ap reading (sym same) ∙ reading-word_of i is_i in
    let none = c.in_err-suggested.was in cc

pub returns-then-encode-word-clause-only : goal.returns-then-encode-word-clause-only
returns-then-encode-word-clause-only c = λ i is_i same.
    c.suggested-then-encode-word.ensures ∙ ap reading (sym same) ∙ reading-word_of i is_i

pub returns-else-encode-word-clause-only : goal.returns-else-encode-word-clause-only
returns-else-encode-word-clause-only c = λ i is_i same.
    let read = c.suggested.ensures ∙ ap reading (sym same) ∙ reading-word_of i is_i in
    let some = c.in_ok-suggested.was in
    let this : c.in_ok-suggested.field-0 ≡ i = cc in
    let met : c.encode.result ≡ c.args.word = c.encode.ensures.word ∙ ap word_of this ∙ same in
    absurd (omega (arith, met))
