use Rattle.std.proofs.Common.{◌≡◌, ◌+◌, ◌≤◌, suc, length, refl, ◌∙◌, arith}
use Rattle.std.proofs.lemmas.List.{length-set}
use Rattle.optimisation.proofs.constants_lemmas.KnownLemmas.{shorts_step, shorts_end}
use Rattle.optimisation.proofs.constants.known.KnownWords.keep_short.Goals as goal

pub loop-number-init : goal.loop-number-init
loop-number-init c = record { left = refl; lengths = refl; copies = refl }

pub loop-number-preserved : goal.loop-number-preserved
loop-number-preserved c =
    let n = c.loop-number.number in
    let next : n + 1 ≡ suc n = omega arith in
    record {
      left = rw (next, c.shorten.ensures.words, shorts_step) c.loop-number.invariant.left;
      lengths = rw (c.shorten.ensures.words, length-set) c.loop-number.invariant.lengths;
      copies = c.shorten.ensures.copies ∙ c.loop-number.invariant.copies;
    }

pub returns : goal.returns
returns c =
    let words = c.loop-number.self.words.items in
    let within : length words ≤ c.loop-number.number =
    omega (arith, c.loop-number.invariant.lengths, c.len-number-end.ensures, c.loop-number-test.false) in
    let numbers = shorts_end c.loop-number.number words within in
    cc (numbers, c.loop-number.invariant.left, c.loop-number.invariant.copies)
