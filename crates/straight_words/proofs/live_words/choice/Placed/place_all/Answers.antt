use Rattle.std.proofs.Common.{◌≡◌, suc, ◌+◌, ◌-◌, ◌==◌, true, false, length, refl, sym, ap, ◌∙◌, arith}
use Rattle.std.proofs.lemmas.Bool.{eq-eqb, ne_eqb}
use Rattle.std.proofs.lemmas.List.{length-set}
use Rattle.straight_words.specs.Below.{greatest_of, heaviest}
use Rattle.straight_words.proofs.live_words.choice.Placed.place_all.Goals as goal

pub returns-then-greatest_of-eq0 : goal.returns-then-greatest_of-eq0
returns-then-greatest_of-eq0 c =
    let width = c.args.words.width in
    let more : width - c.loop.counter ≡ suc (width - (c.loop.counter + 1)) = omega (arith, c.loop-test.true) in
    let none : (greatest_of c.loop.weights.items == 0) ≡ true =
    sym (ap (λ g. g == 0) (c.greatest_of.ensures ∙ ap greatest_of c.as_slice.ensures.value))
    ∙ eq-eqb c.greatest_of.result 0 c.if-greatest_of-eq0.true in
    rw (← c.loop.invariant.placed, more, none) refl

pub loop-preserved : goal.loop-preserved
loop-preserved c =
    let width = c.args.words.width in
    let weights = c.loop.weights.items in
    let more : width - c.loop.counter ≡ suc (width - (c.loop.counter + 1)) = omega (arith, c.loop-test.true) in
    let some : (greatest_of weights == 0) ≡ false =
    sym (ap (λ g. g == 0) (c.greatest_of.ensures ∙ ap greatest_of c.as_slice.ensures.value))
    ∙ ne_eqb c.greatest_of.result 0 c.if-greatest_of-eq0.false in
    record {
      placed = rw (
        c.take_greatest.ensures,
        c.in_ok-place.ensures,
        c.heaviest-word.ensures.place,
        c.as_slice-in-loop.ensures.value,
      ) (rw (more, some) at c.loop.invariant.placed);
      few = omega (
        arith,
        ap length c.take_greatest.ensures,
        length-set weights (heaviest weights) 0,
        c.loop.invariant.few,
      );
    }
