use Rattle.std.proofs.Common.{append_assoc, refl}
use Rattle.std.proofs.lemmas.List.{map_more}
use Rattle.variable_room.specs.Below.{Boolean}
use Rattle.variable_room.specs.declared.number_words.words.NumberWord.{NumberWord}
use Rattle.variable_room.specs.number_words.private.Plan.{variable_of}
use Rattle.variable_room.proofs.number_words.plan.with_words.Goals as goal

-- what a list of words has where it has none
abbrev none_yet : NumberWord
none_yet = record { number = record { value = 0; kind = Boolean }; variable = 0 }

pub loop-word-preserved : goal.loop-word-preserved
loop-word-preserved c =
    let l = c.loop-word in
    let more = map_more variable_of c.args.words.now l.word-index none_yet c.loop-word-test.true in
    rw (c.in_ok-push.ensures.items, l.invariant, c.variable_of.ensures, append_assoc, more) refl
