use Rattle.std.proofs.Common.{refl}
use Rattle.std.proofs.lemmas.List.{at_drop_all, at_drop_more}
use Rattle.branch_removal.proofs.StatementTrees.{chain-nothing, chain-push}
use Rattle.variable_room.specs.Below.{Boolean}
use Rattle.variable_room.specs.declared.number_words.words.NumberWord.{NumberWord}
use Rattle.variable_room.specs.number_words.private.Wording.{settings}
use Rattle.variable_room.proofs.number_words.statements.settings.Goals as goal

-- what a list of words has where it has none
abbrev none_yet : NumberWord
none_yet = record { number = record { value = 0; kind = Boolean }; variable = 0 }

pub loop-word-preserved : goal.loop-word-preserved
loop-word-preserved c =
    let l = c.loop-word in
    let here = at_drop_more settings c.args.words.now l.word-index none_yet c.loop-word-test.true in
    rw (c.in_ok-push.ensures.items, chain-push, c.setting.ensures, ← l.invariant, here) refl

pub returns : goal.returns
returns c =
    let none = at_drop_all settings c.args.words.now c.loop-word.word-index c.loop-word-test.false in
    rw (← c.loop-word.invariant, none, chain-nothing) refl
