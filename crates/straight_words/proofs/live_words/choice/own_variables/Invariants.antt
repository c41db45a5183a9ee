use Rattle.std.proofs.Common.{◌≡◌, ◌-◌, ◌++◌}
use Rattle.straight_words.specs.live_words.private.Choice.{own_variables}
use Rattle.straight_words.proofs.live_words.choice.own_variables.Given as goal

-- those so far and those that are left
abbrev pub invariant-loop-word : goal.invariant-loop-word
invariant-loop-word l = l.table.items ++ own_variables (l.width - l.word) l.word ≡ own_variables l.width 0
