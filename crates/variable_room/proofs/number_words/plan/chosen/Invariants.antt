use Rattle.std.proofs.Common.{◌≡◌, ◌+◌, ◌-◌, ◌≤◌, ◌++◌, drop, length}
use Rattle.variable_room.specs.number_words.private.Plan.{chosen, chosen_from, most_words}
use Rattle.variable_room.proofs.number_words.plan.chosen.Given as goal

-- those from this one on are left
abbrev pub invariant-loop-each : goal.invariant-loop-each
invariant-loop-each l = record {
  few : length l.words.items ≤ most_words;
  left : l.words.items ++ chosen_from (l.first + length l.words.items) (most_words - length l.words.items)
      (drop l.each-index l.uses)
      ≡ chosen l.first l.uses;
}
