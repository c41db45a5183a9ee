use Rattle.std.proofs.Common.{◌≡◌, ◌-◌, ◌≤◌, length}
use Rattle.straight_words.specs.live_words.private.Choice.{placed_all, placing_by, words_of}
use Rattle.straight_words.proofs.live_words.choice.Placed.place_all.Given as goal

-- with as many more as iterations are left, all are placed
abbrev pub invariant-loop : goal.invariant-loop
invariant-loop l = record {
  placed : placed_all (words_of l.words) (l.words.width - l.counter) l.weights.items (placing_by l.self)
      ≡ placed_all (words_of l.words) l.words.width l.fn.weights.items (placing_by l.fn.self);
  few : length l.weights.items ≤ l.words.width;
}
