use Rattle.std.proofs.Common.{◌≡◌, ◌+◌, ◌*◌, ◌++◌}
use Rattle.compilation.specs.Blank.{words_from}
use Rattle.compilation.proofs.blank.push_words.Given as goal

-- with those that are left, all are put there
abbrev pub invariant-words : goal.invariant-words
invariant-words l =
    (l.offsets.items ++ words_from l.offset l.left ≡ l.fn.offsets.items ++ words_from l.fn.low l.fn.count)
    × (l.offset + 4 * l.left ≡ l.fn.low + 4 * l.fn.count)

abbrev pub decreases-words : goal.decreases-words
decreases-words l = l.left
