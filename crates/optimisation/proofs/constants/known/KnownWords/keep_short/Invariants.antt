use Rattle.std.proofs.Common.{◌≡◌, length, map}
use Rattle.optimisation.specs.constants.private.Known.{short}
use Rattle.optimisation.proofs.constants_lemmas.KnownLemmas.{shorts_from}
use Rattle.optimisation.proofs.constants.known.KnownWords.keep_short.Given as goal

-- once the words that are left are short, all are
abbrev pub invariant-loop-number : goal.invariant-loop-number
invariant-loop-number l = record {
  left : shorts_from l.number l.self.words.items ≡ map short l.fn.self.words.items;
  lengths : length l.self.words.items ≡ length l.fn.self.words.items;
  copies : l.self.copies ≡ l.fn.self.copies;
}
