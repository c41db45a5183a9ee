use Rattle.std.proofs.Common.{◌≡◌, ◌-◌, ◌++◌, ℕ, List}
use Rattle.image.specs.Format.{Format}
use Rattle.image.specs.Reading.{words_format}
use Rattle.image.specs.private.Following.{ahead}
use Rattle.image.proofs.reading.Reader.words.Given as goal

abbrev pub invariant-words : goal.invariant-words
invariant-words l =
    (next : List ℕ → Format)
    → ahead (words_format l.count next) l.fn.self
    ≡ ahead (words_format (l.count - l.counter) (λ words. next (l.words.items ++ words))) l.self
