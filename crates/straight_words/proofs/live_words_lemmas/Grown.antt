-- What a loop's body reads is live beside what was.
use Rattle.std.proofs.Common.{ℕ, length, None, Some}
use Rattle.straight_words.specs.Below.{array, branch, first, nothing, put, repeats, set, StraightBlock, StraightTree}
use Rattle.straight_words.specs.Below.{take}
use Rattle.straight_words.specs.live_words.private.Held.{Table, Done, Held}
use Rattle.straight_words.specs.live_words.private.Gathering.{gathered, gathered_all, done_after, with_done, none_done}
use Rattle.straight_words.specs.live_words.private.Gathering.{at_head}
use Rattle.straight_words.proofs.live_words_lemmas.HeldLemmas.{Grows, grows_same, grows_on, grows_where}
use Rattle.straight_words.proofs.live_words_lemmas.TermLemmas.{grows_reading, grows_reading_all}

module _ (table : Table) where
  mutual
    pub grows_gathered : (done : Done) (held : Held) (statement : StraightTree)
        → Grows held (gathered table done held statement)
    grows_gathered done held (set None x value) = grows_reading table done held value
    grows_gathered done held (set (Some control) x value) =
        grows_on (grows_where table done held x) (grows_reading table done _ value)
    grows_gathered done held (array x size values) = grows_reading_all table done held values
    grows_gathered done held (put within place x size index value) =
        grows_on (grows_where table done held x)
        (grows_on (grows_reading table done _ value) (grows_reading table done _ index))
    grows_gathered done held (take control within condition) = grows_reading table done held condition
    grows_gathered done held (branch condition accepted otherwise) =
        grows_on (grows_reading table done held condition)
        (grows_on (grows_gathered_all done _ accepted) (grows_gathered_all done _ otherwise))
    grows_gathered done held (repeats x low high body) =
        grows_on (grows_reading table done held high)
        (grows_on (grows_reading table done _ low) (grows_gathered_all (with_done done x) _ body))

    pub grows_gathered_all : (done : Done) (held : Held) (body : StraightBlock)
        → Grows held (gathered_all table done held body)
    grows_gathered_all done held nothing = grows_same held
    grows_gathered_all done held (first statement rest) =
        grows_on (grows_gathered done held statement) (grows_gathered_all (done_after done statement) _ rest)

  pub grows_head : (held : Held) (x : ℕ) (body : StraightBlock) → Grows held (at_head table held x body)
  grows_head held x body = grows_gathered_all (with_done (none_done (length held.holders)) x) held body
