-- What was live stays live before an expression is computed.
use Rattle.std.proofs.Common.{List, [], ◌∷◌}
use Rattle.straight_words.specs.Below.{binary, convert, element, prefix, rotate, select, TermTree, variable}
use Rattle.straight_words.specs.live_words.private.Held.{Table, Done, Held, living_where}
use Rattle.straight_words.specs.live_words.private.Terms.{reading, reading_all}
use Rattle.straight_words.proofs.live_words_lemmas.HeldLemmas.{Grows, grows_same, grows_on, grows_where}

module _ (table : Table) (done : Done) where
  pub grows_reading : (held : Held) (e : TermTree) → Grows held (reading table done held e)
  grows_reading held (variable x) = grows_where table done held x
  grows_reading held (prefix operator width operand) = grows_reading held operand
  grows_reading held (binary place operator width left right) =
      grows_on (grows_reading held right) (grows_reading (reading table done held right) left)
  grows_reading held (rotate width operand amount) = grows_reading held operand
  grows_reading held (convert kind operand) = grows_reading held operand
  grows_reading held (select condition accepted otherwise) =
      let before = reading table done held otherwise in
      grows_on (grows_reading held otherwise)
      (grows_on (grows_reading before accepted) (grows_reading (reading table done before accepted) condition))
  grows_reading held (element place x size index) =
      grows_on (grows_where table done held x) (grows_reading (living_where table done held x) index)
  grows_reading held e = grows_same held

  pub grows_reading_all : (held : Held) (es : List TermTree) → Grows held (reading_all table done held es)
  grows_reading_all held [] = grows_same held
  grows_reading_all held (e ∷ es) =
      grows_on (grows_reading held e) (grows_reading_all (reading table done held e) es)
