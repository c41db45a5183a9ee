-- What a loop's body may read of what it did not set. Of what is set in a part that may run or not nothing is known
-- behind that part. Where too little is found, sharing does not fit.
use Rattle.std.specs.Prelude.{ℕ, true, false, length, replicate, Option, None, Some, slice_set}
use Rattle.straight_words.specs.Below.{array, branch, first, nothing, put, repeats, set, StraightBlock, StraightTree}
use Rattle.straight_words.specs.Below.{take}
use Rattle.straight_words.specs.live_words.private.Held.{Table, Done, Held, living_where}
use Rattle.straight_words.specs.live_words.private.Terms.{reading, reading_all}

-- this word was set too
abbrev pub with_done : Done → ℕ → Done
with_done done x = slice_set done x true

-- not where a control value around it may be false
abbrev pub with_done_within : Done → Option ℕ → ℕ → Done
with_done_within done None x = with_done done x
with_done_within done (Some control) x = done

-- what was set once a statement has run
abbrev pub done_after : Done → StraightTree → Done
done_after done (set within x value) = with_done_within done within x
done_after done (array x size values) = with_done done x
done_after done (put within place x size index value) = done
done_after done (take control within condition) = done
done_after done (branch condition accepted otherwise) = done
done_after done (repeats x low high body) = done

abbrev mutual
  -- what was live, and what a statement reads and was not set already
  pub gathered : Table → Done → Held → StraightTree → Held
  gathered table done held (set None x value) = reading table done held value
  gathered table done held (set (Some control) x value) =
      reading table done (living_where table done held x) value
  gathered table done held (array x size values) = reading_all table done held values
  gathered table done held (put within place x size index value) =
      reading table done (reading table done (living_where table done held x) value) index
  gathered table done held (take control within condition) = reading table done held condition
  gathered table done held (branch condition accepted otherwise) =
      gathered_all table done (gathered_all table done (reading table done held condition) accepted) otherwise
  gathered table done held (repeats x low high body) =
      gathered_all table (with_done done x) (reading table done (reading table done held high) low) body

  pub gathered_all : Table → Done → Held → StraightBlock → Held
  gathered_all table done held nothing = held
  gathered_all table done held (first statement rest) =
      gathered_all table (done_after done statement) (gathered table done held statement) rest

-- in a loop that begins, nothing was set but its counter
abbrev pub none_done : ℕ → Done
none_done variables = replicate variables false

abbrev pub at_head : Table → Held → ℕ → StraightBlock → Held
at_head table held x body = gathered_all table (with_done (none_done (length held.holders)) x) held body
