-- Expressions: which words they read, and how they read where words share variables.
use Rattle.std.specs.Prelude.{ℕ, ◌&&◌, Bool, not, List, [], ◌∷◌}
use Rattle.straight_words.specs.Below.{binary, convert, element, is_quiet, number, prefix, rotate, select, TermTree}
use Rattle.straight_words.specs.Below.{truth, variable}
use Rattle.straight_words.specs.live_words.private.Held.{Table, Done, Held, share, is_live, living_where}

-- what is live before an expression is computed: what it reads and was not set already
abbrev pub reading : Table → Done → Held → TermTree → Held
reading table done held (number value kind) = held
reading table done held (truth value) = held
reading table done held (variable x) = living_where table done held x
reading table done held (prefix operator width operand) = reading table done held operand
reading table done held (binary place operator width left right) =
    reading table done (reading table done held right) left
reading table done held (rotate width operand amount) = reading table done held operand
reading table done held (convert kind operand) = reading table done held operand
reading table done held (select condition accepted otherwise) =
    reading table done (reading table done (reading table done held otherwise) accepted) condition
reading table done held (element place x size index) =
    reading table done (living_where table done held x) index

abbrev pub reading_all : Table → Done → Held → List TermTree → Held
reading_all table done held [] = held
reading_all table done held (e ∷ es) = reading_all table done (reading table done held e) es

-- an expression over the variables that words live in
abbrev pub renamed : Table → TermTree → TermTree
renamed table (number value kind) = number value kind
renamed table (truth value) = truth value
renamed table (variable x) = variable (share table x)
renamed table (prefix operator width operand) = prefix operator width (renamed table operand)
renamed table (binary place operator width left right) =
    binary place operator width (renamed table left) (renamed table right)
renamed table (rotate width operand amount) = rotate width (renamed table operand) amount
renamed table (convert kind operand) = convert kind (renamed table operand)
renamed table (select condition accepted otherwise) =
    select (renamed table condition) (renamed table accepted) (renamed table otherwise)
renamed table (element place x size index) = element place (share table x) size (renamed table index)

-- setting a word to an expression is left out: nobody reads it, and the expression shows nothing
abbrev pub is_dead : Table → Held → ℕ → TermTree → Bool
is_dead table held x value = held.fits && not (is_live table held x) && is_quiet value
