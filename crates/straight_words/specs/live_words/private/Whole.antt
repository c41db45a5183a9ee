-- A whole program whose words share variables.
use Rattle.std.specs.Prelude.{ℕ, ◌+◌, ◌*◌, ◌==◌, ◌&&◌, Bool, true, false, List, [], ◌∷◌, length, min}
use Rattle.std.specs.Prelude.{nat_le, replicate, slice_index, Option}
use Rattle.std.specs.Prelude.{None, Some, if◌then◌else◌}
use Rattle.std.specs.Option.{option_map}
use Rattle.straight_words.specs.Below.{checked, is_mutable, Param, StraightProgram, TermTree, with_body}
use Rattle.branch_removal.specs.Uses.{weights_of}
use Rattle.straight_words.specs.live_words.private.Held.{Table, Held, share, fitting, living, hold_own}
use Rattle.straight_words.specs.live_words.private.Terms.{reading, renamed}
use Rattle.straight_words.specs.live_words.private.Choice.{chosen, Words}
use Rattle.straight_words.specs.live_words.private.Sharing.{before_all, shared_all}

-- so many words may share, the first ones: each pair of them is looked at
abbrev pub most_sharing : ℕ
most_sharing = 1024

-- nothing is live of so many variables, and conflicts are noted of so many words
abbrev pub none_live : ℕ → ℕ → Held
none_live variables width = record {
  holders = replicate variables None;
  fits = true;
  conflicts = replicate (width * width) false;
  width = width;
}

-- a parameter's elements are results: it is live at the end, and keeps its number
abbrev pub kept : Table → Held → ℕ → Held
kept table held x = fitting (living table held x) (share table x == x)

abbrev pub with_results : Table → ℕ → List Param → Held → Held
with_results table x [] held = held
with_results table x (p ∷ ps) held =
    with_results table (x + 1) ps (if is_mutable p.form then kept table held x else held)

abbrev pub reading_any : Table → Held → Option TermTree → Held
reading_any table held None = held
reading_any table held (Some value) = reading table [] held value

-- what is live where the body has ended
abbrev pub at_end : Table → Held → StraightProgram → Held
at_end table held p = reading_any table (with_results table 0 p.parameters held) p.value

-- and where it begins: what is live there keeps its number
abbrev pub at_start : Table → Held → StraightProgram → Held
at_start table held p =
    before_all table (at_end table held p) p.body

-- the program over the variables that words live in, where this is live behind it
abbrev pub over : Table → Held → StraightProgram → StraightProgram
over table held p =
    with_body p (shared_all table (at_end table held p) p.body) (option_map (renamed table) p.value)

-- sharing fits: no variable has to hold two words at once, and what is live at the beginning keeps its number
abbrev pub all_fits : Held → Bool
all_fits held = held.fits && hold_own 0 held.holders

abbrev pub nothing_live : StraightProgram → ℕ → Held
nothing_live p width = none_live (length p.declared) width

-- the words that share variables, by what is live where each is in its own, and how much each is used
abbrev pub words_by : StraightProgram → Held → Words
words_by p held = record {
  declared = p.declared;
  iterations = p.iterations;
  starts = held.holders;
  width = held.width;
}

abbrev pub table_by : StraightProgram → Held → Table
table_by p held = chosen (words_by p held) (weights_of p) held.conflicts

abbrev pub table_for : StraightProgram → Table
table_for p = table_by p (at_start [] (nothing_live p (min (length p.declared) most_sharing)) p)

-- for the variable of each word from x on as many iterations are counted as for its own at least
abbrev pub keep_counts : List ℕ → ℕ → Table → Bool
keep_counts iterations x [] = true
keep_counts iterations x (v ∷ table) =
    nat_le (slice_index iterations x) (slice_index iterations v) && keep_counts iterations (x + 1) table

-- the program, where sharing fits
abbrev pub fits_by : Table → StraightProgram → Bool
fits_by table p = all_fits (at_start table (nothing_live p 0) p) && keep_counts p.iterations 0 table

abbrev pub shared_by : Table → StraightProgram → Option StraightProgram
shared_by table p = if fits_by table p then checked (over table (nothing_live p 0) p) else None

abbrev pub shared_program : StraightProgram → Option StraightProgram
shared_program p = shared_by (table_for p) p
