-- The rows of the table of habits, as clues: each field that says something is one.
use Rattle.std.specs.Prelude.{ℕ, ◌==◌, Bool, true, ◌||◌, List, [], ◌∷◌, ◌++◌, length, Option, Some, None}
use Rattle.explanations.specs.habits.Habits.{before, behind, Clue, Habit, here, is_one_of, is_part, part}
use Rattle.explanations.specs.habits.Habits.{statement_begins, two_before}
use Rattle.explanations.specs.declared.habits.spots.Region.{Region}
use Rattle.explanations.specs.declared.habits.table.Habit.{Habit as Row}

abbrev pub part_clue : Option Region → List Clue
part_clue None = []
part_clue (Some region) = part region ∷ []

abbrev pub word_clue : (List ℕ → Clue) → List ℕ → List Clue
word_clue clue [] = []
word_clue clue (letter ∷ letters) = clue (letter ∷ letters) ∷ []

abbrev pub shown : Row → Habit
shown row = (
  part_clue row.region ++ (word_clue statement_begins row.start.now ++ (word_clue two_before row.second.now
      ++ (word_clue before row.before.now ++ (word_clue here row.here.now ++ word_clue behind row.next.now)))),
  row.advice.now,
)

-- whether a place is in a part of a program, where one is named
abbrev pub is_inside : Option Region → Region → Bool
is_inside None place = true
is_inside (Some region) place = is_part region place

-- whether a text is one of some words, where there are any
abbrev pub meets : List ℕ → List ℕ → Bool
meets words text = (length words == 0) || is_one_of words text
