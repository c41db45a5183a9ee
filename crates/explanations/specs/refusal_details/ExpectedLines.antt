-- What is said where a token is unexpected: which kinds of tokens may stand there, and what to write instead of a habit
-- of C.
use Rattle.std.specs.Prelude.{◌≡◌, ℕ, List, [], ◌∷◌, ◌++◌, take, codes, Option, None, Some}
use Rattle.std.specs.Str.{IsCharBoundary}
use Rattle.explanations.specs.expected_tokens.Candidates.{candidates}
use Rattle.explanations.specs.expected_tokens.Expected.{Expects}
use Rattle.explanations.specs.habits.Habits.{Advises}

-- names, each behind a comma
abbrev pub more_names : List (List ℕ) → List ℕ
more_names [] = []
more_names (name ∷ names) = codes ", " ++ (name ++ more_names names)

abbrev pub expected_line : List (List ℕ) → List ℕ
expected_line [] = []
expected_line (name ∷ names) = codes "  expected: " ++ (name ++ (more_names names ++ codes "\n"))

-- at a place behind so many bytes of a text, unless that is inside a character
pub data SaysExpected (text : List ℕ) (at : ℕ) : List ℕ → Type 0 where
  tried : {names : List (List ℕ)}
      → IsCharBoundary text at
      → Expects (take at text) candidates names
      → SaysExpected text at (expected_line names)
  inside : ¬ IsCharBoundary text at → SaysExpected text at []

-- what to write instead, and where there is more about it
abbrev pub habit_line : Option (List ℕ) → List ℕ
habit_line None = []
habit_line (Some advice) = codes "  " ++ (advice ++ codes " (docs/COOKBOOK.md)\n")

abbrev pub SaysHabit : List ℕ → ℕ → List ℕ → Type 0
SaysHabit text at line = (advice : Option (List ℕ)) × Advises text at advice × (line ≡ habit_line advice)

-- first the one, then the other
abbrev pub SaysUnexpected : List ℕ → ℕ → List ℕ → Type 0
SaysUnexpected text at lines =
    (expected habit : List ℕ) × SaysExpected text at expected × SaysHabit text at habit × (lines ≡ expected ++ habit)
