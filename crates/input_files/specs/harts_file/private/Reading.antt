-- What a reader has, as the definitions on lines see it.
use Rattle.std.specs.Prelude.{◌≡◌, ◌⊎◌, ℕ, ◌+◌, ◌-◌, ◌^◌, ◌==◌, min, true, false, List, [], ◌∷◌, ◌++◌, length, map, All}
use Rattle.std.specs.Prelude.{Option, Some, None}
use Rattle.std.specs.Borrow.{Bor}
use Rattle.std.specs.Str.{IsUtf8}
use Rattle.input_files.specs.harts_file.Faults.{AreFine, given_by, GivenByLines, rule_of}
use Rattle.input_files.specs.harts_file.Lines.{a_hart, LineContent, lines_of, PlannedHart, PlannedTurns, rounds}
use Rattle.input_files.specs.harts_file.Lines.{said_in, said_of, some_turns, turns_of}
use Rattle.input_files.specs.harts_file.Plans.{turns_listed}
use Rattle.input_files.specs.harts_file.Jobs.{hart_of}
use Rattle.input_files.specs.declared.harts_file.lines.Line.{Line}
use Rattle.input_files.specs.declared.harts_file.lines.Line.TheVariants.{Hart, Turns, Round}
use Rattle.input_files.specs.declared.harts_file.reader.PlanReader.{PlanReader}
use Rattle.input_files.specs.declared.harts_file.taken_lines.LineFault.{LineFault}
use Rattle.input_files.specs.declared.harts_file.taken_lines.TakenLines.{TakenLines}
use Rattle.input_files.specs.declared.harts_file.pieces.PlanFile.{PlanFile}

-- the hart of a path and arguments that stand in a line
abbrev pub line_hart : Bor (List ℕ) → List (Bor (List ℕ)) → PlannedHart
line_hart path arguments = record { path = path.now; arguments = map (λ text. text.now) arguments }

-- what a line of a good form says
abbrev pub said_by_line : Line → LineContent
said_by_line (Hart path arguments) = a_hart (line_hart path arguments.items)
said_by_line (Turns hart count) = some_turns (turns_of hart count)
said_by_line (Round count) = some_turns (rounds count)

-- numbers past the greatest `u64` are held as that
abbrev pub held_number : ℕ → ℕ
held_number n = min n (2 ^ 64 - 1)

abbrev pub held_turns : PlannedTurns → PlannedTurns
held_turns (turns_of hart count) = turns_of (held_number hart) (held_number count)
held_turns (rounds count) = rounds (held_number count)

abbrev pub held : LineContent → LineContent
held (a_hart hart) = a_hart hart
held (some_turns turns) = some_turns (held_turns turns)

-- what a reader has been given
abbrev pub given_to : PlanReader → GivenByLines
given_to reader = record {
  harts = map hart_of reader.jobs.items;
  has_turns = reader.has_turns;
  schedule = reader.schedule.items;
}

-- what is given with one hart or turns more
abbrev pub given_also : GivenByLines → LineContent → GivenByLines
given_also given (a_hart hart) = record {
  harts = given.harts ++ hart ∷ [];
  has_turns = given.has_turns;
  schedule = given.schedule;
}
given_also given (some_turns turns) = record {
  harts = given.harts;
  has_turns = true;
  schedule = given.schedule ++ turns_listed (length given.harts) turns;
}

-- what is given with one line more
abbrev pub given_with : GivenByLines → Option LineContent → GivenByLines
given_with given None = given
given_with given (Some said) = given_also given said

-- no byte of a line is a line feed
abbrev pub OnOneLine : List ℕ → Type 0
OnOneLine line = All (λ byte. (byte == 10) ≡ false) line

-- the first faulty line of some, and the rule that it breaks; or, where none is, what they give
abbrev pub HasTaken : List (Option LineContent) → Option LineFault → GivenByLines → Type 0
HasTaken said None given = (given ≡ given_by said) × AreFine said
HasTaken said (Some fault) given =
    (front rest : List (Option LineContent)) × (line : Option LineContent) × (said ≡ front ++ line ∷ rest)
    × AreFine front × (rule_of (given_by front) line ≡ Some fault.rule) × (fault.line ≡ length front + 1)

-- a line more was taken
pub record TakesLine (old new : TakenLines) (line : List ℕ) : Type 0 where
  pub utf8 : new.is_text ≡ true → (old.is_text ≡ true) × IsUtf8 line
  pub other : new.is_text ≡ false → (old.is_text ≡ false) ⊎ ¬ IsUtf8 line
  pub counted : new.count ≡ old.count + 1
  pub kept : new.is_text ≡ true → (said : List (Option LineContent)) → length said ≡ old.count
      → HasTaken said old.first (given_to old.plan)
      → HasTaken (said ++ said_of line ∷ []) new.first (given_to new.plan)

-- lines were taken that a text ends with, each with its line feed. Whether these are UTF-8 nothing behind them changes
pub record HasEnded (taken : TakenLines) (text : List ℕ) (lines : List (List ℕ)) : Type 0 where
  pub whole : (rest : List ℕ) → lines_of (text ++ rest) ≡ lines ++ lines_of rest
  pub utf8 : taken.is_text ≡ true → IsUtf8 text
  pub other : taken.is_text ≡ false → (rest : List ℕ) → ¬ IsUtf8 (text ++ rest)
  pub counted : taken.count ≡ length lines
  pub kept : taken.is_text ≡ true → HasTaken (map said_of lines) taken.first (given_to taken.plan)

-- a text was read: the lines that have ended were taken, and the beginning of the next is there
pub record HasRead (file : PlanFile) (text : List ℕ) : Type 0 where
  pub before : List ℕ
  pub lines : List (List ℕ)
  pub ended : HasEnded file.taken before lines
  pub begun : text ≡ before ++ file.line.items
  pub alone : OnOneLine file.line.items

-- all lines of a text were taken
pub record IsTaken (taken : TakenLines) (text : List ℕ) : Type 0 where
  pub utf8 : taken.is_text ≡ true → IsUtf8 text
  pub other : taken.is_text ≡ false → ¬ IsUtf8 text
  pub kept : taken.is_text ≡ true → HasTaken (said_in text) taken.first (given_to taken.plan)
