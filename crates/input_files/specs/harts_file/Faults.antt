-- Which line of a text is the first that breaks a rule.
use Rattle.std.specs.Prelude.{◌≡◌, ℕ, ◌+◌, Bool, nat_lt, nat_le, ◌==◌, if◌then◌else◌, List, [], ◌∷◌, ◌++◌, length}
use Rattle.std.specs.Prelude.{flat_map, filter_map, Option, Some, None, ⊤}
use Rattle.std.specs.Str.{IsUtf8}
use Rattle.input_files.specs.Below.{HartCount, HartsRule, LineForm, most_images, most_turns, NoSuchHart, TooManyTurns}
use Rattle.input_files.specs.harts_file.Lines.{PlannedHart, PlannedTurns, LineContent, a_hart, some_turns, lines_of}
use Rattle.input_files.specs.harts_file.Lines.{said_in}
use Rattle.input_files.specs.harts_file.Plans.{turns_listed, is_known}
use Rattle.input_files.specs.declared.harts_file.fault.PlanFault.TheVariants.{Line, Memory}
use Rattle.input_files.specs.declared.harts_file.fault.PlanFileFault.{PlanFileFault}
use Rattle.input_files.specs.declared.harts_file.fault.PlanFileFault.TheVariants.{NotUtf8, Plan, Read}

-- what lines give: harts, whether there is a line of turns, and whose turn it is
pub record GivenByLines : Type 0 where
  pub harts : List PlannedHart
  pub has_turns : Bool
  pub schedule : List ℕ

-- the hart that a line names, and the turns
abbrev pub hart_in : LineContent → Option PlannedHart
hart_in (a_hart hart) = Some hart
hart_in (some_turns turns) = None

abbrev pub turns_in : LineContent → Option PlannedTurns
turns_in (a_hart hart) = None
turns_in (some_turns turns) = Some turns

abbrev pub hart_named : Option LineContent → Option PlannedHart
hart_named None = None
hart_named (Some said) = hart_in said

abbrev pub turns_named : Option LineContent → Option PlannedTurns
turns_named None = None
turns_named (Some said) = turns_in said

abbrev pub harts_of : List (Option LineContent) → List PlannedHart
harts_of lines = filter_map hart_named lines

abbrev pub turns_lines_of : List (Option LineContent) → List PlannedTurns
turns_lines_of lines = filter_map turns_named lines

-- what harts and then turns give
abbrev pub given_from : List PlannedHart → List PlannedTurns → GivenByLines
given_from harts turns = record {
  harts = harts;
  has_turns = nat_lt 0 (length turns);
  schedule = flat_map (turns_listed (length harts)) turns;
}

abbrev pub given_by : List (Option LineContent) → GivenByLines
given_by lines = given_from (harts_of lines) (turns_lines_of lines)

-- the first rule that turns break behind so many harts and turns: there has to be a hart, and this hart, and the
-- turns must not be too many in all
abbrev pub rule_of_turns : ℕ → ℕ → PlannedTurns → Option HartsRule
rule_of_turns harts before turns =
    if harts == 0 then Some HartCount else
    if is_known harts turns then
    (if nat_le (before + length (turns_listed harts turns)) most_turns then None else Some TooManyTurns) else
    Some NoSuchHart

-- the first rule that a line breaks behind lines that give so much: a hart must not follow turns, and must not be one
-- too many
abbrev pub rule_of_said : GivenByLines → LineContent → Option HartsRule
rule_of_said given (a_hart hart) =
    if given.has_turns then Some LineForm else
    if nat_lt (length given.harts) most_images then None else Some HartCount
rule_of_said given (some_turns turns) = rule_of_turns (length given.harts) (length given.schedule) turns

-- a line of no form breaks the rule on these
abbrev pub rule_of : GivenByLines → Option LineContent → Option HartsRule
rule_of given None = Some LineForm
rule_of given (Some said) = rule_of_said given said

-- no line breaks a rule behind those before it
abbrev pub AreFine : List (Option LineContent) → Type 0
AreFine lines = (front rest : List (Option LineContent)) (line : Option LineContent) → lines ≡ front ++ line ∷ rest
    → rule_of (given_by front) line ≡ None

-- a text's first faulty line, counted from 1, and the first rule that it breaks. That there is no hart stands at line
-- 1
pub data IsFault (text : List ℕ) : HartsRule → ℕ → Type 0 where
  of_line : (front rest : List (Option LineContent)) (line : Option LineContent) (rule : HartsRule)
      → said_in text ≡ front ++ line ∷ rest → AreFine front
      → rule_of (given_by front) line ≡ Some rule → IsFault text rule (length front + 1)
  of_none : lines_of text ≡ [] → IsFault text HartCount 1

-- why a file's bytes give no plan: they are no text; or by the text's first faulty line. That a call failed, or that
-- memory was refused, may be answered of all
abbrev pub IsFileFault : List ℕ → PlanFileFault → Type 0
IsFileFault text Read = ⊤
IsFileFault text NotUtf8 = ¬ IsUtf8 text
IsFileFault text (Plan (Line rule line)) = IsUtf8 text × IsFault text rule line
IsFileFault text (Plan Memory) = ⊤
