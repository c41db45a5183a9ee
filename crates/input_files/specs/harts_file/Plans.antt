-- Which plan a text gives.
use Rattle.std.specs.Prelude.{◌≡◌, ℕ, ◌≤◌, Bool, true, nat_lt, List, ◌++◌, length, map, replicate, flat_map, All}
use Rattle.std.specs.Prelude.{Option, Some}
use Rattle.std.specs.List.{range_with_len, repeat}
use Rattle.input_files.specs.Below.{most_images, most_turns}
use Rattle.input_files.specs.harts_file.Lines.{PlannedHart, PlannedTurns, turns_of, rounds, LineContent, a_hart}
use Rattle.input_files.specs.harts_file.Lines.{some_turns, said_in}

-- whose turn it is, one after another, where there are so many harts
abbrev pub turns_listed : ℕ → PlannedTurns → List ℕ
turns_listed harts (turns_of hart count) = replicate count hart
turns_listed harts (rounds count) = repeat count (range_with_len 0 harts)

-- the turns are those of a hart that there is
abbrev pub is_known : ℕ → PlannedTurns → Bool
is_known harts (turns_of hart count) = nat_lt hart harts
is_known harts (rounds count) = true

-- a line of a hart, and one of turns
abbrev pub hart_line : PlannedHart → Option LineContent
hart_line hart = Some (a_hart hart)

abbrev pub turns_line : PlannedTurns → Option LineContent
turns_line turns = Some (some_turns turns)

-- a text gives these harts, and this schedule of their turns: the lines name the harts, one after another, and then
-- turns of them. There are 1 to 8 harts, and no more turns than there may be
pub record IsPlan (text : List ℕ) (harts : List PlannedHart) (schedule : List ℕ) : Type 0 where
  pub turns : List PlannedTurns
  pub lines : said_in text ≡ map hart_line harts ++ map turns_line turns
  pub some : 1 ≤ length harts
  pub few : length harts ≤ most_images
  pub known : All (λ some_of. is_known (length harts) some_of ≡ true) turns
  pub listed : schedule ≡ flat_map (turns_listed (length harts)) turns
  pub short : length schedule ≤ most_turns
