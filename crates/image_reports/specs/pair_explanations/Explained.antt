-- How it is explained that what an observer sees of two runs of an image differs first at an entry.
use Rattle.std.specs.Prelude.{◌≡◌, ℕ, List, ◌++◌, Some, codes}
use Rattle.image_reports.specs.Below.{Arg, MachineCode, code_at, code_base, event, Fields, frame_base, IsLastBefore}
use Rattle.image_reports.specs.Below.{IsLineAt, loaded_at, Observation, program_counter, SaysRegisters, Shown, ShowsAt}
use Rattle.image_reports.specs.Below.{State}
use Rattle.listing.specs.Lines.{entry_line, stop_line}
use Rattle.run_reports.specs.declared.run_places.shown.Shown.TheVariants.{ProgramCounter, HasEvent, Stopped}

-- an entry or a stop, as the listing of a run has it
abbrev pub shown_line : Shown → List ℕ
shown_line (ProgramCounter pc) = entry_line (program_counter pc)
shown_line (HasEvent e) = entry_line (event e)
shown_line (Stopped stop) = stop_line stop

-- what is said of one run, whose steps show this list up to the last one that begins before the place, at this
-- program counter: what the word there reads, and what the run shows at the place
pub record SaysRun (code : MachineCode) (budget : ℕ) (s : State) (place : ℕ) (seen : List Observation) (pc : ℕ)
    (text : List ℕ) : Type 0 where
  pub there : State
  pub registers : List ℕ
  pub shown : Shown
  pub last : IsLastBefore code budget s place seen there
  pub at : there.pc ≡ pc
  pub read : SaysRegisters code there registers
  pub shows : ShowsAt code budget s place shown
  pub printed : text ≡ registers ++ codes " " ++ shown_line shown

-- the same of the run of an image on arguments
abbrev pub SaysOf : Fields → List Arg → ℕ → List Observation → ℕ → List ℕ → Type 0
SaysOf image args = SaysRun (code_at code_base image) image.max_steps (loaded_at code_base frame_base image args)

-- three lines: of the word that both runs come to, having shown one list, then of the first run and of the second
pub record ExplainsDifference (image : Fields) (one other : List Arg) (place : ℕ) (text : List ℕ) : Type 0 where
  pub seen : List Observation
  pub pc : ℕ
  pub word : List ℕ
  pub first : List ℕ
  pub second : List ℕ
  pub of_word : IsLineAt (code_at code_base image) pc (Some word)
  pub of_first : SaysOf image one place seen pc first
  pub of_second : SaysOf image other place seen pc second
  pub printed : text ≡ word ++ codes "first" ++ first ++ codes "second" ++ second
