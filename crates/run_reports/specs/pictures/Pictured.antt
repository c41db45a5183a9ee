-- Which page is the picture of two runs.
use Rattle.std.specs.Prelude.{◌≡◌, ℕ, max, Bool, List, length}
use Rattle.run_reports.specs.Below.{MachineCode, IsShown, Observation, State}
use Rattle.run_reports.specs.pictures.Grid.{IsGrid}
use Rattle.run_reports.specs.pictures.Marks.{marks_from}
use Rattle.run_reports.specs.pictures.Page.{page_text}
use Rattle.run_reports.specs.pictures.Parting.{parting_from, run_length}
use Rattle.run_reports.specs.declared.pictures.cells.Area.{Area}
use Rattle.run_reports.specs.declared.pictures.cells.Axes.{Axes}
use Rattle.run_reports.specs.declared.pictures.cells.Cell.{Cell}
use Rattle.run_reports.specs.declared.pictures.cells.Told.{Told}

-- the axes of what two runs show: the longer one decides how many steps there are
abbrev pub axes_of : Area → Area → List Observation → List Observation → Axes
axes_of code frame seen seen' = record { steps = max (length seen) (length seen'); code = code; frame = frame }

-- what is told of two runs, or of one in both places
abbrev pub told_of : Bool → List Observation → List Observation → Told
told_of are_two seen seen' = record {
  are_two = are_two;
  one = run_length seen;
  other = run_length seen';
  parting = parting_from 0 seen seen';
}

-- the page of what two runs show, over these addresses of code and frame, with what was asked for and with this said
-- of them; where they are one run, nothing of a second is told
pub record Depicts (code frame : Area) (asked said : List ℕ) (are_two : Bool) (seen seen' : List Observation)
    (page : List ℕ) : Type 0 where
  pub cells : List Cell
  pub filled : IsGrid (axes_of code frame seen seen') (marks_from 0 seen seen') cells
  pub written : page ≡ page_text (axes_of code frame seen seen') cells asked said (told_of are_two seen seen')

-- the page of two runs of code, each from a state on and of at most so many steps
pub record IsPicture (code : MachineCode) (steps : ℕ) (s : State) (steps' : ℕ) (s' : State) (in_code in_frame : Area)
    (asked said : List ℕ) (are_two : Bool) (page : List ℕ) : Type 0 where
  pub seen : List Observation
  pub seen' : List Observation
  pub shown : IsShown code steps s seen
  pub shown' : IsShown code steps' s' seen'
  pub drawn : Depicts in_code in_frame asked said are_two seen seen' page
