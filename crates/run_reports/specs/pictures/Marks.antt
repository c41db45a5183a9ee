-- The marks of what two runs show: each at a step and an address.
use Rattle.std.specs.Prelude.{ℕ, ◌+◌, ◌==◌, ◌&&◌, ◌||◌, not, Bool, true, false, List, [], ◌∷◌, ◌++◌, Option, Some}
use Rattle.std.specs.Prelude.{None}
use Rattle.rv_machine.specs.Sizes.{byte_count}
use Rattle.run_reports.specs.Below.{Event, Observation}
use Rattle.rv_machine.specs.declared.observation.Event.TheVariants.{Load, Store, Div, Mul}
use Rattle.run_reports.specs.declared.pictures.cells.Cell.{Cell}
use Rattle.run_reports.specs.declared.pictures.cells.CellMark.{CellMark}
use Rattle.run_reports.specs.declared.pictures.cells.Side.{Side}
use Rattle.run_reports.specs.declared.pictures.cells.Side.TheVariants.{One, Other}

-- a cell that holds nothing, and those with one access
abbrev pub blank : Cell
blank = record { fetched = false; loaded = false; stored = false; one_differs = false; other_differs = false }

abbrev pub fetched : Cell
fetched = record { fetched = true; loaded = false; stored = false; one_differs = false; other_differs = false }

abbrev pub loaded : Cell
loaded = record { fetched = false; loaded = true; stored = false; one_differs = false; other_differs = false }

abbrev pub stored : Cell
stored = record { fetched = false; loaded = false; stored = true; one_differs = false; other_differs = false }

-- one with a difference of a run, where there is one
abbrev pub difference : Side → Bool → Cell
difference One differs = record {
  fetched = false;
  loaded = false;
  stored = false;
  one_differs = differs;
  other_differs = false;
}
difference Other differs = record {
  fetched = false;
  loaded = false;
  stored = false;
  one_differs = false;
  other_differs = differs;
}

-- one that holds all that two cells hold
abbrev pub joined : Cell → Cell → Cell
joined a b = record {
  fetched = a.fetched || b.fetched;
  loaded = a.loaded || b.loaded;
  stored = a.stored || b.stored;
  one_differs = a.one_differs || b.one_differs;
  other_differs = a.other_differs || b.other_differs;
}

-- whether two events are the same
abbrev pub same_event : Event → Event → Bool
same_event (Load a n) (Load b m) = a == b && byte_count n == byte_count m
same_event (Store a n) (Store b m) = a == b && byte_count n == byte_count m
same_event (Div a b) (Div c d) = a == c && b == d
same_event (Mul a b) (Mul c d) = a == c && b == d
same_event e f = false

-- whether the other run does not show this program counter, or this event, in a step
abbrev pub other_counter : ℕ → Option Observation → Bool
other_counter pc None = true
other_counter pc (Some o) = not (pc == o.pc)

abbrev pub is_event : Event → Option Event → Bool
is_event e None = false
is_event e (Some f) = same_event e f

abbrev pub other_event : Event → Option Observation → Bool
other_event e None = true
other_event e (Some o) = not (is_event e o.event)

-- where an event is marked, and as what: a load or a store at its address, and a division or product at the
-- instruction
abbrev pub place_of_event : ℕ → Event → ℕ
place_of_event pc (Load a n) = a
place_of_event pc (Store a n) = a
place_of_event pc (Div a b) = pc
place_of_event pc (Mul a b) = pc

abbrev pub cell_of_event : Event → Cell
cell_of_event (Load a n) = loaded
cell_of_event (Store a n) = stored
cell_of_event (Div a b) = fetched
cell_of_event (Mul a b) = fetched

-- the marks of what a run shows in a step, beside what the other run shows in it
abbrev pub counter_mark : ℕ → Side → Observation → Option Observation → CellMark
counter_mark step side o beside =
    record { step = step; address = o.pc; cell = joined fetched (difference side (other_counter o.pc beside)) }

abbrev pub event_mark : ℕ → Side → ℕ → Event → Option Observation → CellMark
event_mark step side pc e beside =
    record {
      step = step;
      address = place_of_event pc e;
      cell = joined (cell_of_event e) (difference side (other_event e beside));
    }

abbrev pub event_marks : ℕ → Side → ℕ → Option Event → Option Observation → List CellMark
event_marks step side pc None beside = []
event_marks step side pc (Some e) beside = event_mark step side pc e beside ∷ []

abbrev pub marks_of : ℕ → Side → Option Observation → Option Observation → List CellMark
marks_of step side None beside = []
marks_of step side (Some o) beside = counter_mark step side o beside ∷ event_marks step side o.pc o.event beside

-- the marks of what both show in a step
abbrev pub marks_of_both : ℕ → Option Observation → Option Observation → List CellMark
marks_of_both step one other = marks_of step One one other ++ marks_of step Other other one

-- the marks of what both show from a step on
abbrev pub marks_from : ℕ → List Observation → List Observation → List CellMark
marks_from step [] [] = []
marks_from step (o ∷ ones) [] = marks_of_both step (Some o) None ++ marks_from (step + 1) ones []
marks_from step [] (p ∷ others) = marks_of_both step None (Some p) ++ marks_from (step + 1) [] others
marks_from step (o ∷ ones) (p ∷ others) = marks_of_both step (Some o) (Some p) ++ marks_from (step + 1) ones others
