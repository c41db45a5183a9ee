-- How the running of a part spends a budget. The contracts of private functions cite it, and no public one does.
use Rattle.std.specs.Prelude.{◌≡◌, ℕ, ◌+◌, ◌<◌, ◌≤◌, ◌⊎◌, List, Option, map}
use Rattle.std.specs.Option.{option_map}
use Rattle.source_eval.specs.Below.{Ending, faults, gives, Procedure, procedure_tree, Returned, Run, Runnables}
use Rattle.source_eval.specs.Below.{runnables, State}
use Rattle.source_eval.specs.Views.{word_of}
use Rattle.source_eval.specs.declared.fault.EvalFault.{EvalFault}
use Rattle.source_eval.specs.declared.fault.EvalFault.TheVariants.{Argument, NoMeaning, Budget, Memory}
use Rattle.source_eval.specs.declared.values.Word.{Word}

-- with `left` nodes left to evaluate and `room` bodies to open, a run gives a, and leaves so many nodes
pub record EndedWithin {A : Type 0} (r : Run A) (left room : ℕ) (a : A) (after : ℕ) : Type 0 where
  pub gives_it : r.ends ≡ gives a
  pub spends : left ≡ r.nodes + after
  pub opens : r.bodies ≤ room

-- with so much left it meets this fault, or uses up what is left, or memory is refused
abbrev pub Stopped : {A : Type 0} → Run A → ℕ → ℕ → EvalFault → Type 0
Stopped r left room (NoMeaning place) = (r.ends ≡ faults place) × (r.nodes ≤ left) × (r.bodies ≤ room)
Stopped r left room Budget = (left < r.nodes) ⊎ (room < r.bodies)
Stopped r left room Memory = Unit {0}
Stopped r left room (Argument fault) = ⊥

-- an end that is this fault
abbrev pub IsFault : {A : Type 0} → Ending A → EvalFault → Type 0
IsFault (gives a) fault = ⊥
IsFault (faults place) fault = fault ≡ NoMeaning place

-- what may be called after these procedures
abbrev pub known_of : List Procedure → Runnables
known_of procedures = runnables (map procedure_tree procedures)

-- a word where there is one, and the state after it
abbrev pub returned : Option Word → State → Returned
returned w s = record { word = option_map word_of w; state = s }
