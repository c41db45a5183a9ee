-- Which arrays a program sets whole before it reads them, and what that means for its arguments.
use Rattle.std.specs.Prelude.{◌≡◌, ℕ, ◌+◌, ◌/◌, ◌^◌, ◌&&◌, Bool, true, false, max, nat_lt, List, [], ◌∷◌, replicate}
use Rattle.std.specs.Prelude.{Option, None, Some}
use Rattle.language.specs.Types.{is_number}
use Rattle.variable_room.specs.Below.{AreWithin, Arg, is_mutable, IsTypedStraight, outcome_of, Param, path_of}
use Rattle.variable_room.specs.Below.{StraightProgram}
use Rattle.variable_room.specs.set_whole.Watching.{all_set, Flags, Watch, watched_all}

-- how an array is watched in a program: the more nodes that has, the fewer iterations of a loop are followed
abbrev pub watch_in : StraightProgram → ℕ → Watch
watch_in p x = record { array = x; room = 2 ^ 18 / max 1 p.nodes; counters = [] }

-- no element was read before it was set, and in the end all were set
abbrev pub are_all_set : Option Flags → Bool
are_all_set None = false
are_all_set (Some flags) = all_set flags

-- a program sets all elements of an array of so many, and reads each only once it was set
abbrev pub sets_whole : StraightProgram → ℕ → ℕ → Bool
sets_whole p x count = are_all_set (watched_all (watch_in p x) (replicate count false) p.body)

-- a `mut` array of numbers, among the first eight parameters
abbrev pub is_candidate : ℕ → Param → Bool
is_candidate x parameter = nat_lt x 8 && is_mutable parameter.form && is_number parameter.kind

-- which of some parameters, the first with this number, are such arrays that a program sets whole
abbrev pub set_whole_from : StraightProgram → ℕ → List Param → List Bool
set_whole_from p x [] = []
set_whole_from p x (parameter ∷ parameters) =
    (is_candidate x parameter && sets_whole p x parameter.length) ∷ set_whole_from p (x + 1) parameters

-- which of all parameters are
abbrev pub set_whole_of : StraightProgram → List Bool
set_whole_of p = set_whole_from p 0 p.parameters

-- arguments are the same but for those of the marked parameters
abbrev pub AgreeBut : List Bool → List Arg → List Arg → Type 0
AgreeBut whole [] [] = Unit {0}
AgreeBut whole [] (b ∷ others) = ⊥
AgreeBut whole (a ∷ args) [] = ⊥
AgreeBut [] (a ∷ args) (b ∷ others) = (a ≡ b) × AgreeBut [] args others
AgreeBut (true ∷ whole) (a ∷ args) (b ∷ others) = AgreeBut whole args others
AgreeBut (false ∷ whole) (a ∷ args) (b ∷ others) = (a ≡ b) × AgreeBut whole args others

-- what a program leaves and shows does not depend on what the arrays hold that it sets whole
abbrev pub ArraysSetWholeDoNotMatter : Type 0
ArraysSetWholeDoNotMatter =
    (p : StraightProgram) (args others : List Arg)
    → IsTypedStraight p
    → AreWithin p.parameters args
    → AreWithin p.parameters others
    → AgreeBut (set_whole_of p) args others
    → (outcome_of p args ≡ outcome_of p others) × (path_of p args ≡ path_of p others)
