-- The arguments that the words of a command line spell, or their first fault.
use Rattle.std.specs.Prelude.{◌≡◌, ℕ, ◌*◌, ◌==◌, List, length, map, take, drop, Option, Some, None, if◌then◌else◌, ⊤}
use Rattle.std.specs.Option.{option_map}
use Rattle.commands.specs.Below.{AreWithin, Arg, Argument, ArgumentFault, count_fault, fault_of_given, fault_of_texts}
use Rattle.commands.specs.Below.{first_of, Memory, numbers_given, numbers_of, Param, RunFault, shifted, Stopped}
use Rattle.commands.specs.Below.{words_of}

-- arguments within the parameter types, whose numbers the words spell
pub record AreSpelled (params : List Param) (words : List (List ℕ)) (args : List Arg) : Type 0 where
  pub within : AreWithin params args
  pub numbers : map (λ arg. Some (words_of arg)) args ≡ map numbers_of words

-- two lists of arguments, one after the other
pub record AreBothSpelled (params : List Param) (words : List (List ℕ)) (one other : List Arg) : Type 0 where
  pub first : AreSpelled params (take (length params) words) one
  pub second : AreSpelled params (drop (length params) words) other

-- the first fault of words that are to spell two lists: their count before all else, then the first list's, then the
-- second's, whose arguments are numbered after those of the first
abbrev pub fault_of_both : List Param → List (List ℕ) → Option ArgumentFault
fault_of_both params words =
    if length words == 2 * length params
    then first_of (fault_of_texts params (take (length params) words))
    (option_map (shifted (length params)) (fault_of_texts params (drop (length params) words)))
    else Some count_fault

-- what is given of arguments, as the words say, each of which is `?` or spells numbers: `?`, and nothing else, stands
-- for every value of a secret parameter
pub record AreGiven (params : List Param) (words : List (List ℕ)) (given : List (Option Arg)) : Type 0 where
  pub faultless : fault_of_given params given ≡ None
  pub numbers : map (λ one. Some (option_map words_of one)) given ≡ map numbers_given words

-- why words give no arguments, of which this is the first fault
abbrev pub IsFaultOfWords : Option ArgumentFault → RunFault → Type 0
IsFaultOfWords first (Argument rule index) = first ≡ Some (record { rule = rule; index = index })
IsFaultOfWords first Memory = ⊤
IsFaultOfWords first (Stopped stop) = ⊥
