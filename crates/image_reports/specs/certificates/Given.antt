-- What is given of arguments: each has a value, or stands for every value of its type. Which arguments agree with
-- that, and what is wrong with it.
use Rattle.std.specs.Prelude.{List, [], ◌∷◌, Option, Some, None}
use Rattle.image_reports.specs.Below.{AreWithin, Arg, ArgumentFault, ArgumentRule, fault_by, Label, Param, Public}
use Rattle.image_reports.specs.Below.{rule_of, Secret}
use Rattle.language.specs.declared.arguments.fault.ArgumentRule.TheVariants.{Shape}

-- arguments, one for each that is given or not, which have the given values
pub data AreAsGiven : List (Option Arg) → List Arg → Type 0 where
  no_more : AreAsGiven [] []
  as_given : {arg : Arg} {given : List (Option Arg)} {args : List Arg} → AreAsGiven given args
      → AreAsGiven (Some arg ∷ given) (arg ∷ args)
  any_value : {arg : Arg} {given : List (Option Arg)} {args : List Arg} → AreAsGiven given args
      → AreAsGiven (None ∷ given) (arg ∷ args)

-- arguments within the parameter types that have the given values
pub record Completes (params : List Param) (given : List (Option Arg)) (args : List Arg) : Type 0 where
  pub within : AreWithin params args
  pub fits : AreAsGiven given args

-- the rule that is broken where a parameter of this label has no value: what is public is to be given
abbrev pub rule_of_unknown : Label → Option ArgumentRule
rule_of_unknown Public = Some Shape
rule_of_unknown Secret = None

-- the rule that is broken at a parameter: a given value's own, as of any argument
abbrev pub rule_of_given : Param → Option Arg → Option ArgumentRule
rule_of_given param (Some arg) = rule_of param arg
rule_of_given param None = rule_of_unknown param.label

-- the first fault of what is given: the count before all else, then the leftmost
abbrev pub fault_of_given : List Param → List (Option Arg) → Option ArgumentFault
fault_of_given = fault_by rule_of_given
