-- What texts say of arguments that are given or not: `?` stands for every value of a secret parameter.
use Rattle.std.specs.Prelude.{ℕ, List, codes, Option, Some, None, if◌then◌else◌}
use Rattle.std.specs.Option.{option_map}
use Rattle.std.specs.Str.{bytes_eq}
use Rattle.image_reports.specs.Below.{ArgumentFault, ArgumentRule, fault_by, numbers_of, Param, rule_of_text}
use Rattle.image_reports.specs.certificates.Given.{rule_of_unknown}

-- the text of an argument that is not given
abbrev pub unknown_text : List ℕ
unknown_text = codes "?"

-- what a text gives: `?`, and nothing else, gives no value; another gives the numbers that it spells, if it spells any
abbrev pub numbers_given : List ℕ → Option (Option (List ℕ))
numbers_given text = if bytes_eq text unknown_text then Some None else option_map Some (numbers_of text)

-- the rule that a text breaks at its parameter
abbrev pub rule_of_given_text : Param → List ℕ → Option ArgumentRule
rule_of_given_text param text = if bytes_eq text unknown_text then rule_of_unknown param.label
    else rule_of_text param text

-- the first fault of texts
abbrev pub fault_of_given_texts : List Param → List (List ℕ) → Option ArgumentFault
fault_of_given_texts = fault_by rule_of_given_text
