-- What the text of an argument spells: numbers joined by commas, each decimal digits, or `0x` and
-- hexadecimal digits of either case.
use Rattle.std.specs.Prelude.{ℕ, ◌+◌, ◌*◌, ◌^◌, if◌then◌else◌, nat_lt, nat_eq, ◌==◌, List, [], ◌∷◌, length, drop}
use Rattle.std.specs.Prelude.{codes, Option, Some, None}
use Rattle.std.specs.Char.{digit_value}
use Rattle.std.specs.List.{slice_split, starts_with}
use Rattle.std.specs.Option.{option_map, option_and_then}
use Rattle.language.specs.declared.signature.Form.{Form}
use Rattle.language.specs.declared.signature.Form.TheVariants.{SingleWord, FixedArray, MutableArray}
use Rattle.language.specs.declared.signature.Param.{Param}
use Rattle.language.specs.arguments.Faults.{fault_by, rule_of_words}
use Rattle.language.specs.declared.arguments.fault.ArgumentFault.{ArgumentFault}
use Rattle.language.specs.declared.arguments.fault.ArgumentRule.{ArgumentRule}
use Rattle.language.specs.declared.arguments.fault.ArgumentRule.TheVariants.{Shape}

-- the number that digits of a base spell behind a number
abbrev pub number_after : ℕ → ℕ → List ℕ → Option ℕ
number_after base front [] = Some front
number_after base front (digit ∷ digits) = if nat_lt (digit_value digit) base
    then number_after base (front * base + digit_value digit) digits else None

-- the number that digits of a base spell: one digit or more, and nothing else
abbrev pub number_in : ℕ → List ℕ → Option ℕ
number_in base [] = None
number_in base (digit ∷ digits) = number_after base 0 (digit ∷ digits)

-- the number that a text spells
abbrev pub number_of : List ℕ → Option ℕ
number_of text = if starts_with nat_eq text (codes "0x") then number_in 16 (drop 2 text) else number_in 10 text

-- the numbers that texts spell, where each of them spells one
abbrev pub each_number : List (List ℕ) → Option (List ℕ)
each_number [] = Some []
each_number (part ∷ parts) = option_and_then (λ number. option_map (λ numbers. number ∷ numbers) (each_number parts))
    (number_of part)

-- what stands before, between and after the commas of a text; a comma is the byte 44
abbrev pub parts_of : List ℕ → List (List ℕ)
parts_of text = slice_split (λ byte. byte == 44) text

-- the numbers that a text spells between its commas
abbrev pub numbers_of : List ℕ → Option (List ℕ)
numbers_of text = each_number (parts_of text)

-- the number that a text spells, where it fits a word
abbrev pub word_of : List ℕ → Option ℕ
word_of text = option_and_then (λ number. if nat_lt number (2 ^ 32) then Some number else None) (number_of text)

-- how many numbers a parameter takes
abbrev pub count_of : Form → ℕ → ℕ
count_of SingleWord n = 1
count_of FixedArray n = n
count_of MutableArray n = n

-- the rule that the numbers of a text break at a parameter
abbrev pub rule_of_numbers : Param → Option (List ℕ) → Option ArgumentRule
rule_of_numbers param None = Some Shape
rule_of_numbers param (Some numbers) = if length numbers == count_of param.form param.length
    then rule_of_words param.kind numbers else Some Shape

-- the rule that a text breaks at its parameter
abbrev pub rule_of_text : Param → List ℕ → Option ArgumentRule
rule_of_text param text = rule_of_numbers param (numbers_of text)

-- the first fault of texts
abbrev pub fault_of_texts : List Param → List (List ℕ) → Option ArgumentFault
fault_of_texts = fault_by rule_of_text
