-- The first fault of arguments: their count before all else, then the leftmost faulty argument, its
-- shape before its values.
use Rattle.std.specs.Borrow.{Bor}
use Rattle.std.specs.Prelude.{◌≡◌, ℕ, ◌+◌, Bool, true, false, if◌then◌else◌, nat_le, ◌==◌, List, [], ◌∷◌, length}
use Rattle.std.specs.Prelude.{Option}
use Rattle.std.specs.Prelude.{Some, None}
use Rattle.std.specs.List.{list_all}
use Rattle.std.specs.Option.{option_map}
use Rattle.language.specs.declared.signature.Form.{Form}
use Rattle.language.specs.declared.signature.Form.TheVariants.{SingleWord, FixedArray, MutableArray}
use Rattle.language.specs.declared.signature.Kind.{Kind}
use Rattle.language.specs.declared.signature.Param.{Param}
use Rattle.language.specs.declared.values.Arg.{Arg}
use Rattle.language.specs.declared.values.Arg.TheVariants.{Word, Array}
use Rattle.language.specs.arguments.Within.{greatest_of, words_of}
use Rattle.language.specs.declared.arguments.fault.ArgumentFault.{ArgumentFault}
use Rattle.language.specs.declared.arguments.fault.ArgumentRule.{ArgumentRule}
use Rattle.language.specs.declared.arguments.fault.ArgumentRule.TheVariants.{Count, Shape, Value}

-- whether an argument has the shape of a parameter
abbrev pub has_shape : Form → ℕ → Arg → Bool
has_shape SingleWord n (Word word) = true
has_shape SingleWord n (Array words) = false
has_shape FixedArray n (Word word) = false
has_shape FixedArray n (Array words) = length words == n
has_shape MutableArray n (Word word) = false
has_shape MutableArray n (Array words) = length words == n

-- the rule that words of the right count break
abbrev pub rule_of_words : Kind → List ℕ → Option ArgumentRule
rule_of_words kind words = if list_all (λ word. nat_le word (greatest_of kind)) words then None else Some Value

-- the rule that an argument breaks at its parameter
abbrev pub rule_of : Param → Arg → Option ArgumentRule
rule_of param arg = if has_shape param.form param.length arg then rule_of_words param.kind (words_of arg)
    else Some Shape

-- the fault of the wrong count, which no argument has alone
abbrev pub count_fault : ArgumentFault
count_fault = record { rule = Count; index = None }

-- the same fault, of an argument that stands behind so many others
abbrev pub shifted : ℕ → ArgumentFault → ArgumentFault
shifted others fault = record { rule = fault.rule; index = option_map (λ i. i + others) fault.index }

-- the fault of the argument numbered `at` where it breaks a rule, else a later one
abbrev pub fault_at : ℕ → Option ArgumentRule → Option ArgumentFault → Option ArgumentFault
fault_at at None later = later
fault_at at (Some broken) later = Some (record { rule = broken; index = Some at })

-- a rule that an argument breaks at its parameter is given by `rule`
module _ {P A : Type 0} (rule : P → A → Option ArgumentRule) where
  -- the first fault of arguments that are numbered from `at`
  abbrev pub fault_from : ℕ → List P → List A → Option ArgumentFault
  fault_from at [] args = None
  fault_from at (param ∷ params) [] = None
  fault_from at (param ∷ params) (arg ∷ args) = fault_at at (rule param arg) (fault_from (at + 1) params args)

  -- the first fault, the count's before all else
  abbrev pub fault_by : List P → List A → Option ArgumentFault
  fault_by params args = if length args == length params then fault_from 0 params args else Some count_fault

-- the first fault of arguments
abbrev pub fault_of : List Param → List Arg → Option ArgumentFault
fault_of = fault_by rule_of

-- each call, at references to a parameter and to what is given for it, answers the rule that is broken there
abbrev pub JudgesBy : {P A : Type 0} → (Bor P → Bor A → Option ArgumentRule → Type 0) → (P → A → Option ArgumentRule)
    → Type 0
JudgesBy {P} {A} answers rule = (param : Bor P) (one : Bor A) (broken : Option ArgumentRule)
    → answers param one broken → broken ≡ rule param.now one.now
