-- What is made of operands that are well typed.
use Rattle.std.specs.Prelude.{None, Option}
use Rattle.std.specs.Option.{option_map, option_or}
use Rattle.labels.specs.Below.{Typed, typed_as, ValueType}

-- a value of a type that is made of theirs: the first secret name in it is the first in them, and it is no number
abbrev pub of_operand : (ValueType → Option ValueType) → Typed → Option Typed
of_operand type a = option_map (typed_as a.secret None) (type a.value)

abbrev pub of_operands : (ValueType → ValueType → Option ValueType) → Typed → Typed → Option Typed
of_operands type a b = option_map (typed_as (option_or a.secret b.secret) None) (type a.value b.value)

abbrev pub of_choice : (ValueType → ValueType → ValueType → Option ValueType) → Typed → Typed → Typed → Option Typed
of_choice type a b c =
    option_map (typed_as (option_or a.secret (option_or b.secret c.secret)) None) (type a.value b.value c.value)
