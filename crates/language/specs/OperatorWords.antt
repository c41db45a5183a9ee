-- What operators make of words that have a kind.
use Rattle.std.specs.Prelude.{ℕ, if◌then◌else◌}
use Rattle.language.specs.declared.operators.BinaryOperator.{BinaryOperator}
use Rattle.language.specs.declared.operators.PrefixOperator.{PrefixOperator}
use Rattle.language.specs.declared.signature.Kind.{Kind}
use Rattle.language.specs.ExprTyping.{operation_kind}
use Rattle.language.specs.Operators.{operated, operation_of, prefix_value, truth_of, width_of}
use Rattle.language.specs.State.{Word}
use Rattle.word.specs.Operators.{converted, rotated_left}

abbrev pub binary_word : BinaryOperator → Word → Word → Word
binary_word operator a b = record {
  kind = operation_kind (operation_of operator) a.kind;
  value = operated operator (width_of a.kind) a.value b.value;
}

abbrev pub prefix_word : PrefixOperator → Word → Word
prefix_word operator a = record { kind = a.kind; value = prefix_value operator (width_of a.kind) a.value }

abbrev pub rotated_word : ℕ → Word → Word
rotated_word amount a = record { kind = a.kind; value = rotated_left (width_of a.kind) a.value amount }

abbrev pub converted_word : Kind → Word → Word
converted_word kind a = record { kind = kind; value = converted (width_of kind) a.value }

abbrev pub selected_word : Word → Word → Word → Word
selected_word condition accepted otherwise = if truth_of condition.value then accepted else otherwise
