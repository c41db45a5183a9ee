-- What the names of a running body hold.
use Rattle.std.specs.Prelude.{ℕ, List, Option, Some, None, if◌then◌else◌}
use Rattle.std.specs.Str.{bytes_eq}
use Rattle.language.specs.declared.signature.Kind.{Kind}

-- a word with its kind, a bool being 0 or 1
pub record Word : Type 0 where
  pub kind : Kind
  pub value : ℕ

pub data Value : Type 0 where
  single : (word : Word) → Value
  array : (kind : Kind) (words : List ℕ) → Value

-- each name in scope holds a value
abbrev pub State : Type 0
State = List ℕ → Option Value

abbrev pub empty : State
empty = λ text. None

-- the state in which a name holds another value
abbrev pub with_value : State → List ℕ → Value → State
with_value s text v = λ other. if bytes_eq other text then Some v else s other
