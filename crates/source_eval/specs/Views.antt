-- Words, values and variables of the running program as the definitions of meaning see them.
use Rattle.std.specs.Option.{option_map}
use Rattle.std.specs.Str.{bytes_eq}
use Rattle.indexmap.specs.IndexMap.{get_by}
use Rattle.source_eval.specs.Below.{single, State}
use Rattle.language.specs.State.{array}
use Rattle.language.specs.State as state
use Rattle.source_eval.specs.declared.values.Value.{Value}
use Rattle.source_eval.specs.declared.values.Value.TheVariants.{Single, Array}
use Rattle.source_eval.specs.declared.values.Word.{Word}
use Rattle.source_eval.specs.declared.variables.Variables.{Variables}

abbrev pub word_of : Word → state.Word
word_of w = record { kind = w.kind; value = w.value }

abbrev pub value_of : Value → state.Value
value_of (Single w) = single (word_of w)
value_of (Array kind words) = array kind words.items

-- what each name holds
unfoldable pub held : Variables → State
held variables text = option_map value_of (get_by (λ key. bytes_eq text key.now) variables.values)
