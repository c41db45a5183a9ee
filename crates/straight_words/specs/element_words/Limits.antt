-- The greatest counts of what becomes words.
use Rattle.std.specs.Prelude.{ℕ, ◌/◌}
use Rattle.straight_words.specs.Below.{most_variable_bytes}

-- elements of an array that becomes words
abbrev pub most_elements_split : ℕ
most_elements_split = 256

-- words that arrays become, in all
abbrev pub most_new_words : ℕ
most_new_words = 512

-- words that the variables may take, in all
abbrev pub most_variable_words : ℕ
most_variable_words = most_variable_bytes / 4
