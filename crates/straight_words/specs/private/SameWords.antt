-- Which variables are words of one type.
use Rattle.std.specs.Prelude.{ℕ, ◌&&◌, Bool, true, false, Option, None, Some}
use Rattle.straight_words.specs.Below.{FlatVariable, same_kind, same_label}

abbrev pub is_word : Option ℕ → Bool
is_word None = true
is_word (Some size) = false

-- two words of one type; one may be assigned to where the other may not, since straight code sets both
abbrev pub same_words : FlatVariable → FlatVariable → Bool
same_words d e =
    is_word d.elements && is_word e.elements && same_kind d.word.kind e.word.kind
    && same_label d.word.label e.word.label

abbrev pub are_alike : Option FlatVariable → Option FlatVariable → Bool
are_alike (Some d) (Some e) = same_words d e
are_alike (Some d) None = false
are_alike None other = false
