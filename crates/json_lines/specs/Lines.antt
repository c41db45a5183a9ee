-- What the members of an object may be, and the object as a line.
use Rattle.std.specs.Prelude.{ℕ, List, [], ◌∷◌, ◌++◌, map}
use Rattle.std.specs.Str.Lines.{lines}
use Rattle.std.specs.Str.Lossy.{utf8_lossy}
use Rattle.serde_json.specs.Data.{array, Data, Members, object, string}
use Rattle.serde_json.specs.View.{items_of}
use Rattle.serde_json.specs.Written.{compact_text}

-- texts in their order
abbrev pub texts_data : List (List ℕ) → Data
texts_data texts = array (items_of (map string texts))

-- the lines of a text; what is no UTF-8 is replaced
abbrev pub lines_data : List ℕ → Data
lines_data text = texts_data (lines (utf8_lossy text))

-- the object with these members without a blank, and a line feed
abbrev pub line_of : Members → List ℕ
line_of members = compact_text (object members) ++ 10 ∷ []
