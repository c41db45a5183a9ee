-- Places in texts.
use Rattle.std.specs.Prelude.{ℕ, List, ◌++◌, codes}
use Rattle.std.specs.Fmt.{decimal}
use Rattle.word.specs.declared.place.Place.{Place}

-- the beginning of a text
abbrev pub origin : Place
origin = record { offset = 0; line = 1; column = 1 }

-- how a place is printed
abbrev pub place_text : Place → List ℕ
place_text place = decimal place.line ++ codes ":" ++ decimal place.column
