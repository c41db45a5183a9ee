-- In which of several files that are read as one source, libraries and then a file, a place of it stands, and how that
-- is printed.
use Rattle.std.specs.Prelude.{◌≡◌, ℕ, ◌-◌, if◌then◌else◌, nat_le, List, [], ◌∷◌, ◌++◌, map, codes, Option, Some, None}
use Rattle.std.specs.Option.{option_map}
use Rattle.image_reports.specs.declared.source_places.Library.{Library}
use Rattle.image_reports.specs.declared.source_places.Standing.{Standing}
use Rattle.word.specs.Places.{place_text}
use Rattle.word.specs.declared.place.Place.{Place}

-- libraries that were read, by their paths and how many lines each has
abbrev pub numbered_of : List Library → List (List ℕ × ℕ)
numbered_of = map (λ library. (library.path.now, library.lines))

-- where a line of the source stands: in which library, or in none, which is in the file; and which line of that it is,
-- from 1
abbrev pub placed : List (List ℕ × ℕ) → ℕ → Option (List ℕ) × ℕ
placed [] line = (None, line)
placed (library ∷ more) line =
    if nat_le line library.1 then (Some library.0, line) else placed more (line - library.1)

-- a place, at another line
abbrev pub at_line : ℕ → Place → Place
at_line line place = record { offset = place.offset; line = line; column = place.column }

-- where a place of the source stands
abbrev pub IsStanding : List (List ℕ × ℕ) → Place → Standing → Type 0
IsStanding by_lines place standing =
    (option_map (λ path. path.now) standing.library ≡ (placed by_lines place.line).0)
    × (standing.place ≡ at_line (placed by_lines place.line).1 place)

-- a place in a library, behind its path, or in the file
abbrev pub standing_text : Option (List ℕ) → Place → List ℕ
standing_text (Some path) place = path ++ (codes ":" ++ place_text place)
standing_text None place = place_text place

-- a place of the source, where it stands
abbrev pub placed_text : List (List ℕ × ℕ) → Place → List ℕ
placed_text by_lines place =
    standing_text (placed by_lines place.line).0 (at_line (placed by_lines place.line).1 place)
