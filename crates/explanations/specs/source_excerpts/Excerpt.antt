-- A line of a source with a place marked: what is shown of it, byte by byte.
use Rattle.std.specs.Prelude.{ℕ, ◌-◌, ◌==◌, nat_lt, Bool, ◌&&◌, ◌||◌, if◌then◌else◌, List, [], ◌∷◌, ◌++◌, length}
use Rattle.std.specs.Prelude.{take, drop, reverse, codes}
use Rattle.std.specs.Fmt.{decimal}
use Rattle.std.specs.List.{flat_map, position}
use Rattle.std.specs.Option.{unwrap_or}
use Rattle.explanations.specs.Below.{Place}

-- how many bytes of a line are shown on each side of the place
abbrev pub most_shown : ℕ
most_shown = 100

-- LF
abbrev pub is_line_feed : ℕ → Bool
is_line_feed byte = byte == 10

-- LF or CR
abbrev pub is_line_end : ℕ → Bool
is_line_end byte = byte == 10 || byte == 13

-- a byte of UTF-8 that only continues a character
abbrev pub continues : ℕ → Bool
continues byte = nat_lt 127 byte && nat_lt byte 192

-- a byte that is shown as it is: a tab, or a printable character of ASCII
abbrev pub is_printable : ℕ → Bool
is_printable byte = byte == 9 || nat_lt 31 byte && nat_lt byte 127

-- how a byte is shown: each other character is one `?`
abbrev pub shown_byte : ℕ → List ℕ
shown_byte byte = if continues byte then [] else if is_printable byte then byte ∷ [] else codes "?"

-- what stands below it: a tab below a tab, else a space below each character
abbrev pub blank_byte : ℕ → List ℕ
blank_byte byte = if continues byte then [] else if byte == 9 then byte ∷ [] else codes " "

abbrev pub shown : List ℕ → List ℕ
shown = flat_map shown_byte

abbrev pub blanks : List ℕ → List ℕ
blanks = flat_map blank_byte

-- of the bytes before a place those that are on its line: those behind the last line feed, or all where there is none
abbrev pub last_line : List ℕ → List ℕ
last_line bytes = drop (length bytes - unwrap_or (position is_line_feed (reverse bytes)) (length bytes)) bytes

-- of the bytes from a place on those that are on its line: those before the first line end, or all where there is
-- none
abbrev pub first_line : List ℕ → List ℕ
first_line bytes = take (unwrap_or (position is_line_end bytes) (length bytes)) bytes

-- three dots stand for what is left out of a long part of a line
abbrev pub dots : List ℕ → List ℕ
dots part = if nat_lt most_shown (length part) then codes "..." else []

-- the last bytes of a part
abbrev pub end_of : List ℕ → List ℕ
end_of part = drop (length part - most_shown) part

-- a line whose part before the place and from the place on are shown so, with dots or without, and what stands below
-- the first
abbrev pub line_text : List ℕ → List ℕ → List ℕ → List ℕ → List ℕ
line_text dots_before front back dots_behind = shown dots_before ++ shown front ++ shown back ++ shown dots_behind

abbrev pub below_text : List ℕ → List ℕ → List ℕ
below_text dots_before front = blanks dots_before ++ blanks front

-- a line behind its number, and below it the mark
abbrev pub marked_text : List ℕ → List ℕ → List ℕ → List ℕ → List ℕ
marked_text number line margin below =
    codes "  "
    ++ (number
    ++ (codes " | " ++ (line ++ (codes "\n  " ++ (margin ++ (codes " | " ++ (below ++ codes "^\n")))))))

-- what is shown of a source at a place
abbrev pub excerpt_text : List ℕ → Place → List ℕ
excerpt_text source place =
    let number : List ℕ = decimal place.line in
    let front : List ℕ = last_line (take place.offset source) in
    let back : List ℕ = first_line (drop place.offset source) in
    marked_text number (line_text (dots front) (end_of front) (take most_shown back) (dots back)) (blanks number)
    (below_text (dots front) (end_of front))
