-- What the texts of a vector stand for, and how lists of numbers are written beside them.
use Rattle.std.specs.Prelude.{ℕ, Bool, ◌&&◌, nat_eq, nat_lt, if◌then◌else◌, List, [], ◌∷◌, ◌++◌, drop, codes, Result}
use Rattle.std.specs.Prelude.{Ok, Err}
use Rattle.std.specs.Fmt.{decimal}
use Rattle.std.specs.List.{flat_map, list_all, starts_with}
use Rattle.hex.specs.Hex.{decode_of, encode_lower}
use Rattle.hex.specs.declared.error.FromHexError.{FromHexError}

-- numbers with commas between them
abbrev pub numbers_text : List ℕ → List ℕ
numbers_text [] = []
numbers_text (number ∷ numbers) = decimal number ++ flat_map (λ later. codes "," ++ decimal later) numbers

-- whether bytes are written in a text
abbrev pub is_bytes : List ℕ → Bool
is_bytes text = starts_with nat_eq text (codes "hex:")

-- the numbers that digits spell; or the text that has them, where they spell none
abbrev pub plain_of : List ℕ → Result (List ℕ) FromHexError → List ℕ
plain_of text (Ok bytes) = numbers_text bytes
plain_of text (Err fault) = text

-- a text as an argument on the command line is written: `hex:00ff` stands for `0,255`
abbrev pub plain : List ℕ → List ℕ
plain text = if is_bytes text then plain_of text (decode_of (drop 4 text)) else text

-- whether each number is a byte
abbrev pub are_bytes : List ℕ → Bool
are_bytes numbers = list_all (λ number. nat_lt number 256) numbers

-- numbers, written as a text is: as bytes where it is, and each of them is a byte
abbrev pub shown : List ℕ → List ℕ → List ℕ
shown text numbers = if is_bytes text && are_bytes numbers then codes "hex:" ++ encode_lower numbers
    else numbers_text numbers

-- lists of numbers, each with a blank before it, written as texts are
abbrev pub all_shown : List (List ℕ) → List (List ℕ) → List ℕ
all_shown texts [] = []
all_shown [] (numbers ∷ lists) = codes " " ++ numbers_text numbers ++ all_shown [] lists
all_shown (text ∷ texts) (numbers ∷ lists) = codes " " ++ shown text numbers ++ all_shown texts lists

-- that lists of numbers are not those which texts ask for
abbrev pub difference_text : List (List ℕ) → List (List ℕ) → List ℕ
difference_text wanted lists = codes "expected" ++ flat_map (λ text. codes " " ++ text) wanted ++ codes ", got"
    ++ all_shown wanted lists
