-- The line of an instruction of code that others made, as in a listing of code.
use Rattle.std.specs.Prelude.{◌≡◌, ℕ, List, [], ◌∷◌, ◌++◌, codes, Option, None, Some}
use Rattle.rv_code.specs.Compressed.{ExpandsTo}
use Rattle.listing.specs.Lines.{digit_at, eight_digits}
use Rattle.elf_reports.specs.Below.{Instr, IsLineOf, text_of}
use Rattle.elf_reports.specs.declared.encodings.Encoding.{Encoding}
use Rattle.elf_reports.specs.declared.encodings.Encoding.TheVariants.{Halfword, Word}

-- the lowest four hexadecimal digits of a number, the highest first
abbrev pub four_digits : ℕ → List ℕ
four_digits number =
    digit_at number 0x1000 ∷ digit_at number 0x100 ∷ digit_at number 0x10 ∷ digit_at number 1 ∷ []

-- the text of a halfword: that of the instruction that it means, or `illegal` where it means none
pub data IsTextOfHalfword (halfword : ℕ) : List ℕ → Type 0 where
  of_instruction : (i : Instr) → ExpandsTo halfword i → IsTextOfHalfword halfword (text_of i)
  of_no_instruction : ((i : Instr) → ¬ ExpandsTo halfword i) → IsTextOfHalfword halfword (codes "illegal")

-- the line of a halfword that stands at an address
abbrev pub halfword_line : ℕ → ℕ → List ℕ → List ℕ
halfword_line address halfword text =
    eight_digits address ++ codes " " ++ four_digits halfword ++ codes " " ++ text ++ codes "\n"

-- the line of what begins at an address
abbrev pub IsLineOfEncoding : ℕ → Encoding → List ℕ → Type 0
IsLineOfEncoding address (Word word) line = IsLineOf address (Some word) (Some line)
IsLineOfEncoding address (Halfword halfword) line =
    (text : List ℕ) × IsTextOfHalfword halfword text × (line ≡ halfword_line address halfword text)
