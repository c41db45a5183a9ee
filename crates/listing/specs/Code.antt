-- The listing of code: a line for each word, with its address and its text.
use Rattle.std.specs.Prelude.{◌≡◌, ◌≢◌, ℕ, ◌+◌, List, [], ◌∷◌, ◌++◌, codes, Option, Some, None}
use Rattle.rv_code.specs.declared.instructions.Instr.{Instr}
use Rattle.listing.specs.Below.{MachineCode, text_of, word_at}
use Rattle.rv_code.specs.Words.{word_of, IsInstr}
use Rattle.listing.specs.Lines.{word_head}

-- the text of a word: that of its instruction, or `illegal` where it is the word of none
pub data IsTextOf (word : ℕ) : List ℕ → Type 0 where
  of_instruction : (i : Instr) → IsInstr i → word_of i ≡ word → IsTextOf word (text_of i)
  of_no_instruction : ((i : Instr) → IsInstr i → word_of i ≢ word) → IsTextOf word (codes "illegal")

-- the line of a word that stands at an address
abbrev pub word_line : ℕ → ℕ → List ℕ → List ℕ
word_line address word text = word_head address word ++ text ++ codes "\n"

-- the listing of words that stand one after another from an address on
pub data ListsCode : ℕ → List ℕ → List ℕ → Type 0 where
  nothing : {address : ℕ} → ListsCode address [] []
  line : {address word : ℕ} {words text rest : List ℕ} → IsTextOf word text → ListsCode (address + 4) words rest
      → ListsCode address (word ∷ words) (word_line address word text ++ rest)

-- the line of a word at an address, where there is one
abbrev pub IsLineOf : ℕ → Option ℕ → Option (List ℕ) → Type 0
IsLineOf address (Some word) told = (text : List ℕ) × IsTextOf word text × (told ≡ Some (word_line address word text))
IsLineOf address None told = told ≡ None

-- the line of the word of code that begins at an address, and none where none does
abbrev pub IsLineAt : MachineCode → ℕ → Option (List ℕ) → Type 0
IsLineAt code address told = IsLineOf address (word_at code address) told
