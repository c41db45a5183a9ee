-- The lines of words, one after another.
use Rattle.std.proofs.Common.{◌≡◌, ℕ, List, [], ◌∷◌, ◌++◌, append_assoc, append-nil, refl}
use Rattle.functions.specs.function_text.AssemblerText.{behind, IsWordLine, line, ListsWords, next_position, nothing}
use Rattle.functions.specs.declared.function_text.notation.Notation.{Notation}

-- the position behind one word more
pub behind_one_more : (at : ℕ) (words : List ℕ) (word : ℕ)
    → behind at (words ++ word ∷ []) ≡ next_position (behind at words)
behind_one_more at [] word = refl
behind_one_more at (first ∷ words) word = behind_one_more (next_position at) words word

-- a word more
pub one_word_more : (notation : Notation) (name : List ℕ) (at word : ℕ) (told words lines : List ℕ)
    → ListsWords notation name at words lines → IsWordLine notation name (behind at words) word told
    → ListsWords notation name at (words ++ word ∷ []) (lines ++ told)
one_word_more notation name at word told [] lines nothing of = rw (← append-nil told) (line of nothing)
one_word_more notation name at word told (first ∷ words) lines (line {told = first_told} {rest = rest} of_first listed) of =
    rw append_assoc
    (line of_first (one_word_more notation name (next_position at) word told words rest listed of))
