-- The listing of code, a word at a time.
use Rattle.std.proofs.Common.{◌≡◌, ℕ, ◌+◌, ◌*◌, List, [], ◌∷◌, ◌++◌, length, append_assoc, append-nil, arith}
use Rattle.listing.specs.Code.{IsTextOf, word_line, ListsCode, nothing, line}

-- a word more
pub one_word_more : (base word : ℕ) (text words bytes : List ℕ) → ListsCode base words bytes → IsTextOf word text
    → ListsCode base (words ++ word ∷ []) (bytes ++ word_line (base + 4 * length words) word text)
one_word_more base word text [] bytes nothing of =
    let here : base + 4 * 0 ≡ base = omega arith in
    rw (here, ← append-nil (word_line base word text)) (line of nothing)
one_word_more base word text (first ∷ words) bytes (line {rest = rest} of_first listed) of =
    let there : base + 4 * length (first ∷ words) ≡ (base + 4) + 4 * length words = omega arith in
    rw (append_assoc, there) (line of_first (one_word_more (base + 4) word text words rest listed of))
