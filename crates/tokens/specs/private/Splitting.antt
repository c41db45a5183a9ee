-- A text cut at the first byte that passes a test.
use Rattle.std.specs.Prelude.{◌≡◌, ℕ, ◌==◌, Bool, false, true, not, List, [], ◌∷◌, ◌++◌}
use Rattle.std.specs.List.{list_any}
use Rattle.tokens.specs.Spelling.{is_word_byte}

abbrev pub is_no_word_byte : ℕ → Bool
is_no_word_byte b = not (is_word_byte b)

-- the letter that a suffix begins with, which is no digit
abbrev pub is_suffix_letter : ℕ → Bool
is_suffix_letter b = b == 117

-- the bytes are none, or the first passes the test
abbrev pub IsEmptyOrBeginsWith : (ℕ → Bool) → List ℕ → Type 0
IsEmptyOrBeginsWith test [] = Unit {0}
IsEmptyOrBeginsWith test (b ∷ bytes) = test b ≡ true

-- the text is the bytes before the first that passes the test, and the rest
pub record SplitsAtFirst (test : ℕ → Bool) (text front rest : List ℕ) : Type 0 where
  pub parts : text ≡ front ++ rest
  pub before : list_any test front ≡ false
  pub next : IsEmptyOrBeginsWith test rest
