-- Which bytes are of which sort.
use Rattle.std.proofs.Common.{◌≡◌, ℕ, ◌<◌, true, false, arith}
use Rattle.std.proofs.lemmas.Bool.Decides.{nat_tests}
use Rattle.tokens.specs.Spelling.{is_blank, is_word_byte}
use Rattle.tokens.specs.private.Splitting.{is_no_word_byte}

pub word_byte_ascii : (b : ℕ) → is_no_word_byte b ≡ false → b < 128
word_byte_ascii b e = grind (arith, nat_tests)

pub blank_is_no_word_byte : (b : ℕ) → is_blank b ≡ true → is_word_byte b ≡ false
blank_is_no_word_byte b e = grind (arith, nat_tests)

pub blank_ascii : (b : ℕ) → is_blank b ≡ true → b < 128
blank_ascii b e = grind (arith, nat_tests)
