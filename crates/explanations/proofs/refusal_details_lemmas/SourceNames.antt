-- Where a name ends a character begins, and where no character begins no name does.
use Rattle.std.proofs.Common.{◌≡◌, ℕ, zero, suc, ◌+◌, ◌<◌, Bool, true, false, List, [], drop, take, length, get_or}
use Rattle.std.proofs.Common.{refl, sym, ap, subst, ⊎_elim, arith}
use Rattle.std.proofs.lemmas.List.Sums.{prefix_len-drop_all, prefix_len-drop_no, prefix_len-le-length, prefix_len_passes}
use Rattle.std.proofs.lemmas.Bool.{cases_lt}
use Rattle.std.proofs.lemmas.Bool.Decides.{nat_tests}
use Rattle.std.proofs.lemmas.Str.{IsCharBoundary-after_ascii, IsCharBoundary-before_ascii, IsCharBoundary-start}
use Rattle.std.specs.List.{prefix_len, take_while}
use Rattle.std.specs.Str.{IsCharBoundary, IsUtf8}
use Rattle.explanations.specs.Below.{is_word_byte}

word_byte_is_ascii : (b : ℕ) → is_word_byte b ≡ true → b < 128
word_byte_is_ascii b e = grind (arith, nat_tests)

pub ends_at_boundary : (text : List ℕ) → IsUtf8 text → IsCharBoundary text (prefix_len is_word_byte text)
ends_at_boundary text utf8 = behind (prefix_len is_word_byte text) refl
  where
    behind : (n : ℕ) → prefix_len is_word_byte text ≡ n → IsCharBoundary text (prefix_len is_word_byte text)
    behind zero e = subst (IsCharBoundary text) (sym e) (IsCharBoundary-start text utf8)
    behind (suc n) e =
        let bound = prefix_len-le-length is_word_byte text in
        let before : n < prefix_len is_word_byte text = omega arith in
        let next : n + 1 ≡ prefix_len is_word_byte text = omega arith in
        let small = word_byte_is_ascii _ (prefix_len_passes is_word_byte text n 0 before) in
        subst (IsCharBoundary text) next (IsCharBoundary-after_ascii text n utf8 (omega arith) small)

no_first : (source : List ℕ) (at : ℕ) (b : Bool) → ¬ IsCharBoundary source at → at < length source
    → is_word_byte (get_or source at 0) ≡ b → prefix_len is_word_byte (drop at source) ≡ 0
no_first source at true inside within e =
    absurd (inside (IsCharBoundary-before_ascii source at within (word_byte_is_ascii _ e)))
no_first source at false inside within e = prefix_len-drop_no is_word_byte source at 0 within e

pub no_name : (source : List ℕ) (at : ℕ) → ¬ IsCharBoundary source at
    → take_while is_word_byte (drop at source) ≡ []
no_name source at inside = ap (λ n. take n (drop at source)) none
  where
    none : prefix_len is_word_byte (drop at source) ≡ 0
    none = ⊎_elim (λ within. no_first source at (is_word_byte (get_or source at 0)) inside within refl)
        (λ behind. prefix_len-drop_all is_word_byte source at behind)
        (cases_lt at (length source))
