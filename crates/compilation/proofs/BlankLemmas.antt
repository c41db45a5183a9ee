-- The offsets of words, one more at a time.
use Rattle.std.proofs.Common.{◌≡◌, ℕ, zero, suc, ◌+◌, ◌-◌, List, [], ◌∷◌, ◌++◌, ap, append_assoc, arith, refl, sym, ◌∙◌}
use Rattle.compilation.specs.Blank.{words_from}

words_more : (low n : ℕ) → (n ≡ 0 → ⊥) → words_from low n ≡ low ∷ words_from (low + 4) (n - 1)
words_more low zero some = absurd (some refl)
words_more low (suc n) some =
    let less : n ≡ suc n - 1 = omega arith in ap (λ k. low ∷ words_from (low + 4) k) less

-- the first of those that are left is put at the end
pub one_more : (before after all : List ℕ) (low n : ℕ) → (n ≡ 0 → ⊥) → after ≡ before ++ low ∷ []
    → before ++ words_from low n ≡ all → after ++ words_from (low + 4) (n - 1) ≡ all
one_more before after all low n some pushed kept =
    ap (λ (xs : List ℕ). xs ++ words_from (low + 4) (n - 1)) pushed
    ∙ (append_assoc before (low ∷ []) (words_from (low + 4) (n - 1))
    ∙ (ap (λ (xs : List ℕ). before ++ xs) (sym (words_more low n some)) ∙ kept))
