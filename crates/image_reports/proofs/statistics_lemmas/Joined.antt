-- Three texts put one behind another.
use Rattle.std.proofs.Common.{◌≡◌, ◌++◌, List, ℕ, ap, ◌∙◌}
use Rattle.std.proofs.lemmas.List.{append_assoc}

pub joined : (old a b c one two three : List ℕ) → one ≡ old ++ a → two ≡ one ++ b → three ≡ two ++ c
    → three ≡ old ++ (a ++ (b ++ c))
joined old a b c one two three first second third =
    third ∙ (ap (λ (l : List ℕ). l ++ c) (second ∙ ap (λ (l : List ℕ). l ++ b) first)
    ∙ (append_assoc (old ++ a) b c ∙ append_assoc old a (b ++ c)))
