-- The homes of words but those of some.
use Rattle.std.proofs.Common.{◌≡◌, ℕ, zero, suc, ◌+◌, Bool, List, [], ◌∷◌, Option, None, Some, refl, ap, ◌∙◌, arith}
use Rattle.std.proofs.Common.{if◌then◌else◌}
use Rattle.codegen.proofs.Choices.{of_choice}
use Rattle.expression_code.specs.Allocation.{home_of}
use Rattle.codegen.specs.private.Fresh.{homes_but}

pub homes_behind : (left_out : ℕ → Bool) (k : ℕ) (homes : List (Option ℕ)) (x : ℕ)
    → home_of (homes_but left_out k homes) x ≡ (if left_out (k + x) then None else home_of homes x)
homes_behind left_out k [] x = of_choice (λ (o : Option ℕ). None ≡ o) (left_out (k + x)) refl refl
homes_behind left_out k (None ∷ homes) zero = of_choice (λ (o : Option ℕ). None ≡ o) (left_out (k + 0)) refl refl
homes_behind left_out k (Some home ∷ homes) zero =
    let here : k ≡ k + 0 = omega arith in
    ap (λ n. if left_out n then None else Some home) here
homes_behind left_out k (None ∷ homes) (suc x) =
    let next : k + 1 + x ≡ k + suc x = omega arith in
    homes_behind left_out (k + 1) homes x
    ∙ ap (λ n. if left_out n then None else home_of homes x) next
homes_behind left_out k (Some home ∷ homes) (suc x) =
    let next : k + 1 + x ≡ k + suc x = omega arith in
    homes_behind left_out (k + 1) homes x
    ∙ ap (λ n. if left_out n then None else home_of homes x) next

-- the home of a word
pub homes_left : (left_out : ℕ → Bool) (homes : List (Option ℕ)) (x : ℕ)
    → home_of (homes_but left_out 0 homes) x ≡ (if left_out x then None else home_of homes x)
homes_left left_out homes x =
    let here : 0 + x ≡ x = omega arith in
    homes_behind left_out 0 homes x ∙ ap (λ n. if left_out n then None else home_of homes x) here
