-- The first of three that there is; and the calls in what a loop has come to, and in what is left.
use Rattle.std.proofs.Common.{◌≡◌, ℕ, ◌+◌, ◌<◌, ◌∷◌, ◌++◌, List, drop, get_or, length, Option, None, Some, refl, ap, sym}
use Rattle.std.proofs.Common.{append_assoc, ◌∙◌}
use Rattle.std.proofs.lemmas.List.{drop_more}
use Rattle.std.specs.Option.{option_or}
use Rattle.explanations.specs.Below.{Place}

-- the first of two, or else a third, is the first, or else the first of the others
pub or_assoc : {X : Type 0} (one other third : Option X)
    → option_or (option_or one other) third ≡ option_or one (option_or other third)
or_assoc None other third = refl
or_assoc (Some x) other third = refl

-- the calls in one more of some things, of which those in a list stand one behind the other
module _ {X : Type 0} (here : X → List Place) (all : List X → List Place)
    (splits : (x : X) (xs : List X) → all (x ∷ xs) ≡ here x ++ all xs) where
  pub one_more : (xs : List X) (i : ℕ) (x : X) (found more whole : List Place) → i < length xs → x ≡ get_or xs i x
      → more ≡ found ++ here x → found ++ all (drop i xs) ≡ whole → more ++ all (drop (i + 1) xs) ≡ whole
  one_more xs i x found more whole within is now before =
      let next : drop i xs ≡ x ∷ drop (i + 1) xs =
      drop_more xs i x within ∙ ap (λ y. y ∷ drop (i + 1) xs) (sym is) in
      rw (now, append_assoc, ← splits x (drop (i + 1) xs), ← next) before
