-- A loop that puts what a list makes behind one another: what is made so far and what is left make the whole.
use Rattle.std.proofs.Common.{◌≡◌, ℕ, ◌+◌, ◌<◌, ◌≤◌, ◌++◌, ◌∙◌, List, [], ◌∷◌, ap, append-nil, append_assoc, arith, drop, get_or}
use Rattle.std.proofs.Common.{length, length-drop, sym}
use Rattle.std.proofs.lemmas.List.{at_drop_all, drop_more}

module _ {X : Type 0} (xs : List X) (i : ℕ) where
  -- an item, and what is left behind it
  pub next_item : (x : X) → i < length xs → x ≡ get_or xs i x → drop i xs ≡ x ∷ drop (i + 1) xs
  next_item x less is = drop_more xs i x less ∙ ap (λ y. y ∷ drop (i + 1) xs) (sym is)

  -- a number that counts with a list stays as far from where it ends
  pub one_counted : (count most : ℕ) → i < length xs → count + length (drop i xs) ≤ most
      → count + 1 + length (drop (i + 1) xs) ≤ most
  one_counted count most less held = omega (arith, less, held, length-drop i xs, length-drop (i + 1) xs)

module _ {X Y : Type 0} (makes : List X → List Y) (xs : List X) (i : ℕ) where
  -- what the next of the list makes is put behind what is made
  pub one_more : (x : X) (front rest old new whole : List Y) → drop i xs ≡ x ∷ drop (i + 1) xs
      → makes (x ∷ drop (i + 1) xs) ≡ front ++ rest → new ≡ old ++ front → old ++ makes (drop i xs) ≡ whole
      → new ++ rest ≡ whole
  one_more x front rest old new whole next parts pushed held =
      ap (λ ys. ys ++ rest) pushed ∙ append_assoc old front rest
      ∙ ap (λ ys. old ++ ys) (sym (ap makes next ∙ parts)) ∙ held

  -- where nothing is left, all is made
  pub all_made : (made whole : List Y) → makes [] ≡ [] → length xs ≤ i → made ++ makes (drop i xs) ≡ whole
      → made ≡ whole
  all_made made whole none done held =
      sym (append-nil made) ∙ ap (λ ys. made ++ ys) (sym (at_drop_all makes xs i done ∙ none)) ∙ held
