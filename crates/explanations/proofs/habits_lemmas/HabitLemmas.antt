-- What is found, and how many there are, is the same of things and of what they are shown as.
use Rattle.std.proofs.Common.{◌≡◌, Bool, true, false, cond, List, [], ◌∷◌, ◌++◌, map, length, suc, Option, Some, refl}
use Rattle.std.proofs.Common.{sym, ap, ◌∙◌}
use Rattle.std.specs.List.{filter, find}
use Rattle.std.specs.Option.{option_map, option_or}
use Rattle.std.proofs.lemmas.List.Folds.{find-append}
use Rattle.explanations.proofs.EitherGroup.{mapped_or}

module _ {X Y : Type 0} (view : X → Y) (test : Y → Bool) where
  found : (xs : List X) → option_map view (find (λ x. test (view x)) xs) ≡ find test (map view xs)
  found [] = refl
  found (x ∷ xs) = by (test (view x)) (found xs)
    where
      by : (b : Bool) → option_map view (find (λ x. test (view x)) xs) ≡ find test (map view xs)
          → option_map view (cond b (Some x) (find (λ x. test (view x)) xs))
          ≡ cond b (Some (view x)) (find test (map view xs))
      by true later = refl
      by false later = later

  -- the first one that passes, of those that are shown as some
  pub found_shown : (xs : List X) (ys : List Y) (first : Option X) → map view xs ≡ ys
      → first ≡ find (λ x. test (view x)) xs → option_map view first ≡ find test ys
  found_shown xs ys first shown is = ap (option_map view) is ∙ found xs ∙ ap (find test) shown

  -- the first one of some and then of others
  pub found_in_both : (one other first : Option X) (ys zs : List Y) → option_map view one ≡ find test ys
      → option_map view other ≡ find test zs → first ≡ option_or one other
      → option_map view first ≡ find test (ys ++ zs)
  found_in_both one other first ys zs is is' both =
      ap (option_map view) both ∙ mapped_or view one other ∙ ap (λ o. option_or o (option_map view other)) is
      ∙ ap (λ o. option_or (find test ys) o) is' ∙ sym (find-append test ys zs)

  pub same_count : (xs : List X) → length (filter (λ x. test (view x)) xs) ≡ length (filter test (map view xs))
  same_count [] = refl
  same_count (x ∷ xs) = by (test (view x)) (same_count xs)
    where
      by : (b : Bool) → length (filter (λ x. test (view x)) xs) ≡ length (filter test (map view xs))
          → length (cond b (x ∷ filter (λ x. test (view x)) xs) (filter (λ x. test (view x)) xs))
          ≡ length (cond b (view x ∷ filter test (map view xs)) (filter test (map view xs)))
      by true later = ap suc later
      by false later = later
