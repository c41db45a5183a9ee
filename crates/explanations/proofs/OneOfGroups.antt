-- A row is in one of two groups of rows.
use Rattle.std.proofs.Common.{◌≡◌, List, ◌++◌, Option, None, Some, IsSome, Contains, ◌↔◌, refl, sym, subst, ⊎_elim}
use Rattle.std.specs.Option.{option_or}
use Rattle.std.proofs.lemmas.List.Elements.{Contains-append_left, Contains-append_right, Contains-append_cases}

module _ {Row Code : Type 0} (code : Code) (ones others : List Code) where
  in_either : (one other : Option Row) → IsSome one ↔ Contains ones code → IsSome other ↔ Contains others code
      → IsSome (option_or one other) ↔ Contains (ones ++ others) code
  in_either None other a b = (
    λ some. Contains-append_right ones others code (b.0 some),
    λ there. ⊎_elim (λ left. absurd (let some : IsSome {T = Row} None = a.1 left in cc)) (λ right. b.1 right)
        (Contains-append_cases ones others code there),
  )
  in_either (Some row) other a b = (λ some. Contains-append_left ones others code (a.0 refl), λ there. refl)

  pub known_in_either : (one other found : Option Row) → found ≡ option_or one other
      → IsSome one ↔ Contains ones code
      → IsSome other ↔ Contains others code
      → IsSome found ↔ Contains (ones ++ others) code
  known_in_either one other found is a b =
      subst (λ o. IsSome o ↔ Contains (ones ++ others) code) (sym is) (in_either one other a b)
