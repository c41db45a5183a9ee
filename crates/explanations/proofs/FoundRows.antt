-- A row is found by its code exactly where a row has that code.
use Rattle.std.proofs.Common.{◌≡◌, ℕ, zero, Bool, true, false, cond, List, [], ◌∷◌, map, Option, Some, IsSome}
use Rattle.std.proofs.Common.{Contains, ◌↔◌, refl, sym, ◌∙◌, subst, arith, true≢false}
use Rattle.std.specs.List.{find}
use Rattle.std.specs.Option.{option_map}
use Rattle.std.specs.Str.{bytes_eq}
use Rattle.explanations.specs.Table.{text_in}
use Rattle.std.proofs.lemmas.List.Elements.{Contains-append_right}
use Rattle.std.proofs.lemmas.Map.Made.{Contains-tail}
use Rattle.std.proofs.lemmas.Slice.Eq.{bytes_eq-Decides}

module _ {Row : Type 0} (code_of : Row → List ℕ) (code : List ℕ) where
  abbrev has_code : Row → Bool
  has_code row = bytes_eq (code_of row) code

  found_is_there : (rows : List Row) → IsSome (find has_code rows) → Contains (map code_of rows) code
  found_is_there [] found = absurd (cc)
  found_is_there (row ∷ rows) found = by (has_code row) refl found (found_is_there rows)
    where
      by : (v : Bool) → has_code row ≡ v → IsSome (cond v (Some row) (find has_code rows))
          → (IsSome (find has_code rows) → Contains (map code_of rows) code)
          → Contains (code_of row ∷ map code_of rows) code
      by true v found later = (zero, omega arith, (bytes_eq-Decides (code_of row) code).0 v)
      by false v found later = Contains-append_right (code_of row ∷ []) (map code_of rows) code (later found)

  there_is_found : (rows : List Row) → Contains (map code_of rows) code → IsSome (find has_code rows)
  there_is_found [] there = absurd (omega arith)
  there_is_found (row ∷ rows) there = by (has_code row) refl (there_is_found rows)
    where
      by : (v : Bool) → has_code row ≡ v → (Contains (map code_of rows) code → IsSome (find has_code rows))
          → IsSome (cond v (Some row) (find has_code rows))
      by true v later = refl
      by false v later =
          later (Contains-tail (code_of row) (map code_of rows) code
          (λ same. absurd (true≢false (sym ((bytes_eq-Decides (code_of row) code).1 same) ∙ v))) there)

  pub found_by_code : (rows : List Row) (found : Option Row) → found ≡ find has_code rows
      → IsSome found ↔ Contains (map code_of rows) code
  found_by_code rows found is =
      subst (λ o. IsSome o ↔ Contains (map code_of rows) code) (sym is) (found_is_there rows, there_is_found rows)

-- what is found of a row is found by the code in pairs of codes and that
module _ {Row : Type 0} (code_of text_of : Row → List ℕ) (code : List ℕ) where
  pub found_text : (rows : List Row) → option_map text_of (find (λ row. bytes_eq (code_of row) code) rows)
      ≡ text_in (map (λ row. (code_of row, text_of row)) rows) code
  found_text [] = refl
  found_text (row ∷ rows) = by (bytes_eq (code_of row) code) (found_text rows)
    where
      by : (v : Bool) → option_map text_of (find (λ row. bytes_eq (code_of row) code) rows)
          ≡ text_in (map (λ row. (code_of row, text_of row)) rows) code
          → option_map text_of (cond v (Some row) (find (λ row. bytes_eq (code_of row) code) rows))
          ≡ option_map (λ (pair : List ℕ × List ℕ). pair.1) (cond v (Some (code_of row, text_of row))
          (find (λ (pair : List ℕ × List ℕ). bytes_eq pair.0 code) (map (λ row. (code_of row, text_of row)) rows)))
      by true later = refl
      by false later = later
