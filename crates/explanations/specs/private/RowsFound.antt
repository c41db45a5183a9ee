-- What is found of a code in a group of rows.
use Rattle.std.specs.Prelude.{◌≡◌, ◌↔◌, ℕ, Contains, IfSome, IsSome, List, Option}
use Rattle.std.specs.Option.{option_map}
use Rattle.explanations.specs.Table.{HasItsName, Row, text_in}
use Rattle.explanations.specs.declared.row.Explanation.{Explanation}

-- what is found is the row of a code in a group that has these codes, with these texts
pub record IsRowOf (listed : List (List ℕ)) (texts : List Row) (code : List ℕ) (found : Option Explanation) :
    Type 0 where
  pub text : option_map (λ row. row.rule.now) found ≡ text_in texts code
  pub asked : IfSome found (λ row. row.code.now ≡ code)
  pub named : IfSome found HasItsName
  pub known : IsSome found ↔ Contains listed code
