-- What is printed below a refusal's line.
use Rattle.std.specs.Prelude.{◌≡◌, ℕ, List, [], ◌++◌, Option, None, Some}
use Rattle.explanations.specs.Table.{text_of}
use Rattle.explanations.specs.Below.{code_of, Place, Refusal}
use Rattle.explanations.specs.refusal_details.Details.{SaysDetails}
use Rattle.explanations.specs.source_excerpts.Excerpt.{excerpt_text}

-- the line of a source at a place, marked
abbrev pub place_lines : List ℕ → Option Place → List ℕ
place_lines source None = []
place_lines source (Some place) = excerpt_text source place

-- the place in the source, what is said of what there is, and the text that the table has for the rule of the refusal,
-- without its last line's end
pub record Explains (source : List ℕ) (refusal : Refusal) (lines : List ℕ) : Type 0 where
  pub text : List ℕ
  pub details : List ℕ
  pub of_rule : text_of (code_of refusal.rule) ≡ Some text
  pub said : SaysDetails source refusal details
  pub printed : lines ≡ place_lines source refusal.place ++ (details ++ text)
