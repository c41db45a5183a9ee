-- How an explanation is printed.
use Rattle.std.specs.Prelude.{ℕ, List, [], ◌++◌, length, nat_eq, if◌then◌else◌, codes}
use Rattle.explanations.specs.declared.row.Explanation.{Explanation}

-- a source that violates the rule and the same corrected, where there is one
abbrev pub sources_text : List ℕ → List ℕ → List ℕ
sources_text violates corrected =
    if nat_eq (length violates) 0 then []
    else codes "\n\nRefused:\n\n" ++ (violates ++ (codes "\n\nAccepted:\n\n" ++ corrected))

-- the code with the rule's name, the rule, and the sources
abbrev pub explanation_text : Explanation → List ℕ
explanation_text it =
    it.code.now ++ codes ": " ++ it.name.now ++ codes "\n\n" ++ it.rule.now
    ++ sources_text it.violates.now it.corrected.now
