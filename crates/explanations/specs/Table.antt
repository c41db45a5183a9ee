-- The texts of the rules and of the stops, by their codes, and the names of the rules.
use Rattle.std.specs.Prelude.{◌≡◌, ℕ, List, ◌∷◌, [], ◌++◌, codes, Option}
use Rattle.std.specs.List.{find}
use Rattle.std.specs.Option.{option_map}
use Rattle.std.specs.Str.{bytes_eq}
use Rattle.explanations.specs.declared.row.Explanation.{Explanation}
use Rattle.explanations.specs.declared.rows.executables.TheConstants.{C1, C2, C3, G1, G2, G3, G4, G5, F1}
use Rattle.explanations.specs.declared.rows.inputs.TheConstants.{B1, B2, B3, B4, B5, B6, A1, A2, A3, H1, H2, H3, H4}
use Rattle.explanations.specs.declared.rows.inputs.TheConstants.{V1, V2}
use Rattle.explanations.specs.declared.rows.limits.TheConstants.{S1, S2, I1, I2, S3, M1}
use Rattle.explanations.specs.declared.rows.names.TheConstants.{N1, N2, N3, N4}
use Rattle.explanations.specs.declared.rows.reading.TheConstants.{X1, X2, X3, X4, X5}
use Rattle.explanations.specs.declared.rows.runs.TheConstants.{E1, E2, ECALL, BREAK, ILLEGAL, ACCESS_FAULT}
use Rattle.explanations.specs.declared.rows.runs.TheConstants.{MISALIGNED, BUDGET, RECORDER_REFUSED}
use Rattle.explanations.specs.declared.rows.secrecy.TheConstants.{L1, L2, L3, L4, L5, L6, L7}
use Rattle.explanations.specs.declared.rows.types.TheConstants.{T1, T2, T3, T4, T5, T6, T7, T8, T9}
use Rattle.explanations.specs.Below.{code_of, name_of, Rule}

-- a row that has the code of a rule has the rule's name
abbrev pub HasItsName : Explanation → Type 0
HasItsName row = (rule : Rule) → row.code.now ≡ code_of rule → row.name.now ≡ name_of rule

-- a code, and what is said of it
abbrev pub Row : Type 0
Row = List ℕ × List ℕ

-- errors of lexer and parser
unfoldable pub reading_texts : List Row
reading_texts =
    (codes "X1", X1.now) ∷ (codes "X2", X2.now) ∷ (codes "X3", X3.now) ∷ (codes "X4", X4.now) ∷
    (codes "X5", X5.now) ∷ []

-- rules on names, and on types
unfoldable pub name_texts : List Row
name_texts =
    (codes "N1", N1.now) ∷ (codes "N2", N2.now) ∷ (codes "N3", N3.now) ∷ (codes "N4", N4.now) ∷ []

unfoldable pub type_texts : List Row
type_texts =
    (codes "T1", T1.now) ∷ (codes "T2", T2.now) ∷ (codes "T3", T3.now) ∷ (codes "T4", T4.now) ∷
    (codes "T5", T5.now) ∷ (codes "T6", T6.now) ∷ (codes "T7", T7.now) ∷ (codes "T8", T8.now) ∷
    (codes "T9", T9.now) ∷ []

unfoldable pub name_and_type_texts : List Row
name_and_type_texts = name_texts ++ type_texts

-- rules on labels
unfoldable pub label_texts : List Row
label_texts =
    (codes "L1", L1.now) ∷ (codes "L2", L2.now) ∷ (codes "L3", L3.now) ∷ (codes "L4", L4.now) ∷
    (codes "L5", L5.now) ∷ (codes "L6", L6.now) ∷ (codes "L7", L7.now) ∷ []

-- limits, indices, divisors, and memory
unfoldable pub limit_texts : List Row
limit_texts =
    (codes "S1", S1.now) ∷ (codes "S2", S2.now) ∷ (codes "I1", I1.now) ∷ (codes "I2", I2.now) ∷
    (codes "S3", S3.now) ∷ (codes "M1", M1.now) ∷ []

-- errors of images, arguments, and files of harts and of vectors
unfoldable pub input_texts : List Row
input_texts =
    (codes "B1", B1.now) ∷ (codes "B2", B2.now) ∷ (codes "B3", B3.now) ∷ (codes "B4", B4.now) ∷
    (codes "B5", B5.now) ∷ (codes "B6", B6.now) ∷ (codes "A1", A1.now) ∷ (codes "A2", A2.now) ∷
    (codes "A3", A3.now) ∷ (codes "H1", H1.now) ∷ (codes "H2", H2.now) ∷ (codes "H3", H3.now) ∷
    (codes "H4", H4.now) ∷ (codes "V1", V1.now) ∷ (codes "V2", V2.now) ∷ []

-- errors of code from elsewhere, executables, and functions for C
unfoldable pub executable_texts : List Row
executable_texts =
    (codes "C1", C1.now) ∷ (codes "C2", C2.now) ∷ (codes "C3", C3.now) ∷ (codes "G1", G1.now) ∷
    (codes "G2", G2.now) ∷ (codes "G3", G3.now) ∷ (codes "G4", G4.now) ∷ (codes "G5", G5.now) ∷
    (codes "F1", F1.now) ∷ []

-- errors of all these
unfoldable pub file_texts : List Row
file_texts = input_texts ++ executable_texts

-- errors of an evaluation, and stops
unfoldable pub run_texts : List Row
run_texts =
    (codes "E1", E1.now) ∷ (codes "E2", E2.now) ∷ (codes "Ecall", ECALL.now) ∷ (codes "Break", BREAK.now) ∷
    (codes "Illegal", ILLEGAL.now) ∷ (codes "AccessFault", ACCESS_FAULT.now) ∷
    (codes "Misaligned", MISALIGNED.now) ∷ (codes "Budget", BUDGET.now) ∷
    (codes "RecorderRefused", RECORDER_REFUSED.now) ∷ []

-- all of them, in order
unfoldable pub table : List Row
table = reading_texts ++ name_and_type_texts ++ label_texts ++ limit_texts ++ file_texts ++ run_texts

-- what is said of a code by the first of rows that has it
abbrev pub text_in : List Row → List ℕ → Option (List ℕ)
text_in rows code = option_map (λ row. row.1) (find (λ row. bytes_eq row.0 code) rows)

-- the text of a code, which no two rows have
abbrev pub text_of : List ℕ → Option (List ℕ)
text_of code = text_in table code
