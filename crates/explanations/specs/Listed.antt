-- Which codes are explained.
use Rattle.std.specs.Prelude.{ℕ, List, [], ◌∷◌, ◌++◌, codes}

-- errors of lexer and parser
unfoldable pub reading : List (List ℕ)
reading = codes "X1" ∷ codes "X2" ∷ codes "X3" ∷ codes "X4" ∷ codes "X5" ∷ []

-- rules on names, and on types
unfoldable pub names : List (List ℕ)
names = codes "N1" ∷ codes "N2" ∷ codes "N3" ∷ codes "N4" ∷ []

unfoldable pub types : List (List ℕ)
types =
    codes "T1" ∷ codes "T2" ∷ codes "T3" ∷ codes "T4" ∷ codes "T5" ∷ codes "T6" ∷ codes "T7" ∷ codes "T8"
    ∷ codes "T9" ∷ []

unfoldable pub names_and_types : List (List ℕ)
names_and_types = names ++ types

-- rules on labels
unfoldable pub labels : List (List ℕ)
labels = codes "L1" ∷ codes "L2" ∷ codes "L3" ∷ codes "L4" ∷ codes "L5" ∷ codes "L6" ∷ codes "L7" ∷ []

-- limits, indices, divisors, and memory
unfoldable pub limits : List (List ℕ)
limits = codes "S1" ∷ codes "S2" ∷ codes "I1" ∷ codes "I2" ∷ codes "S3" ∷ codes "M1" ∷ []

-- errors of images, arguments, and files of harts and of vectors
unfoldable pub inputs : List (List ℕ)
inputs =
    codes "B1" ∷ codes "B2" ∷ codes "B3" ∷ codes "B4" ∷ codes "B5" ∷ codes "B6" ∷
    codes "A1" ∷ codes "A2" ∷ codes "A3" ∷ codes "H1" ∷ codes "H2" ∷ codes "H3" ∷ codes "H4" ∷ codes "V1" ∷
    codes "V2" ∷ []

-- errors of code from elsewhere, executables, and functions for C
unfoldable pub executables : List (List ℕ)
executables =
    codes "C1" ∷ codes "C2" ∷ codes "C3" ∷ codes "G1" ∷ codes "G2" ∷ codes "G3" ∷ codes "G4" ∷ codes "G5" ∷
    codes "F1" ∷ []

-- errors of all these
unfoldable pub files : List (List ℕ)
files = inputs ++ executables

-- errors of an evaluation, and the stops of a run by their names
unfoldable pub runs : List (List ℕ)
runs =
    codes "E1" ∷ codes "E2" ∷ codes "Ecall" ∷ codes "Break" ∷ codes "Illegal" ∷ codes "AccessFault" ∷
    codes "Misaligned" ∷ codes "Budget" ∷ codes "RecorderRefused" ∷ []

-- all of them, in order
unfoldable pub listed : List (List ℕ)
listed = reading ++ names_and_types ++ labels ++ limits ++ files ++ runs
