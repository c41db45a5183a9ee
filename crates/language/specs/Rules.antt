-- The rules: the order in which they are asked at one place, what each is called, and how a refusal is printed.
use Rattle.std.specs.Prelude.{ℕ, List, ◌++◌, Option, Some, None, codes}
use Rattle.word.specs.Places.{place_text}
use Rattle.word.specs.declared.place.Place.{Place}
use Rattle.language.specs.declared.rule.Rule.{Rule}
use Rattle.language.specs.declared.rule.Rule.TheVariants.{UnknownCharacter, BadNumber, UnexpectedToken, Nesting}
use Rattle.language.specs.declared.rule.Rule.TheVariants.{TextTooLong, UndeclaredName, NameDeclaredTwice}
use Rattle.language.specs.declared.rule.Rule.TheVariants.{ProcedureNotDeclaredEarlier, NotExactlyOneExport}
use Rattle.language.specs.declared.rule.Rule.TheVariants.{WidthsDiffer, WrongKind, LiteralOutOfRange, ArgumentCount}
use Rattle.language.specs.declared.rule.Rule.TheVariants.{ArrayShapeOrLabel, NotMutable, ReturnMismatch}
use Rattle.language.specs.declared.rule.Rule.TheVariants.{ArrayPassedTwice, InitialiserCount, SecretToPublic}
use Rattle.language.specs.declared.rule.Rule.TheVariants.{PublicAssignedUnderSecretControl, SecretIndex, SecretBound}
use Rattle.language.specs.declared.rule.Rule.TheVariants.{SecretDivisionOperand, CallAssignsPublicUnderSecretControl}
use Rattle.language.specs.declared.rule.Rule.TheVariants.{SecretMultiplicationOperand, InlinedSize, DeclaredBytes}
use Rattle.language.specs.declared.rule.Rule.TheVariants.{IndexOutOfRange, DivisorMayBeZero, TooMuchWork, OutOfMemory}

-- the rule's number in the order of their declaration
abbrev pub rank_of : Rule → ℕ
rank_of UnknownCharacter = 0
rank_of BadNumber = 1
rank_of UnexpectedToken = 2
rank_of Nesting = 3
rank_of TextTooLong = 4
rank_of UndeclaredName = 5
rank_of NameDeclaredTwice = 6
rank_of ProcedureNotDeclaredEarlier = 7
rank_of NotExactlyOneExport = 8
rank_of WidthsDiffer = 9
rank_of WrongKind = 10
rank_of LiteralOutOfRange = 11
rank_of ArgumentCount = 12
rank_of ArrayShapeOrLabel = 13
rank_of NotMutable = 14
rank_of ReturnMismatch = 15
rank_of ArrayPassedTwice = 16
rank_of InitialiserCount = 17
rank_of SecretToPublic = 18
rank_of PublicAssignedUnderSecretControl = 19
rank_of SecretIndex = 20
rank_of SecretBound = 21
rank_of SecretDivisionOperand = 22
rank_of CallAssignsPublicUnderSecretControl = 23
rank_of SecretMultiplicationOperand = 24
rank_of InlinedSize = 25
rank_of DeclaredBytes = 26
rank_of IndexOutOfRange = 27
rank_of DivisorMayBeZero = 28
rank_of TooMuchWork = 29
rank_of OutOfMemory = 30

-- its short code
abbrev pub code_of : Rule → List ℕ
code_of UnknownCharacter = codes "X1"
code_of BadNumber = codes "X2"
code_of UnexpectedToken = codes "X3"
code_of Nesting = codes "X4"
code_of TextTooLong = codes "X5"
code_of UndeclaredName = codes "N1"
code_of NameDeclaredTwice = codes "N2"
code_of ProcedureNotDeclaredEarlier = codes "N3"
code_of NotExactlyOneExport = codes "N4"
code_of WidthsDiffer = codes "T1"
code_of WrongKind = codes "T2"
code_of LiteralOutOfRange = codes "T3"
code_of ArgumentCount = codes "T4"
code_of ArrayShapeOrLabel = codes "T5"
code_of NotMutable = codes "T6"
code_of ReturnMismatch = codes "T7"
code_of ArrayPassedTwice = codes "T8"
code_of InitialiserCount = codes "T9"
code_of SecretToPublic = codes "L1"
code_of PublicAssignedUnderSecretControl = codes "L2"
code_of SecretIndex = codes "L3"
code_of SecretBound = codes "L4"
code_of SecretDivisionOperand = codes "L5"
code_of CallAssignsPublicUnderSecretControl = codes "L6"
code_of SecretMultiplicationOperand = codes "L7"
code_of InlinedSize = codes "S1"
code_of DeclaredBytes = codes "S2"
code_of IndexOutOfRange = codes "I1"
code_of DivisorMayBeZero = codes "I2"
code_of TooMuchWork = codes "S3"
code_of OutOfMemory = codes "M1"

-- what it says, in a few words
abbrev pub name_of : Rule → List ℕ
name_of UnknownCharacter = codes "unknown character"
name_of BadNumber = codes "bad number"
name_of UnexpectedToken = codes "unexpected token"
name_of Nesting = codes "nesting"
name_of TextTooLong = codes "text too long"
name_of UndeclaredName = codes "undeclared name"
name_of NameDeclaredTwice = codes "name declared twice"
name_of ProcedureNotDeclaredEarlier = codes "procedure not declared earlier"
name_of NotExactlyOneExport = codes "not exactly one export"
name_of WidthsDiffer = codes "widths differ"
name_of WrongKind = codes "wrong kind"
name_of LiteralOutOfRange = codes "literal out of range"
name_of ArgumentCount = codes "argument count"
name_of ArrayShapeOrLabel = codes "array shape or label"
name_of NotMutable = codes "not mutable"
name_of ReturnMismatch = codes "return"
name_of ArrayPassedTwice = codes "array passed twice"
name_of InitialiserCount = codes "initialiser count"
name_of SecretToPublic = codes "secret to public"
name_of PublicAssignedUnderSecretControl = codes "public assigned under secret control"
name_of SecretIndex = codes "secret index"
name_of SecretBound = codes "secret bound"
name_of SecretDivisionOperand = codes "secret division operand"
name_of CallAssignsPublicUnderSecretControl = codes "call assigns public under secret control"
name_of SecretMultiplicationOperand = codes "secret multiplication operand"
name_of InlinedSize = codes "inlined size"
name_of DeclaredBytes = codes "declared bytes"
name_of IndexOutOfRange = codes "index out of range"
name_of DivisorMayBeZero = codes "divisor may be 0"
name_of TooMuchWork = codes "work"
name_of OutOfMemory = codes "memory"

-- a refusal: the code, where it has a place the place, and the name
abbrev pub refusal_text : Rule → Option Place → List ℕ
refusal_text rule (Some place) = code_of rule ++ codes " at " ++ place_text place ++ codes ": " ++ name_of rule
refusal_text rule None = code_of rule ++ codes ": " ++ name_of rule
