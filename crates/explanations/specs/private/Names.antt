-- Whether rows that have the codes of rules have their names, by a test that can be computed.
use Rattle.std.specs.Prelude.{Bool, not, ◌||◌, List, [], ◌∷◌}
use Rattle.std.specs.List.{list_all}
use Rattle.std.specs.Str.{bytes_eq}
use Rattle.explanations.specs.declared.row.Explanation.{Explanation}
use Rattle.explanations.specs.Below.{ArgumentCount, ArrayPassedTwice, ArrayShapeOrLabel, BadNumber}
use Rattle.explanations.specs.Below.{CallAssignsPublicUnderSecretControl, code_of, DeclaredBytes, DivisorMayBeZero}
use Rattle.explanations.specs.Below.{IndexOutOfRange, InitialiserCount, InlinedSize, LiteralOutOfRange, name_of}
use Rattle.explanations.specs.Below.{NameDeclaredTwice, Nesting, NotExactlyOneExport, NotMutable, OutOfMemory}
use Rattle.explanations.specs.Below.{ProcedureNotDeclaredEarlier, PublicAssignedUnderSecretControl, ReturnMismatch}
use Rattle.explanations.specs.Below.{Rule, SecretBound, SecretDivisionOperand, SecretIndex, SecretMultiplicationOperand}
use Rattle.explanations.specs.Below.{SecretToPublic, TextTooLong, TooMuchWork, UndeclaredName, UnexpectedToken}
use Rattle.explanations.specs.Below.{UnknownCharacter, WidthsDiffer, WrongKind}

-- all rules, in order
abbrev pub rules : List Rule
rules =
    UnknownCharacter ∷ BadNumber ∷ UnexpectedToken ∷ Nesting ∷ TextTooLong ∷ UndeclaredName ∷ NameDeclaredTwice ∷
    ProcedureNotDeclaredEarlier ∷ NotExactlyOneExport ∷ WidthsDiffer ∷ WrongKind ∷ LiteralOutOfRange ∷
    ArgumentCount ∷ ArrayShapeOrLabel ∷ NotMutable ∷ ReturnMismatch ∷ ArrayPassedTwice ∷ InitialiserCount ∷
    SecretToPublic ∷ PublicAssignedUnderSecretControl ∷ SecretIndex ∷ SecretBound ∷ SecretDivisionOperand ∷
    CallAssignsPublicUnderSecretControl ∷ SecretMultiplicationOperand ∷ InlinedSize ∷ DeclaredBytes ∷
    IndexOutOfRange ∷ DivisorMayBeZero ∷ TooMuchWork ∷ OutOfMemory ∷ []

-- the row has another code, or the rule's name
abbrev pub suits : Explanation → Rule → Bool
suits row rule = not (bytes_eq row.code.now (code_of rule)) || bytes_eq row.name.now (name_of rule)

abbrev pub have_names : List Explanation → Bool
have_names = list_all (λ row. list_all (suits row) rules)
