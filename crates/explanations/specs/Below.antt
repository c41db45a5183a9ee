-- What this crate takes from the specs of the crates below, in one place.
pub use Rattle.word.specs.Places.{place_text}
pub use Rattle.word.specs.declared.place.Place.{Place}
pub use Rattle.language.specs.FirstViolation.{IsFirst, IsRefusedFor}
pub use Rattle.language.specs.Rules.{code_of, name_of, rank_of}
pub use Rattle.language.specs.Shares.{most_counted}
pub use Rattle.language.specs.Tree.{array, assignment, block_tree, BlockTree, call, call_tree, called, CallTree}
pub use Rattle.language.specs.Tree.{computed, conditional, declaration, element_assignment, expr_tree, first, loop}
pub use Rattle.language.specs.Tree.{nothing, procedure_tree, ProcedureTree, program_tree, ProgramTree, right_tree}
pub use Rattle.language.specs.Tree.{RightTree, statement_tree, StatementTree}
pub use Rattle.language.specs.WantOfMemory.{IsWantOfMemory}
pub use Rattle.language.specs.declared.refusal.Refusal.{Refusal}
pub use Rattle.language.specs.declared.rule.Rule.{Rule}
pub use Rattle.language.specs.declared.rule.Rule.TheVariants.{ArgumentCount, ArrayPassedTwice, ArrayShapeOrLabel}
pub use Rattle.language.specs.declared.rule.Rule.TheVariants.{BadNumber, CallAssignsPublicUnderSecretControl}
pub use Rattle.language.specs.declared.rule.Rule.TheVariants.{DeclaredBytes, DivisorMayBeZero, IndexOutOfRange}
pub use Rattle.language.specs.declared.rule.Rule.TheVariants.{InitialiserCount, InlinedSize, LiteralOutOfRange}
pub use Rattle.language.specs.declared.rule.Rule.TheVariants.{NameDeclaredTwice, Nesting, NotExactlyOneExport}
pub use Rattle.language.specs.declared.rule.Rule.TheVariants.{NotMutable, OutOfMemory, ProcedureNotDeclaredEarlier}
pub use Rattle.language.specs.declared.rule.Rule.TheVariants.{PublicAssignedUnderSecretControl, ReturnMismatch}
pub use Rattle.language.specs.declared.rule.Rule.TheVariants.{SecretBound, SecretDivisionOperand, SecretIndex}
pub use Rattle.language.specs.declared.rule.Rule.TheVariants.{SecretMultiplicationOperand, SecretToPublic}
pub use Rattle.language.specs.declared.rule.Rule.TheVariants.{TextTooLong, TooMuchWork, UndeclaredName}
pub use Rattle.language.specs.declared.rule.Rule.TheVariants.{UnexpectedToken, UnknownCharacter, WidthsDiffer}
pub use Rattle.language.specs.declared.rule.Rule.TheVariants.{WrongKind}
pub use Rattle.language.specs.declared.signature.Kind.{Kind}
pub use Rattle.language.specs.declared.signature.Kind.TheVariants.{Boolean, Uint16, Uint32, Uint8}
pub use Rattle.language.specs.declared.tree.Expr.{Expr}
pub use Rattle.language.specs.declared.typing.ValueType.{ValueType}
pub use Rattle.language.specs.declared.typing.ValueType.TheVariants.{Array, Nothing, Word}
pub use Rattle.language.specs.declared.typing.Violation.{Violation}
pub use Rattle.language.specs.declared.typing.WordType.{WordType}
pub use Rattle.language.specs.declared.why.Counted.TheVariants.{Bodies, Nodes, Work}
pub use Rattle.language.specs.declared.why.Share.{Share}
pub use Rattle.language.specs.declared.why.Why.{Why}
pub use Rattle.tokens.specs.Spelling.{is_word_byte}
pub use Rattle.syntax.specs.Reading.{accepted, ParseAnswer, IsRefusedAs, Reads, refused}
