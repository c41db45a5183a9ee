-- What this crate takes from the specs of the crates below, in one place.
pub use Rattle.word.specs.Places.{origin}
pub use Rattle.word.specs.declared.place.Place.{Place}
pub use Rattle.language.specs.Grammatical.{AreAllSmall, ArePlain, AreSmall, AreSmallValues, HasForm, IsArrayLength}
pub use Rattle.language.specs.Grammatical.{IsGrammatical, IsNumberKind, IsPlain, IsSmallReturn, IsSmallRight}
pub use Rattle.language.specs.Limits.{most_elements}
pub use Rattle.language.specs.Tree.{array, assignment, binary, block_tree, BlockTree, call, call_tree, called, CallTree}
pub use Rattle.language.specs.Tree.{computed, conditional, convert, declaration, element, element_assignment, expr_tree}
pub use Rattle.language.specs.Tree.{ExprTree, first, loop, name, nothing, number, parameter_tree, ParameterTree, prefix}
pub use Rattle.language.specs.Tree.{procedure_tree, ProcedureTree, program_tree, ProgramTree, return_tree, ReturnTree}
pub use Rattle.language.specs.Tree.{right_tree, RightTree, rotate, select, statement_tree, StatementTree, truth}
pub use Rattle.language.specs.WantOfMemory.{IsWantOfMemory}
pub use Rattle.language.specs.declared.operators.BinaryOperator.{BinaryOperator}
pub use Rattle.language.specs.declared.operators.PrefixOperator.{PrefixOperator}
pub use Rattle.language.specs.declared.refusal.Refusal.{Refusal}
pub use Rattle.language.specs.declared.rule.Rule.{Rule}
pub use Rattle.language.specs.declared.rule.Rule.TheVariants.{Nesting, TextTooLong, UnexpectedToken}
pub use Rattle.language.specs.declared.signature.Form.TheVariants.{FixedArray, MutableArray, SingleWord}
pub use Rattle.language.specs.declared.signature.Kind.{Kind}
pub use Rattle.language.specs.declared.signature.Kind.TheVariants.{Boolean, Uint16, Uint32, Uint8}
pub use Rattle.language.specs.declared.signature.Label.{Label}
pub use Rattle.language.specs.declared.signature.Label.TheVariants.{Public, Secret}
pub use Rattle.language.specs.declared.typing.WordType.{WordType}
pub use Rattle.language.specs.declared.why.Why.TheVariants.{Plain}
