-- The table of violations and the rules of inference say the same.
use Rattle.std.specs.Prelude.{◌≡◌, ◌↔◌, List, [], Option, Some}
use Rattle.language.specs.declared.typing.ValueType.{ValueType}
use Rattle.language.specs.declared.why.SecretControl.{SecretControl}
use Rattle.language.specs.ExprTyping.{type_of, expr_violations}
use Rattle.language.specs.Tree.{ExprTree, BlockTree, ProcedureTree, ProgramTree}
use Rattle.language.specs.Types.{Scope, label_under}
use Rattle.language.specs.Typing.{block_violations, violations}
use Rattle.language.specs.WellTyped.{HasType, AreWellTyped, IsTypedProgram}
use Rattle.word.specs.declared.profile.Profile.{Profile}

-- an expression violates no rule exactly where the rules give it a type, and that is its type
pub record ExpressionsByRules : Type 0 where
  pub none : (scope : Scope) (e : ExprTree)
      → (expr_violations scope e ≡ []) ↔ ((type : ValueType) × HasType scope e type)
  pub type : (scope : Scope) (e : ExprTree) (type : ValueType) → (type_of scope e ≡ Some type) ↔ HasType scope e type

-- statements violate no rule exactly where they are well typed by the rules
abbrev pub BlocksByRules : Type 0
BlocksByRules = (earlier : List ProcedureTree) (scope : Scope) (control : Option SecretControl) (block : BlockTree)
    → (block_violations earlier scope control block ≡ []) ↔ AreWellTyped earlier scope (label_under control) block

-- so does a program, for each observer
abbrev pub ProgramsByRules : Type 0
ProgramsByRules = (profile : Profile) (program : ProgramTree)
    → (violations profile program ≡ []) ↔ IsTypedProgram profile program
