-- What the grammar gives of each procedure, whatever its types.
use Rattle.std.specs.Prelude.{◌≡◌, ℕ, ◌^◌, ◌<◌, ◌≤◌, List, Option, Some, None}
use Rattle.std.specs.List.{AllByRecursion}
use Rattle.language.specs.Limits.{most_elements}
use Rattle.language.specs.declared.signature.Form.{Form}
use Rattle.language.specs.declared.signature.Form.TheVariants.{SingleWord, FixedArray, MutableArray}
use Rattle.language.specs.declared.signature.Kind.{Kind}
use Rattle.language.specs.declared.signature.Kind.TheVariants.{Boolean, Uint8, Uint16, Uint32}
use Rattle.language.specs.Tree.{ExprTree, number, truth, name, prefix, binary, rotate, convert, select, element}
use Rattle.language.specs.Tree.{RightTree, called, computed, StatementTree, declaration, array, assignment}
use Rattle.language.specs.Tree.{element_assignment, call, conditional, loop, BlockTree, nothing, first, ParameterTree}
use Rattle.language.specs.Tree.{ReturnTree, ProcedureTree}

-- the kinds of numbers
abbrev pub IsNumberKind : Kind → Type 0
IsNumberKind Boolean = ⊥
IsNumberKind Uint8 = Unit {0}
IsNumberKind Uint16 = Unit {0}
IsNumberKind Uint32 = Unit {0}

-- an array has 1 to 4096 elements
pub record IsArrayLength (length : ℕ) : Type 0 where
  pub some : 1 ≤ length
  pub few : length ≤ most_elements

-- each number and each amount is below 2 ^ 32, and literals and conversions are of the kinds of numbers
abbrev pub AreSmall : ExprTree → Type 0
AreSmall (number place value kind) = (value < 2 ^ 32) × IsNumberKind kind
AreSmall (truth place value) = Unit {0}
AreSmall (name place text) = Unit {0}
AreSmall (prefix place operator operand) = AreSmall operand
AreSmall (binary place operator left right) = AreSmall left × AreSmall right
AreSmall (rotate place operand amount) = AreSmall operand × (amount < 2 ^ 32)
AreSmall (convert place kind operand) = IsNumberKind kind × AreSmall operand
AreSmall (select place condition accepted otherwise) = AreSmall condition × AreSmall accepted × AreSmall otherwise
AreSmall (element place target text index) = AreSmall index

abbrev pub AreAllSmall : List ExprTree → Type 0
AreAllSmall trees = AllByRecursion AreSmall trees

abbrev pub IsSmallRight : RightTree → Type 0
IsSmallRight (called c) = AreAllSmall c.arguments
IsSmallRight (computed e) = AreSmall e

-- the first values of an array, where it has some
abbrev pub AreSmallValues : Option (List ExprTree) → Type 0
AreSmallValues None = Unit {0}
AreSmallValues (Some trees) = AreAllSmall trees

abbrev mutual
  -- the same of a statement's expressions; arrays have lengths
  pub IsPlain : StatementTree → Type 0
  IsPlain (declaration place label mutable kind text right) = IsSmallRight right
  IsPlain (array place label mutable kind length text values) = IsArrayLength length × AreSmallValues values
  IsPlain (assignment place target text right) = IsSmallRight right
  IsPlain (element_assignment place bracket target text index right) = AreSmall index × IsSmallRight right
  IsPlain (call c) = AreAllSmall c.arguments
  IsPlain (conditional place condition accepted otherwise) = AreSmall condition × ArePlain accepted
      × ArePlain otherwise
  IsPlain (loop place counter text low high body) = AreSmall low × AreSmall high × ArePlain body

  pub ArePlain : BlockTree → Type 0
  ArePlain nothing = Unit {0}
  ArePlain (first statement rest) = IsPlain statement × ArePlain rest

-- a word holds one word, and an array 1 to 4096
abbrev pub HasLength : Form → ℕ → Type 0
HasLength SingleWord length = length ≡ 1
HasLength FixedArray length = IsArrayLength length
HasLength MutableArray length = IsArrayLength length

abbrev pub HasForm : ParameterTree → Type 0
HasForm p = HasLength p.form p.length

abbrev pub IsSmallReturn : Option ReturnTree → Type 0
IsSmallReturn None = Unit {0}
IsSmallReturn (Some r) = AreSmall r.value

-- a procedure that a text can have
pub record IsGrammatical (p : ProcedureTree) : Type 0 where
  pub parameters : AllByRecursion HasForm p.parameters
  pub body : ArePlain p.body
  pub returned : IsSmallReturn p.returned
