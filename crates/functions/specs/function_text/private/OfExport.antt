-- What is made of an export under a name, its image and what it needs of its frame, whichever text they come from.
use Rattle.std.specs.Prelude.{◌≡◌, ℕ, true, false, List, map}
use Rattle.functions.specs.function_text.Functions.{FunctionParts, written_parameter}
use Rattle.functions.specs.function_text.Names.{is_taken_function}
use Rattle.functions.specs.Below.{Fields, Place, ProcedureTree}
use Rattle.compilation.specs.Needs.{Needs}
use Rattle.linked_calls.specs.declared.pace.Pace.{Pace}

pub record IsOfExport (name : List ℕ) (export : ProcedureTree) (code : Fields) (needs : Needs) (pace : Pace)
    (parts : FunctionParts) : Type 0 where
  pub image : parts.image ≡ code
  pub needs_are : parts.needs ≡ needs
  pub pace_is : parts.pace ≡ pace
  pub named : parts.name ≡ name
  pub free : is_taken_function name ≡ false
  pub parameters : parts.parameters ≡ map (written_parameter name) export.parameters

-- the export stands there, and the name is taken
pub record NameIsTaken (name : List ℕ) (export : ProcedureTree) (place : Place) : Type 0 where
  pub taken : is_taken_function name ≡ true
  pub stands : place ≡ export.place
