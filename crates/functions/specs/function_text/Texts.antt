-- Both texts of the function of a source.
use Rattle.std.specs.Prelude.{◌≡◌, ℕ, List}
use Rattle.functions.specs.function_text.AssemblerText.{IsAssemblerText}
use Rattle.functions.specs.function_text.Functions.{FunctionParts, IsFunctionOf}
use Rattle.functions.specs.function_text.HeaderText.{header_text}
use Rattle.functions.specs.Below.{Optimisation, Profile}
use Rattle.functions.specs.declared.function_text.notation.Notation.{Notation}

pub record AreTextsOf (optimisation : Optimisation) (profile : Profile) (prefix : List ℕ) (notation : Notation)
    (source assembler header : List ℕ) : Type 0 where
  pub parts : FunctionParts
  pub function : IsFunctionOf optimisation profile prefix source parts
  pub assembled : IsAssemblerText notation parts assembler
  pub declared : header ≡ header_text parts
