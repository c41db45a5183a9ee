-- The function of a source can be called, from wherever its words stand, and its header says how much stack that takes.
use Rattle.std.specs.Prelude.{◌≡◌, ℕ, ◌-◌, ◌≤◌, List, ◌++◌}
use Rattle.functions.specs.Below.{Fields, IsCallable, Optimisation, Profile}
use Rattle.functions.specs.function_text.Functions.{FunctionParts, IsFunctionOf}
use Rattle.functions.specs.function_text.HeaderText.{stack_line}
use Rattle.functions.specs.function_text.Texts.{AreTextsOf}
use Rattle.functions.specs.declared.function_text.notation.Notation.{Notation}
use Rattle.compilation.specs.Needs.{Needs}
use Rattle.linked_calls.specs.Calls.{CallSite, IsSite, room_base}
use Rattle.linked_calls.specs.declared.pace.Pace.{Pace}
use Rattle.rv_machine.specs.Machine.{MachineCode}

-- and what it does is what the source's program means, for an observer of this profile
abbrev pub FunctionsAreLinked : Type 0
FunctionsAreLinked =
    (optimisation : Optimisation) (profile : Profile) (prefix source : List ℕ) (parts : FunctionParts)
    (of : IsFunctionOf optimisation profile prefix source parts)
    → (code : MachineCode) (site : CallSite)
    → IsSite parts.image parts.needs parts.pace code site
    → IsCallable of.program of.export parts.image parts.needs parts.pace code site

-- a header defines the macro of a function's stack as a number: so many bytes below the caller's stack pointer are the
-- room of a call, wherever the function stands and is called, and a caller has them free
pub record StatesStack (image : Fields) (needs : Needs) (pace : Pace) (name header : List ℕ) : Type 0 where
  pub bytes : ℕ
  pub before : List ℕ
  pub behind : List ℕ
  pub stated : header ≡ before ++ stack_line name bytes ++ behind
  pub room : (site : CallSite) → room_base image site ≡ site.stack - bytes
  pub free : (code : MachineCode) (site : CallSite) → IsSite image needs pace code site → bytes ≤ site.stack

abbrev pub HeadersStateStacks : Type 0
HeadersStateStacks =
    (optimisation : Optimisation) (profile : Profile) (prefix : List ℕ) (notation : Notation)
    (source assembler header : List ℕ) (texts : AreTextsOf optimisation profile prefix notation source assembler header)
    → StatesStack texts.parts.image texts.parts.needs texts.parts.pace texts.parts.name header
