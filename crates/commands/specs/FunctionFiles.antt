-- What is written of the function that the text of libraries and of a file is compiled to, and why there is none.
use Rattle.std.specs.Prelude.{Bool, ℕ, List}
use Rattle.commands.specs.Contents.{Contents}
use Rattle.commands.specs.Judged.{IsRefusedIn, TellsIn}
use Rattle.commands.specs.Sources.{HoldsSources, joined, LibraryText, numbered}
use Rattle.command_line.specs.declared.options.LinkOptions.{LinkOptions}
use Rattle.commands.specs.declared.fault.Fault.{Fault}
use Rattle.commands.specs.declared.fault.Fault.TheVariants.{Name}
use Rattle.functions.specs.declared.function_text.fault.FunctionFault.{FunctionFault}
use Rattle.functions.specs.declared.function_text.fault.FunctionFault.TheVariants.{Text}
use Rattle.functions.specs.declared.function_text.fault.FunctionFault.TheVariants as faults
use Rattle.functions.specs.function_text.Functions.{HasTakenName}
use Rattle.functions.specs.function_text.Texts.{AreTextsOf}
use Rattle.commands.specs.Below.{IsStanding, Place, Refusal}

-- the texts are those of the function of the text of libraries and of a file, as it is to be compiled, named and
-- written: for an assembler, and the C header
pub record AreFunctionTexts (options : LinkOptions) (files : Contents) (paths : List (List ℕ)) (path : List ℕ)
    (assembler header : List ℕ) : Type 0 where
  pub libraries : List LibraryText
  pub text : List ℕ
  pub held : HoldsSources files paths path libraries text
  pub made : AreTextsOf options.compile.optimisation options.compile.profile options.prefix.text.now options.notation
      (joined libraries text) assembler header

-- a name at this place of a joined text is taken, which is told where it stands
abbrev pub IsTakenIn : List (List ℕ × ℕ) → Place → Fault → Type 0
IsTakenIn by_lines place (Name told) = IsStanding by_lines place told
IsTakenIn by_lines place other = ⊥

-- how it is told why a joined text has no function: its refusal, explained or not, or the name of its export
abbrev pub IsFaultIn : Bool → List ℕ → List (List ℕ × ℕ) → FunctionFault Refusal → Fault → Type 0
IsFaultIn explain text by_lines (Text refusal) told = TellsIn text by_lines refusal explain told
IsFaultIn explain text by_lines (faults.Name place) told = IsTakenIn by_lines place told

-- why there is none: the text is not accepted, which is explained or not; or the name of its export is taken, with what
-- is to stand before it
pub data RefusesFunction (options : LinkOptions) (files : Contents) (paths : List (List ℕ)) (path : List ℕ) : Fault
    → Type 0 where
  not_accepted : {fault : Fault}
      → IsRefusedIn options.compile.explain options.compile.profile files paths path fault
      → RefusesFunction options files paths path fault
  taken_name : {libraries : List LibraryText} {text : List ℕ} {place : Place} {fault : Fault}
      → HoldsSources files paths path libraries text
      → HasTakenName options.compile.profile options.prefix.text.now (joined libraries text) place
      → IsTakenIn (numbered libraries) place fault
      → RefusesFunction options files paths path fault
