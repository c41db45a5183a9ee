-- What is printed of what the text of libraries and of a file means.
use Rattle.std.specs.Prelude.{◌≡◌, Bool, ℕ, List, map, Ok}
use Rattle.commands.specs.Below.{accepts, answer, Arg, fault_of_texts, Judges, Means, P1}
use Rattle.commands.specs.Below.{ProcedureTree, ProgramTree, Results, RunFault}
use Rattle.commands.specs.Contents.{Contents}
use Rattle.commands.specs.Judged.{IsRefusedIn}
use Rattle.commands.specs.OutcomeText.{outcome_text}
use Rattle.commands.specs.Sources.{HoldsSources, joined, LibraryText}
use Rattle.commands.specs.Unread.{IsOutOfMemory}
use Rattle.commands.specs.Words.{AreSpelled, IsFaultOfWords}
use Rattle.commands.specs.declared.fault.Fault.{Fault}
use Rattle.commands.specs.declared.fault.Fault.TheVariants.{Run}
use Rattle.inline.specs.Numbering.{param_of}

-- how many nodes are evaluated at most
abbrev pub evaluation_budget : ℕ
evaluation_budget = 4294967296

-- the bytes of libraries and of a file are together a text that is accepted, with this export
pub record HoldsProgram (files : Contents) (paths : List (List ℕ)) (path : List ℕ) (program : ProgramTree)
    (export : ProcedureTree) : Type 0 where
  pub libraries : List LibraryText
  pub text : List ℕ
  pub before : List ProcedureTree
  pub held : HoldsSources files paths path libraries text
  pub accepted : Judges P1 (joined libraries text) (accepts program before export)

-- the text of the one outcome that the program means on the arguments that the words spell, worked out within the
-- budget
pub record SaysMeaning (files : Contents) (paths : List (List ℕ)) (path : List ℕ) (words : List (List ℕ))
    (text : List ℕ) : Type 0 where
  pub program : ProgramTree
  pub export : ProcedureTree
  pub args : List Arg
  pub outcome : Results
  pub held : HoldsProgram files paths path program export
  pub spelled : AreSpelled (map param_of export.parameters) words args
  pub means : Means program args outcome
  pub within : answer program args evaluation_budget ≡ Ok outcome
  pub printed : text ≡ outcome_text (map param_of export.parameters) outcome

-- why there is none: the text is not accepted, which is explained or not, or there are no arguments
pub data RefusesMeaning (explain : Bool) (files : Contents) (paths : List (List ℕ)) (path : List ℕ)
    (words : List (List ℕ)) : Fault → Type 0 where
  not_accepted : {fault : Fault} → IsRefusedIn explain P1 files paths path fault
      → RefusesMeaning explain files paths path words fault
  no_arguments : {program : ProgramTree} {export : ProcedureTree} {fault : RunFault}
      → HoldsProgram files paths path program export
      → IsFaultOfWords (fault_of_texts (map param_of export.parameters) words) fault
      → RefusesMeaning explain files paths path words (Run fault)
  out_of_memory : {fault : Fault} → IsOutOfMemory fault → RefusesMeaning explain files paths path words fault
