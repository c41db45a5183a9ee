-- What is said of the text of a file, for an observer: it is accepted, or it is not.
use Rattle.std.specs.Prelude.{◌≡◌, Bool, true, false, ℕ, List, Option, Some, None}
use Rattle.std.specs.String.{string_bytes}
use Rattle.commands.specs.Contents.{Contents}
use Rattle.commands.specs.FileTexts.{HoldsText, NoText}
use Rattle.commands.specs.declared.fault.Fault.{Fault}
use Rattle.commands.specs.Sources.{HoldsSources, IsAtLine, IsToldIn, joined, LibraryText, NoSources, numbered, standing}
use Rattle.commands.specs.declared.fault.Fault.TheVariants.{Text, Explained, ExplainedInLibrary}
use Rattle.commands.specs.Unread.{IsOutOfMemory}
use Rattle.explanations.specs.explained_refusals.Explained.{Explains}
use Rattle.commands.specs.Below.{accepts, IsBuilt, IsRefusalOf, Judges, Optimisation, ProcedureTree, Profile}
use Rattle.commands.specs.Below.{ProgramTree, Refusal, SaysCosts}

-- the bytes of libraries and of a file are together a text that is accepted
pub record IsAccepted (profile : Profile) (files : Contents) (paths : List (List ℕ)) (path : List ℕ) : Type 0 where
  pub libraries : List LibraryText
  pub text : List ℕ
  pub program : ProgramTree
  pub before : List ProcedureTree
  pub export : ProcedureTree
  pub held : HoldsSources files paths path libraries text
  pub judged : Judges profile (joined libraries text) (accepts program before export)

-- why the text of one file is not accepted: there is none, or its first refusal
pub data IsRefused (profile : Profile) (files : Contents) (path : List ℕ) : Fault → Type 0 where
  no_text : {fault : Fault} → NoText files path fault → IsRefused profile files path fault
  not_accepted : {text : List ℕ} (refusal : Refusal) → HoldsText files path text
      → IsRefusalOf profile text refusal → IsRefused profile files path (Text refusal)

-- a refusal of what stands in a library, or in the file, with these lines
abbrev pub IsExplainedIn : Option (List ℕ) → Refusal → List ℕ → Fault → Type 0
IsExplainedIn None refusal below (Explained told lines) = (told ≡ refusal) × (string_bytes lines ≡ below)
IsExplainedIn (Some path) refusal below (ExplainedInLibrary named told lines) = (named.now ≡ path) × (told ≡ refusal)
    × (string_bytes lines ≡ below)
IsExplainedIn library refusal below other = ⊥

-- the fault by which a refusal of a joined text is told: at its line in the library or the file where it stands; where
-- it is to be explained, with the lines that explain it in the joined text
pub data IsToldBy (text : List ℕ) (by_lines : List (List ℕ × ℕ)) (refusal : Refusal) : Bool → Fault → Type 0 where
  plainly : (told : Refusal) {fault : Fault} → IsAtLine (standing by_lines refusal).1 refusal told
      → IsToldIn (standing by_lines refusal).0 told fault → IsToldBy text by_lines refusal false fault
  with_lines : (told : Refusal) (lines : List ℕ) {fault : Fault} → IsAtLine (standing by_lines refusal).1 refusal told
      → Explains text refusal lines → IsExplainedIn (standing by_lines refusal).0 told lines fault
      → IsToldBy text by_lines refusal true fault

-- how a refusal of a joined text is told; or there was no memory for the lines that explain it
pub data TellsIn (text : List ℕ) (by_lines : List (List ℕ × ℕ)) (refusal : Refusal) : Bool → Fault → Type 0 where
  as_told : {explain : Bool} {fault : Fault} → IsToldBy text by_lines refusal explain fault
      → TellsIn text by_lines refusal explain fault
  without_memory : {fault : Fault} → IsOutOfMemory fault → TellsIn text by_lines refusal true fault

-- why a joined text is not accepted: its first refusal, explained or not
abbrev pub IsRefusedText : Bool → Profile → List ℕ → List (List ℕ × ℕ) → Fault → Type 0
IsRefusedText explain profile text by_lines fault = (refusal : Refusal) × IsRefusalOf profile text refusal
    × TellsIn text by_lines refusal explain fault

-- why the text of libraries and of a file is not accepted: there is none, or its first refusal, explained or not
pub data IsRefusedIn (explain : Bool) (profile : Profile) (files : Contents) (paths : List (List ℕ))
    (path : List ℕ) : Fault → Type 0 where
  no_sources : {fault : Fault} → NoSources files paths path fault → IsRefusedIn explain profile files paths path fault
  refused_text : {libraries : List LibraryText} {text : List ℕ} (refusal : Refusal) {fault : Fault}
      → HoldsSources files paths path libraries text
      → IsRefusalOf profile (joined libraries text) refusal
      → TellsIn (joined libraries text) (numbered libraries) refusal explain fault
      → IsRefusedIn explain profile files paths path fault

-- the bytes are the image of the text of libraries and of a file, plain or optimised
pub record IsImageOf (optimisation : Optimisation) (profile : Profile) (files : Contents) (paths : List (List ℕ))
    (path : List ℕ) (bytes : List ℕ) : Type 0 where
  pub libraries : List LibraryText
  pub text : List ℕ
  pub held : HoldsSources files paths path libraries text
  pub built : IsBuilt optimisation profile (joined libraries text) bytes

-- the text is what the source of libraries and of a file costs, in plain or optimised code
pub record SaysStatistics (optimisation : Optimisation) (profile : Profile) (files : Contents)
    (paths : List (List ℕ)) (path text : List ℕ) : Type 0 where
  pub libraries : List LibraryText
  pub source : List ℕ
  pub held : HoldsSources files paths path libraries source
  pub said : SaysCosts optimisation profile (joined libraries source) (numbered libraries) text
