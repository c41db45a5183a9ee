-- What is printed of the vectors of a file, tried on the source of libraries and another, and why there is nothing.
use Rattle.std.specs.Prelude.{◌≡◌, ℕ, ◌==◌, ◌<◌, ◌≤◌, if◌then◌else◌, false, List, length, Some, Ok, Err}
use Rattle.std.specs.Str.{IsUtf8}
use Rattle.commands.specs.Contents.{Contents}
use Rattle.commands.specs.FileTexts.{IsNotUtf8}
use Rattle.commands.specs.Judged.{IsRefusedText}
use Rattle.commands.specs.Sources.{HoldsSources, joined, LibraryText, NoSources, numbered}
use Rattle.commands.specs.Unread.{IsOutOfMemory, NotRead}
use Rattle.commands.specs.declared.fault.Fault.{Fault}
use Rattle.commands.specs.declared.fault.Fault.TheVariants.{File, Vectors}
use Rattle.commands.specs.declared.fault.FileFault.{FileFault}
use Rattle.commands.specs.Below.{IsReport, Line, longest_vectors, NamedVector, Optimisation, Profile}
use Rattle.commands.specs.Below.{TooLong, vectors_in}

-- the exit status: 0 where none failed, else 1
abbrev pub status_of_failures : ℕ → ℕ
status_of_failures failures = if failures == 0 then 0 else 1

-- libraries and one file hold a source, and all bytes of the other are the text of these vectors, which is not too long
pub record HoldVectors (files : Contents) (paths : List (List ℕ)) (path list : List ℕ) (libraries : List LibraryText)
    (source : List ℕ) (vectors : List NamedVector) : Type 0 where
  pub lines : List ℕ
  pub held : HoldsSources files paths path libraries source
  pub lines_held : files list ≡ Some lines
  pub short : length lines ≤ longest_vectors
  pub is_text : IsUtf8 lines
  pub said : vectors_in lines ≡ Ok vectors

-- what is printed of them, tried on the plain or the optimised image of the source, and the exit status
pub record SaysVectors (optimisation : Optimisation) (profile : Profile) (files : Contents) (paths : List (List ℕ))
    (path list text : List ℕ) (status : ℕ) : Type 0 where
  pub libraries : List LibraryText
  pub source : List ℕ
  pub vectors : List NamedVector
  pub failures : ℕ
  pub held : HoldVectors files paths path list libraries source vectors
  pub report : IsReport optimisation profile (joined libraries source) vectors text failures
  pub ended : status ≡ status_of_failures failures

-- why the text of vectors is not had of the file at a path: its length is asked before all else
pub data NoVectorsText (files : Contents) (path : List ℕ) : Fault → Type 0 where
  unread_vectors : {fault : Fault} → NotRead path fault → NoVectorsText files path fault
  long_vectors : {bytes : List ℕ} → files path ≡ Some bytes → longest_vectors < length bytes
      → NoVectorsText files path (Vectors TooLong)
  not_utf8_vectors : {bytes : List ℕ} {fault : FileFault} → files path ≡ Some bytes → length bytes ≤ longest_vectors
      → ¬ IsUtf8 bytes → IsNotUtf8 path fault → NoVectorsText files path (File fault)

-- why nothing is: the source is asked for first, then the vectors, and then whether the source is accepted
pub data RefusesVectors (profile : Profile) (files : Contents) (paths : List (List ℕ)) (path list : List ℕ) : Fault
    → Type 0 where
  no_source : {fault : Fault} → NoSources files paths path fault → RefusesVectors profile files paths path list fault
  no_lines : {libraries : List LibraryText} {source : List ℕ} {fault : Fault}
      → HoldsSources files paths path libraries source → NoVectorsText files list fault
      → RefusesVectors profile files paths path list fault
  no_vectors : {libraries : List LibraryText} {source lines : List ℕ} {line : ℕ}
      → HoldsSources files paths path libraries source → files list ≡ Some lines
      → length lines ≤ longest_vectors → vectors_in lines ≡ Err line
      → RefusesVectors profile files paths path list (Vectors (Line line))
  not_accepted : {libraries : List LibraryText} {source : List ℕ} {vectors : List NamedVector} {fault : Fault}
      → HoldVectors files paths path list libraries source vectors
      → IsRefusedText false profile (joined libraries source) (numbered libraries) fault
      → RefusesVectors profile files paths path list fault
  no_memory : {fault : Fault} → IsOutOfMemory fault → RefusesVectors profile files paths path list fault
