-- Several files that are read as one source: libraries in their order, and then a file, with a line feed between each
-- two; in which of them a line of that text stands; and why there is no such text.
use Rattle.std.specs.Prelude.{◌≡◌, ℕ, ◌+◌, ◌-◌, ◌<◌, ◌≤◌, ◌==◌, Bool, if◌then◌else◌, nat_le, List, [], ◌∷◌, ◌++◌}
use Rattle.std.specs.Prelude.{length, map, take, Option, Some, None}
use Rattle.std.specs.List.{All, count_by}
use Rattle.std.specs.Option.{option_map, option_map_or}
use Rattle.std.specs.Str.{IsUtf8}
use Rattle.commands.specs.Below.{at_line, IsText, Place, placed, Refusal, source_limit, TextTooLong}
use Rattle.commands.specs.Contents.{Contents}
use Rattle.commands.specs.FileTexts.{IsNotUtf8}
use Rattle.commands.specs.Unread.{IsOutOfMemory, NotRead}
use Rattle.commands.specs.declared.fault.Fault.{Fault}
use Rattle.commands.specs.declared.fault.Fault.TheVariants.{File, InLibrary, Text}
use Rattle.commands.specs.declared.fault.FileFault.{FileFault}
use Rattle.language.specs.declared.why.Why.TheVariants.{Plain}
use Rattle.word.specs.Places.{origin}

-- a library's path and its text
abbrev pub LibraryText : Type 0
LibraryText = List ℕ × List ℕ

-- libraries and a text behind them as one text: a line feed ends each library
abbrev pub joined : List LibraryText → List ℕ → List ℕ
joined [] text = text
joined (library ∷ more) text = library.1 ++ (10 ∷ joined more text)

abbrev pub is_line_feed : ℕ → Bool
is_line_feed byte = byte == 10

-- how many lines a text has: those that line feeds end, and the last
abbrev pub lines_in : List ℕ → ℕ
lines_in text = count_by is_line_feed text + 1

-- libraries by their paths and how many lines each has
abbrev pub numbered : List LibraryText → List (List ℕ × ℕ)
numbered = map (λ library. (library.0, lines_in library.1))

-- the line of a byte of a text, or of its end, from 1
abbrev pub line_at : List ℕ → ℕ → ℕ
line_at text offset = count_by is_line_feed (take offset text) + 1

-- a library or the file, with its text, and how many bytes of that stand before a byte of it
pub record Standing : Type 0 where
  pub path : Option (List ℕ)
  pub text : List ℕ
  pub offset : ℕ

-- where a byte of the joined text stands; the line feed behind a library stands at its end
abbrev pub source_at : List LibraryText → List ℕ → ℕ → Standing
source_at [] text offset = record { path = None; text = text; offset = offset }
source_at (library ∷ more) text offset =
    if nat_le offset (length library.1) then record { path = Some library.0; text = library.1; offset = offset }
    else source_at more text (offset - (length library.1 + 1))

-- where a refusal of the joined text stands; that there is no memory stands nowhere
abbrev pub standing : List (List ℕ × ℕ) → Refusal → Option (List ℕ) × ℕ
standing libraries refusal = option_map_or (λ (place : Place). placed libraries place.line) refusal.place (None, 0)

-- a refusal at a line, as another at its own
abbrev pub IsAtLine : ℕ → Refusal → Refusal → Type 0
IsAtLine line refusal told = (told.rule ≡ refusal.rule) × (told.why ≡ refusal.why)
    × (told.place ≡ option_map (at_line line) refusal.place)

-- the bytes of files at paths are texts
abbrev pub AreHeld : Contents → List LibraryText → Type 0
AreHeld files = All (λ library. (files library.0 ≡ Some library.1) × IsUtf8 library.1)

-- the bytes of libraries and of a file are these, and together they are a text that is not too long
pub record HoldsSources (files : Contents) (paths : List (List ℕ)) (path : List ℕ) (libraries : List LibraryText)
    (text : List ℕ) : Type 0 where
  pub named : map (λ library. library.0) libraries ≡ paths
  pub held : AreHeld files libraries
  pub last : files path ≡ Some text
  pub is_text : IsText (joined libraries text)

-- a refusal of what stands in a library, or in the file
abbrev pub IsToldIn : Option (List ℕ) → Refusal → Fault → Type 0
IsToldIn None refusal (Text told) = told ≡ refusal
IsToldIn (Some path) refusal (InLibrary named told) = (named.now ≡ path) × (told ≡ refusal)
IsToldIn library refusal other = ⊥

-- the refusal of a text that is too long
abbrev pub SaysTooLong : Refusal → Type 0
SaysTooLong refusal = (refusal.rule ≡ TextTooLong) × (refusal.place ≡ Some origin) × (refusal.why ≡ Plain)

-- why a text of fewer bytes than so many is not had of the file at a path, which is a library or not: its length is
-- asked before all else
pub data NoTextBelow (files : Contents) (path : List ℕ) (library : Option (List ℕ)) (limit : ℕ) : Fault → Type 0 where
  unread_below : {fault : Fault} → NotRead path fault → NoTextBelow files path library limit fault
  too_long_below : {bytes : List ℕ} (refusal : Refusal) {fault : Fault} → files path ≡ Some bytes
      → limit ≤ length bytes → SaysTooLong refusal → IsToldIn library refusal fault
      → NoTextBelow files path library limit fault
  not_utf8_below : {bytes : List ℕ} {fault : FileFault} → files path ≡ Some bytes → length bytes < limit
      → ¬ IsUtf8 bytes → IsNotUtf8 path fault → NoTextBelow files path library limit (File fault)

-- why no text is had of libraries and a file: by the first of them that is not read, is no text or makes the joined
-- text too long; or memory was refused
pub data NoSources (files : Contents) (paths : List (List ℕ)) (path : List ℕ) : Fault → Type 0 where
  by_library : (before : List LibraryText) (library : List ℕ) (later : List (List ℕ)) {fault : Fault}
      → paths ≡ map (λ one. one.0) before ++ library ∷ later → AreHeld files before
      → NoTextBelow files library (Some library) (source_limit - length (joined before [])) fault
      → NoSources files paths path fault
  by_file : (libraries : List LibraryText) {fault : Fault} → map (λ one. one.0) libraries ≡ paths
      → AreHeld files libraries
      → NoTextBelow files path None (source_limit + 1 - length (joined libraries [])) fault
      → NoSources files paths path fault
  no_memory : {fault : Fault} → IsOutOfMemory fault → NoSources files paths path fault

-- a text is the joined one of libraries and a file, and these are the libraries by their lines
pub record IsReadFrom (files : Contents) (paths : List (List ℕ)) (path text : List ℕ) (by_lines : List (List ℕ × ℕ)) :
    Type 0 where
  pub libraries : List LibraryText
  pub last : List ℕ
  pub holds : HoldsSources files paths path libraries last
  pub is : text ≡ joined libraries last
  pub lines : by_lines ≡ numbered libraries
