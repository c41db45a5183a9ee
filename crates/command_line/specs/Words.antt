-- Which words of a command line are arguments, which profile is named, and which paths are apart.
use Rattle.std.specs.Prelude.{◌≡◌, ◌≢◌, ℕ, Bool, ◌||◌, if◌then◌else◌, List, [], ◌∷◌, drop, codes, Option, Some, None}
use Rattle.std.specs.Prelude.{slice_index_or, map, nat_eq, IfSome, ⊤}
use Rattle.std.specs.List.{All, starts_with}
use Rattle.std.specs.Str.{bytes_eq}
use Rattle.word.specs.declared.profile.Profile.{Profile}
use Rattle.word.specs.declared.profile.Profile.TheVariants.{P1, P2}
use Rattle.command_line.specs.declared.words.Request.{Request}
use Rattle.command_line.specs.declared.words.Request.TheVariants.{Build, Certify, Eval, Function, Leak, Pair}
use Rattle.command_line.specs.declared.words.Request.TheVariants.{Picture, Run, Wrap}

-- whether a word may stand alone between a command that takes arguments and its path: a flag, `--format=` and a format,
-- or `--with=` and a library
abbrev pub is_flag : List ℕ → Bool
is_flag word =
    bytes_eq word (codes "--explain") || bytes_eq word (codes "--shifts") || bytes_eq word (codes "--progress")
    || bytes_eq word (codes "--steps") || starts_with nat_eq word (codes "--format=")
    || starts_with nat_eq word (codes "--with=")

-- whether a word stands there with a value behind it
abbrev pub takes_value : List ℕ → Bool
takes_value word = bytes_eq word (codes "--format") || bytes_eq word (codes "--with")

-- the words from the first on that is no flag and takes no value
abbrev mutual
  pub behind_flags : List (List ℕ) → List (List ℕ)
  behind_flags [] = []
  behind_flags (word ∷ words) =
      if is_flag word then behind_flags words else if takes_value word then behind_value words else word ∷ words

  pub behind_value : List (List ℕ) → List (List ℕ)
  behind_value [] = []
  behind_value (value ∷ words) = behind_flags words

-- the words behind a path; `--` may stand before the path
abbrev pub behind_path : List (List ℕ) → List (List ℕ)
behind_path words = drop (if bytes_eq (slice_index_or words 0 []) (codes "--") then 2 else 1) words

-- the words behind the program's name, a command, flags, values and a path
abbrev pub after_path : List (List ℕ) → List (List ℕ)
after_path words = behind_path (behind_flags (drop 2 words))

-- the profile of the number that is named; without one it is the first
abbrev pub profile_named : Option (List ℕ) → Profile
profile_named (Some text) = if bytes_eq text (codes "2") then P2 else P1
profile_named None = P1

-- the arguments that are asked for
abbrev pub arguments_of : Request → Option (List (List ℕ))
arguments_of (Eval libraries file arguments explain) = Some (map (λ word. word.now) arguments.now)
arguments_of (Run image arguments options) = Some (map (λ word. word.now) arguments.now)
arguments_of (Leak image arguments) = Some (map (λ word. word.now) arguments.now)
arguments_of (Pair image arguments options) = Some (map (λ word. word.now) arguments.now)
arguments_of (Certify image arguments options) = Some (map (λ word. word.now) arguments.now)
arguments_of (Picture image arguments progress) = Some (map (λ word. word.now) arguments.now)
arguments_of request = None

-- no path that is written to is one that is read or another that is written to, as both are given
abbrev pub WritesNoneItReads : Request → Type 0
WritesNoneItReads (Build libraries file image options) = (image.now ≢ file.now)
    × All (λ library. image.now ≢ library.now) libraries.now
WritesNoneItReads (Function libraries file assembler header options) = (assembler.now ≢ file.now)
    × (header.now ≢ file.now) × (assembler.now ≢ header.now)
    × All (λ library. assembler.now ≢ library.now) libraries.now
    × All (λ library. header.now ≢ library.now) libraries.now
WritesNoneItReads (Wrap file code image frame steps profile) = (image.now ≢ file.now) × (image.now ≢ code.now)
WritesNoneItReads request = ⊤

-- a request may be what words ask for: its arguments, if it takes any, are the words behind a path
abbrev pub IsAskedBy : List (List ℕ) → Request → Type 0
IsAskedBy words request = IfSome (arguments_of request) (λ arguments. arguments ≡ after_path words)
