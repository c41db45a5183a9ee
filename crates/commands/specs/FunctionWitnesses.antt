-- What is printed of two runs of a function of an executable of which an observer sees different things.
use Rattle.std.specs.Prelude.{◌≡◌, ℕ, ◌++◌, List, [], ◌∷◌, None, codes}
use Rattle.std.specs.Fmt.{decimal}
use Rattle.hex.specs.Hex.{encode_lower}
use Rattle.commands.specs.Below.{AskedRun, AskedWords, AsksFor, Executable, first_unmet, IsWitness, needs, place_line}
use Rattle.commands.specs.Below.{RunOptions, Setting, Witness}
use Rattle.commands.specs.Contents.{Contents}
use Rattle.commands.specs.Executables.{HoldsExecutable, IsLineOrNothing}
use Rattle.commands.specs.FunctionLeaks.{observed_run}
use Rattle.command_line.specs.declared.options.ObservedOptions.{ObservedOptions}

-- the words by which `elf leak` sets a secret, behind a blank
abbrev pub setting_words : Setting → List ℕ
setting_words setting =
    codes " --set " ++ setting.object.items ++ codes "=hex:" ++ encode_lower setting.bytes.items

abbrev pub settings_words : List Setting → List ℕ
settings_words [] = []
settings_words (setting ∷ settings) = setting_words setting ++ settings_words settings

-- the line of the secrets of a run, behind the name of the run
abbrev pub settings_line : List ℕ → List Setting → List ℕ
settings_line name settings = name ++ settings_words settings ++ codes "\n"

-- the entry that differs first, the line of the last instruction that begins before it in the first run, the line of
-- its place, with the calls that lead there, and the secrets of both runs
pub record PrintsWitness (program : Executable) (witness : Witness) (text : List ℕ) : Type 0 where
  pub line : List ℕ
  pub shown : IsLineOrNothing program witness.step.pc line
  pub whole : text ≡ codes "differ at " ++ decimal witness.entry ++ codes "\n" ++ line
      ++ place_line program witness.step.pc witness.calls.items
      ++ settings_line (codes "first:") witness.one.items
      ++ settings_line (codes "second:") witness.other.items

-- that none was found
abbrev pub none_text : ℕ → List ℕ
none_text tries = codes "none in " ++ decimal tries ++ codes " tries\n"

-- what is printed: two runs that differ as a witness's do, or that so many tries found none, which promises nothing
pub data SaysWitnessOf (program : Executable) (asked : AskedRun) (options : RunOptions) (tries : ℕ)
    : List ℕ → Type 0 where
  found : (witness : Witness) {text : List ℕ} → IsWitness program asked options witness
      → PrintsWitness program witness text → SaysWitnessOf program asked options tries text
  none_found : first_unmet (needs program asked) ≡ None → SaysWitnessOf program asked options tries (none_text tries)

-- the same of a function of the file's program, as the words ask
pub record SaysFunctionWitness (files : Contents) (path : List ℕ) (words : AskedWords) (options : ObservedOptions)
    (tries : ℕ) (text : List ℕ) : Type 0 where
  pub program : Executable
  pub asked : AskedRun
  pub held : HoldsExecutable files path program
  pub as_said : AsksFor words asked
  pub said : SaysWitnessOf program asked (observed_run options) tries text
