-- Two runs of a function, each on secrets of its own, of which an observer sees not the same.
use Rattle.std.specs.Prelude.{◌≡◌, ◌⊎◌, ℕ, List, [], ◌∷◌, ◌++◌, length, map, Option, None, Some}
use Rattle.elf_memory.specs.declared.asked.Asked.{Asked}
use Rattle.elf_witnesses.specs.Below.{Executable, object_named, Observation}
use Rattle.elf_runs.specs.Needs.{first_unmet, needs}
use Rattle.elf_memory.specs.declared.asked.Secret.{Secret}
use Rattle.elf_memory.specs.declared.asked.Setting.{Setting}
use Rattle.elf_memory.specs.Objects.{size_of}
use Rattle.elf_runs.specs.Calls.{LeadThere}
use Rattle.elf_witnesses.specs.Compared.{Compares, IsShown}
use Rattle.elf_witnesses.specs.Drawn.{Try}
use Rattle.elf_runs.specs.Loading.{machine_program, state_at_start}
use Rattle.elf_witnesses.specs.declared.comparing.Comparison.TheVariants.{Differ, Same}
use Rattle.elf_runs.specs.declared.options.RunOptions.{RunOptions}
use Rattle.elf_witnesses.specs.declared.witnessing.Witness.{Witness}

-- a request with more that is set, behind what is
pub record SetsBesides (asked : Asked) (more : List Setting) (besides : Asked) : Type 0 where
  pub function : besides.function ≡ asked.function
  pub arguments : besides.arguments ≡ asked.arguments
  pub secrets : besides.secrets ≡ asked.secrets
  pub settings : besides.settings.items ≡ asked.settings.items ++ more
  pub stack : besides.stack ≡ asked.stack

-- the object that is set, and how many of its bytes are
abbrev pub set_size : Setting → List ℕ × ℕ
set_size setting = (setting.object.items, length setting.bytes.items)

-- a secret, and how many bytes it has
abbrev pub secret_size : Executable → Secret → List ℕ × ℕ
secret_size program secret = (secret.object.items, size_of (object_named program secret.object.items))

-- the bytes that are set
abbrev pub set_bytes : Setting → List ℕ
set_bytes setting = setting.bytes.items

-- one setting for each secret, of all its bytes
abbrev pub SetEachSecret : Executable → List Secret → List Setting → Type 0
SetEachSecret program secrets settings = map set_size settings ≡ map (secret_size program) secrets

-- what the function's run shows in which each bit that is not known is as it stands when it begins
abbrev pub ShowsAsItStands : Executable → Asked → RunOptions → List Observation → Type 0
ShowsAsItStands program asked options seen =
    IsShown (machine_program program asked options.profile) options.steps (state_at_start program asked) seen

-- a run where the secrets are set so
pub record RunsSo (program : Executable) (asked : Asked) (options : RunOptions) (secrets : List Setting)
    (besides : Asked) (seen : List Observation) : Type 0 where
  pub each : SetEachSecret program asked.secrets.items secrets
  pub sets : SetsBesides asked secrets besides
  pub met : first_unmet (needs program besides) ≡ None
  pub shows : ShowsAsItStands program besides options seen

-- two runs of which the entries differ first at this one; behind these calls is the last step of the first run that
-- begins before it
pub record IsWitness (program : Executable) (asked : Asked) (options : RunOptions) (witness : Witness) : Type 0 where
  pub one : Asked
  pub other : Asked
  pub seen : List Observation
  pub seen' : List Observation
  pub runs : RunsSo program asked options witness.one.items one seen
  pub runs' : RunsSo program asked options witness.other.items other seen'
  pub differ : Compares seen seen' (Differ witness.entry witness.step)
  pub calls : LeadThere (machine_program program one options.profile) (state_at_start program one) witness.step.entries
      witness.calls.items

-- two runs of which an observer sees the same
pub record ShowsSame (program : Executable) (asked : Asked) (options : RunOptions) (secrets secrets' : List Setting)
    : Type 0 where
  pub one : Asked
  pub other : Asked
  pub seen : List Observation
  pub seen' : List Observation
  pub runs : RunsSo program asked options secrets one seen
  pub runs' : RunsSo program asked options secrets' other seen'
  pub same : Compares seen seen' Same

-- the secrets have the bytes of a try, in one run and in the other
pub record AreOf (try : Try) (secrets secrets' : List Setting) : Type 0 where
  pub one : map set_bytes secrets ≡ try.one
  pub other : map set_bytes secrets' ≡ try.other

-- a try finds this
abbrev pub Finds : Executable → Asked → RunOptions → Try → Option Witness → Type 0
Finds program asked options try found =
    (witness : Witness) × (found ≡ Some witness) × AreOf try witness.one.items witness.other.items
    × IsWitness program asked options witness

-- a try finds nothing: an observer sees the same of its runs
abbrev pub FindsNothing : Executable → Asked → RunOptions → Try → Type 0
FindsNothing program asked options try =
    (secrets secrets' : List Setting) × AreOf try secrets secrets' × ShowsSame program asked options secrets secrets'

-- what the first of these tries finds that finds something; none where each finds nothing
abbrev pub FoundFirst : Executable → Asked → RunOptions → List Try → Option Witness → Type 0
FoundFirst program asked options [] found = found ≡ None
FoundFirst program asked options (try ∷ tries) found =
    Finds program asked options try found
    ⊎ (FindsNothing program asked options try × FoundFirst program asked options tries found)
