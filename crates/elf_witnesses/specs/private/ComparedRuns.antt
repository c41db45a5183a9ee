-- Two runs of a function, with what is secret in each of them.
use Rattle.std.specs.Prelude.{◌≡◌, ℕ, IfSome, List, map, None, Option}
use Rattle.rand_core.specs.Stream.{Stream}
use Rattle.elf_memory.specs.declared.asked.Asked.{Asked}
use Rattle.elf_memory.specs.declared.asked.Setting.{Setting}
use Rattle.elf_witnesses.specs.declared.comparing.Comparison.{Comparison}
use Rattle.elf_runs.specs.declared.options.RunOptions.{RunOptions}
use Rattle.elf_witnesses.specs.declared.witnessing.Witness.{Witness}
use Rattle.elf_witnesses.specs.Below.{Executable, Observation}
use Rattle.elf_witnesses.specs.Compared.{Compares}
use Rattle.elf_witnesses.specs.Drawn.{first_secrets, other_secrets, size_in}
use Rattle.elf_witnesses.specs.Witnessed.{IsWitness, RunsSo, set_bytes, ShowsSame}

-- what the lists that an observer sees of runs with these secrets, and with those, are to each other
pub record ComparedBy (program : Executable) (asked : Asked) (options : RunOptions) (secrets secrets' : List Setting)
    (compared : Comparison) : Type 0 where
  pub one : Asked
  pub other : Asked
  pub seen : List Observation
  pub seen' : List Observation
  pub runs : RunsSo program asked options secrets one seen
  pub runs' : RunsSo program asked options secrets' other seen'
  pub compares : Compares seen seen' compared

-- what a try finds, of which the secrets are drawn from these numbers, and those that are left
pub record IsTried (program : Executable) (asked : Asked) (options : RunOptions) (attempt : ℕ) (numbers next : Stream)
    (found : Option Witness) : Type 0 where
  pub one : List Setting
  pub other : List Setting
  pub between : Stream
  pub drawn : (map set_bytes one, between) ≡ first_secrets attempt (map (size_in program) asked.secrets.items) numbers
  pub drawn' : (map set_bytes other, next) ≡ other_secrets attempt (map set_bytes one) between
  pub witness : IfSome found (IsWitness program asked options)
  pub given : IfSome found (λ witness. (witness.one.items ≡ one) × (witness.other.items ≡ other))
  pub same : found ≡ None → ShowsSame program asked options one other
