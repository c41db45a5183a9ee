-- A function that is loaded as it is asked for.
use Rattle.std.specs.Prelude.{◌≡◌, None}
use Rattle.elf_memory.specs.declared.asked.Asked.{Asked}
use Rattle.elf_witnesses.specs.Below.{Executable, paged_bytes, program_of, state_of}
use Rattle.elf_runs.specs.Needs.{first_unmet, needs}
use Rattle.elf_runs.specs.Loading.{machine_program, state_at_start}
use Rattle.elf_runs.specs.declared.loading.LoadedFunction.{LoadedFunction}
use Rattle.elf_runs.specs.declared.options.RunOptions.{RunOptions}

pub record IsLoaded (program : Executable) (asked : Asked) (options : RunOptions) (loaded : LoadedFunction)
    : Type 0 where
  pub met : first_unmet (needs program asked) ≡ None
  pub program_is : program_of loaded.program ≡ machine_program program asked options.profile
  pub state : state_of loaded.run.hart (paged_bytes loaded.run.memory) ≡ state_at_start program asked
  pub steps : loaded.run.steps_left ≡ options.steps
