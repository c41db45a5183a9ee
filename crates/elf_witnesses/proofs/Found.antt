-- What is found of functions that were loaded as requests ask.
use Rattle.std.proofs.Common.{◌≡◌, ℕ, [], List, None, refl, sym, ◌∙◌}
use Rattle.std.proofs.lemmas.Option.{none-some}
use Rattle.elf_runs.specs.declared.fault.StartFault.TheVariants.{Memory, Refused}
use Rattle.elf_memory.specs.declared.asked.Asked.{Asked}
use Rattle.elf_witnesses.specs.Below.{Executable, Observation, paged_bytes, Profile, program_of, state_of}
use Rattle.elf_runs.specs.Needs.{first_unmet, IsTold, needs}
use Rattle.elf_memory.specs.declared.asked.Setting.{Setting}
use Rattle.elf_runs.specs.declared.fault.StartFault.{StartFault}
use Rattle.elf_runs.specs.Calls.{LeadThere}
use Rattle.elf_witnesses.specs.Compared.{IsShown}
use Rattle.elf_runs.specs.Loading.{machine_program, state_at_start}
use Rattle.elf_witnesses.specs.Witnessed.{IsWitness, RunsSo, SetEachSecret, SetsBesides}
use Rattle.elf_runs.specs.declared.loading.LoadedFunction.{LoadedFunction}
use Rattle.elf_runs.specs.declared.options.RunOptions.{RunOptions}
use Rattle.elf_witnesses.specs.declared.witnessing.Witness.{Witness}
use Rattle.elf_witnesses.specs.private.Loaded.{IsLoaded}
use Rattle.elf_witnesses.proofs.MoreSet.{same_program, same_start, sets_after}

-- where all is met nothing but memory is wanting
pub memory_alone : (program : Executable) (asked : Asked) (fault : StartFault) → first_unmet (needs program asked) ≡ None
    → IsTold fault (needs program asked) → fault ≡ Memory
memory_alone program asked (Refused unmet) met told = absurd (none-some unmet (sym met ∙ told))
memory_alone program asked Memory met told = refl

module _ {program : Executable} {asked besides : Asked} {options : RunOptions} {loaded : LoadedFunction}
    (is : IsLoaded program besides options loaded) where
  pub runs_so : {secrets : List Setting} {seen : List Observation} → SetEachSecret program asked.secrets.items secrets
      → SetsBesides asked secrets besides
      → IsShown (program_of loaded.program) loaded.run.steps_left
      (state_of loaded.run.hart (paged_bytes loaded.run.memory)) seen
      → RunsSo program asked options secrets besides seen
  runs_so each sets shown = record {
    each = each;
    sets = sets;
    met = is.met;
    shows = rw (is.program_is, is.state, is.steps) at shown;
  }

pub calls_so : {program : Executable} {asked : Asked} {options : RunOptions} {loaded : LoadedFunction} {entries : ℕ}
    {calls : List ℕ} → IsLoaded program asked options loaded
    → LeadThere (program_of loaded.program) (state_of loaded.run.hart (paged_bytes loaded.run.memory)) entries calls
    → LeadThere (machine_program program asked options.profile) (state_at_start program asked) entries calls
calls_so is calls = rw (is.program_is, is.state) at calls

-- the calls of a run are those of one that begins alike
pub calls_alike : (program : Executable) {asked one other : Asked} {secrets : List Setting} (profile : Profile)
    {entries : ℕ} {calls : List ℕ} → SetsBesides asked secrets one → SetsBesides asked secrets other
    → LeadThere (machine_program program one profile) (state_at_start program one) entries calls
    → LeadThere (machine_program program other profile) (state_at_start program other) entries calls
calls_alike program profile sets also calls =
    rw (same_program program sets also profile, same_start program sets also) at calls

-- what is found of a request is found of one that is as it is
pub runs_same : {program : Executable} {asked same besides : Asked} {options : RunOptions} {secrets : List Setting}
    {seen : List Observation} → SetsBesides asked [] same → RunsSo program same options secrets besides seen
    → RunsSo program asked options secrets besides seen
runs_same sets runs = record {
  each = rw (sym sets.secrets) runs.each;
  sets = sets_after sets runs.sets;
  met = runs.met;
  shows = runs.shows;
}

pub witness_same : {program : Executable} {asked same : Asked} {options : RunOptions} → SetsBesides asked [] same
    → (witness : Witness) → IsWitness program same options witness → IsWitness program asked options witness
witness_same sets witness found = record {
  one = found.one;
  other = found.other;
  seen = found.seen;
  seen' = found.seen';
  runs = runs_same sets found.runs;
  runs' = runs_same sets found.runs';
  differ = found.differ;
  calls = found.calls;
}
