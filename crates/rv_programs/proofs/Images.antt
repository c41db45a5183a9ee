-- The runs of an image, as a program, are those of the machine.
use Rattle.std.proofs.Common.{ℕ, List}
use Rattle.rv_machine.specs.Leakage as machine
use Rattle.rv_programs.specs.Below.{Halts, Leads, MachineCode, Observation, RunsWithin, State, Stop}
use Rattle.rv_programs.specs.Programs.{image_program}
use Rattle.rv_programs.specs.Runs.{cut_short, halted, halts, ProgramHalts, ProgramLeads, ProgramRuns, spent, stays}
use Rattle.rv_programs.specs.Runs.{steps_on}
use Rattle.rv_programs.proofs.Guards.{image_step, of_image}

module _ {code : MachineCode} where
  pub image_leads : {n : ℕ} {s t : State} {seen : List Observation} → Leads code n s seen t
      → ProgramLeads (image_program code) n s seen t
  image_leads machine.stays = stays
  image_leads (machine.steps_on step rest) = steps_on (image_step step) (image_leads rest)

  pub of_image_leads : {n : ℕ} {s t : State} {seen : List Observation}
      → ProgramLeads (image_program code) n s seen t → Leads code n s seen t
  of_image_leads stays = machine.stays
  of_image_leads (steps_on step rest) = machine.steps_on (of_image step) (of_image_leads rest)

  pub image_halts : {n : ℕ} {s t : State} {seen : List Observation} {stop : Stop} → Halts code n s seen stop t
      → ProgramHalts (image_program code) n s seen stop t
  image_halts (machine.halts leads step is) = halts (image_leads leads) (image_step step) is

  pub of_image_halts : {n : ℕ} {s t : State} {seen : List Observation} {stop : Stop}
      → ProgramHalts (image_program code) n s seen stop t → Halts code n s seen stop t
  of_image_halts (halts leads step is) = machine.halts (of_image_leads leads) (of_image step) is

  pub image_runs : {budget : ℕ} {s t : State} {seen : List Observation} {stop : Stop}
      → RunsWithin code budget s seen stop t → ProgramRuns (image_program code) budget s seen stop t
  image_runs (machine.halted within run) = halted within (image_halts run)
  image_runs (machine.cut_short within leads step shows) =
      cut_short within (image_leads leads) (image_step step) shows
  image_runs (machine.spent leads) = spent (image_leads leads)

  pub of_image_runs : {budget : ℕ} {s t : State} {seen : List Observation} {stop : Stop}
      → ProgramRuns (image_program code) budget s seen stop t → RunsWithin code budget s seen stop t
  of_image_runs (halted within run) = machine.halted within (of_image_halts run)
  of_image_runs (cut_short within leads step shows) =
      machine.cut_short within (of_image_leads leads) (of_image step) shows
  of_image_runs (spent leads) = machine.spent (of_image_leads leads)
