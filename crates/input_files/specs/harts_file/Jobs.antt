-- Harts of a plan as values.
use Rattle.std.specs.Prelude.{map}
use Rattle.std.specs.String.{string_bytes}
use Rattle.input_files.specs.harts_file.Lines.{PlannedHart}
use Rattle.input_files.specs.declared.harts_file.jobs.FileJob.{FileJob}

-- the hart that a job names
abbrev pub hart_of : FileJob → PlannedHart
hart_of job = record { path = string_bytes job.path; arguments = map string_bytes job.arguments.items }
