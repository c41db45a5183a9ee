-- What is answered where the run of an image is to be certified for all arguments that have the given values.
use Rattle.std.specs.Prelude.{◌≡◌, List, Option, Some, None, Result, Ok, Err}
use Rattle.image_reports.specs.Below.{Arg, Argument, ArgumentFault, CertifiedEnd, CertifiedRun, code_at, code_base}
use Rattle.image_reports.specs.Below.{end_of, Fields, frame_base, image_program, Memory, Observation, params_of}
use Rattle.image_reports.specs.Below.{RunEnding, RunFault, Shifts}
use Rattle.image_reports.specs.certificates.Given.{fault_of_given}
use Rattle.image_reports.specs.certificates.KnownImage.{known_at}

-- what is answered: what is given is refused by its first fault; else it is what the image's certified run says,
-- within its steps, with amounts of shifts seen or not
pub data Certified (image : Fields) (given : List (Option Arg)) (shifts : Shifts) : Result CertifiedEnd RunFault
    → Type 0 where
  refused : {fault : ArgumentFault} → fault_of_given (params_of image) given ≡ Some fault
      → Certified image given shifts (Err (Argument fault.rule fault.index))
  out_of_memory : fault_of_given (params_of image) given ≡ None → Certified image given shifts (Err Memory)
  certified : {seen : List Observation} {ending : RunEnding} → fault_of_given (params_of image) given ≡ None
      → CertifiedRun (image_program (code_at code_base image)) image.max_steps
      (known_at code_base frame_base image given shifts) seen ending
      → Certified image given shifts (Ok (end_of seen ending))
