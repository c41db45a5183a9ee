-- Why what a command asks of the image of a file, on words, is not done.
use Rattle.std.specs.Prelude.{ℕ, List, Option}
use Rattle.commands.specs.Below.{ArgumentFault, Fields, RunFault}
use Rattle.commands.specs.Contents.{Contents}
use Rattle.commands.specs.Images.{HoldsImage, NoImage}
use Rattle.commands.specs.Unread.{IsOutOfMemory}
use Rattle.commands.specs.Words.{IsFaultOfWords}
use Rattle.commands.specs.declared.fault.Fault.{Fault}
use Rattle.commands.specs.declared.fault.Fault.TheVariants.{Run}

-- there is no image; or the words have a first fault, by the image; or the answer for the image is this fault; or
-- memory was refused
pub data RefusesImage (files : Contents) (path : List ℕ) (first : Fields → Option ArgumentFault) (Answers : Fields
    → Fault → Type 0) : Fault → Type 0 where
  no_image : {fault : Fault} → NoImage files path fault → RefusesImage files path first Answers fault
  no_arguments : {image : Fields} {fault : RunFault} → HoldsImage files path image
      → IsFaultOfWords (first image) fault → RefusesImage files path first Answers (Run fault)
  no_answer : {image : Fields} {fault : Fault} → HoldsImage files path image → Answers image fault
      → RefusesImage files path first Answers fault
  out_of_memory : {fault : Fault} → IsOutOfMemory fault → RefusesImage files path first Answers fault
