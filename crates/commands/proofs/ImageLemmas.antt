-- Images of files, and faults that are handed on.
use Rattle.std.proofs.Common.{◌≡◌, ℕ, ◌+◌, List, Result, Ok, Err, refl, sym, ap, ◌∙◌}
use Rattle.commands.specs.Contents.{Contents, BeginsFile}
use Rattle.commands.specs.ImageRefusals as refusals
use Rattle.commands.specs.ImageArguments.{LacksArguments}
use Rattle.commands.specs.ImageRefusals.{no_answer, no_arguments, no_image, RefusesImage}
use Rattle.commands.specs.Images.{HoldsImage, NoImage, not_read, not_spelled}
use Rattle.commands.specs.Unread.{out_of_memory}
use Rattle.commands.specs.declared.fault.Fault.{Fault}
use Rattle.commands.specs.declared.fault.Fault.TheVariants.{Image}
use Rattle.commands.proofs.Beginnings.{one_byte_more}
use Rattle.commands.specs.Below.{fault_of_texts, Field, Fields, ImageFault, IsImage, IsUnlessMemory, longest_image}
use Rattle.commands.specs.Below.{params_of, reading}
use Rattle.image.specs.declared.fault.ImageFault.TheVariants.{Memory}

-- what is read of the beginning of a file is what all of it spells
pub all_read : (files : Contents) (path bytes : List ℕ) (begun : BeginsFile files path (longest_image + 1) bytes)
    (answer : Result Fields ImageFault) → reading bytes ≡ answer → reading begun.whole ≡ answer
all_read files path bytes begun answer is = sym (one_byte_more begun.whole) ∙ ap reading (sym begun.begun) ∙ is

pub image_held : (files : Contents) (path bytes : List ℕ) (image : Fields)
    → BeginsFile files path (longest_image + 1) bytes → reading bytes ≡ Ok image → IsImage image
    → HoldsImage files path image
image_held files path bytes image begun is allowed = record {
  bytes = begun.whole;
  held = begun.held;
  spelled = all_read files path bytes begun (Ok image) is;
  allowed = allowed;
}

pub image_refused : (files : Contents) (path bytes : List ℕ) (fault : ImageFault)
    → BeginsFile files path (longest_image + 1) bytes → IsUnlessMemory {A = Fields} (Err fault) (reading bytes)
    → NoImage files path (Image fault)
image_refused files path bytes (Field rule offset) begun is =
    not_spelled begun.held (all_read files path bytes begun (Err (Field rule offset)) is)
image_refused files path bytes Memory begun is = not_read (out_of_memory refl)

-- without an image or arguments nothing is answered, whatever is asked
pub refused_anyway : {files : Contents} {path : List ℕ} (words : List (List ℕ)) {Answers : Fields → Fault → Type 0}
    {fault : Fault} → LacksArguments files path words fault
    → RefusesImage files path (λ image. fault_of_texts (params_of image) words) Answers fault
refused_anyway words (no_image why) = no_image why
refused_anyway words (no_arguments held why) = no_arguments held why
refused_anyway words (no_answer held never) = absurd never
refused_anyway words (refusals.out_of_memory memory) = refusals.out_of_memory memory
