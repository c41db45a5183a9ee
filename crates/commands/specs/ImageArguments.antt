-- Why arguments of the image of a file are not had.
use Rattle.std.specs.Prelude.{ℕ, List}
use Rattle.commands.specs.Below.{fault_of_texts, params_of}
use Rattle.commands.specs.Contents.{Contents}
use Rattle.commands.specs.ImageRefusals.{RefusesImage}
use Rattle.commands.specs.declared.fault.Fault.{Fault}

-- there is no image, or the words spell no arguments of one run of it
abbrev pub LacksArguments : Contents → List ℕ → List (List ℕ) → Fault → Type 0
LacksArguments files path words =
    RefusesImage files path (λ image. fault_of_texts (params_of image) words) (λ image fault. ⊥)
