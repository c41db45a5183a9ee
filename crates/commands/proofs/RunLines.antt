-- What goes out of the run of a file's image is what goes out of that image's run.
use Rattle.std.proofs.Common.{◌⊎◌, inl, inr, ℕ, List}
use Rattle.commands.specs.Below.{Arg, Collected, Counting, Fields, HasLines, params_of, Reaches}
use Rattle.commands.specs.Contents.{Contents}
use Rattle.commands.specs.Images.{HoldsImage}
use Rattle.commands.specs.Progress.{FileRunTells, RunTells}
use Rattle.commands.specs.Words.{AreSpelled}
use Rattle.command_line.specs.declared.options.StepOptions.{StepOptions}
use Rattle.commands.proofs.StepLemmas.{run_tells_reaches}

module _ (Has : Counting) (before after : Collected) {files : Contents} {path : List ℕ} {words : List (List ℕ)}
    {image : Fields} (held : HoldsImage files path image) where
  pub file_run_tells : {args : List Arg} (options : StepOptions) → AreSpelled (params_of image) words args
      → RunTells Has options image args before after
      → FileRunTells Has options files path words before after
  file_run_tells {args} options spelled told =
      record { image = image; args = args; held = held; spelled = spelled; told = told }

  -- where it is that, or nothing
  pub file_run_part : (Quiet : Type 0) {args : List Arg} (options : StepOptions)
      → AreSpelled (params_of image) words args → Quiet ⊎ RunTells Has options image args before after
      → Quiet ⊎ FileRunTells Has options files path words before after
  file_run_part Quiet options spelled (inl quiet) = inl quiet
  file_run_part Quiet options spelled (inr told) = inr (file_run_tells options spelled told)

-- all lines are some
pub run_reaches : (files : Contents) (path : List ℕ) (words : List (List ℕ)) (before after : Collected)
    (options : StepOptions) → FileRunTells HasLines options files path words before after
    → FileRunTells Reaches options files path words before after
run_reaches files path words before after options told = record {
  image = told.image;
  args = told.args;
  held = told.held;
  spelled = told.spelled;
  told = run_tells_reaches options told.image told.args before after told.told;
}
