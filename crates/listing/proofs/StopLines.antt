-- The lines of an image's run, and then the line of its stop, are its listing.
use Rattle.std.proofs.Common.{◌≡◌, ℕ, List, ◌++◌, ap}
use Rattle.listing.specs.Below.{Arg, code_at, code_base, Fields, frame_base, GainsPart, image_program, loaded_at, State}
use Rattle.listing.specs.Below.{Stop, Writes, WritesPart}
use Rattle.listing.specs.Leaked.{IsLeak}
use Rattle.listing.specs.Lines.{stop_line}
use Rattle.listing.specs.Listings.{AreLines}
use Rattle.listing.proofs.Below.{of_image_runs}
use Rattle.listing.proofs.Pieces.{cut_before_line, cut_in_line, with_line}

module _ (image : Fields) (args : List Arg) where
  -- these bytes are the lines of the image's run, which stops so
  abbrev pub AreLinesOf : Stop → State → List ℕ → Type 0
  AreLinesOf =
      AreLines (image_program (code_at code_base image)) image.max_steps (loaded_at code_base frame_base image args)

  with_stop : (stop : Stop) (end : State) (bytes : List ℕ) → AreLinesOf stop end bytes
      → IsLeak image args stop (bytes ++ stop_line stop)
  with_stop stop end bytes (seen, (run, calm), is) =
      (seen, (end, (of_image_runs run, calm)), ap (λ l. l ++ stop_line stop) is)

  with_some_stop : (bytes : List ℕ) → (stop : Stop) × (end : State) × AreLinesOf stop end bytes
      → (line : List ℕ) × ((stop : Stop) × IsLeak image args stop (bytes ++ line))
  with_some_stop bytes (stop, end, lines) = (stop_line stop, (stop, with_stop stop end bytes lines))

  -- the lines went out
  module _ (stop : Stop) (end : State) (before now after : List ℕ) (lines : Writes (AreLinesOf stop end) before now)
    where
      -- and the line of the stop
      pub stop_written : after ≡ now ++ stop_line stop → Writes (IsLeak image args stop) before after
      stop_written =
          with_line (AreLinesOf stop end) (IsLeak image args stop) (stop_line stop) (with_stop stop end) before now after
          lines

      -- or a part of it
      pub stop_cut : GainsPart now after (stop_line stop)
          → WritesPart (λ bytes. (stop : Stop) × IsLeak image args stop bytes) before after
      stop_cut =
          cut_in_line (AreLinesOf stop end) (λ bytes. (stop : Stop) × IsLeak image args stop bytes) (stop_line stop)
          (λ bytes whole. (stop, with_stop stop end bytes whole)) before now after lines

  -- a part of the lines went out
  pub lines_cut : (before after : List ℕ)
      → WritesPart (λ bytes. (stop : Stop) × (end : State) × AreLinesOf stop end bytes) before after
      → WritesPart (λ bytes. (stop : Stop) × IsLeak image args stop bytes) before after
  lines_cut =
      cut_before_line (λ bytes. (stop : Stop) × (end : State) × AreLinesOf stop end bytes)
      (λ bytes. (stop : Stop) × IsLeak image args stop bytes) with_some_stop
