-- The lines of a function's run, and then the line of how it stops, are its listing.
use Rattle.std.proofs.Common.{◌≡◌, ℕ, List, ◌++◌, refl, ap}
use Rattle.elf_reports.specs.Below.{AreLines, Asked, Executable, function_stop, FunctionStop, GainsPart}
use Rattle.elf_reports.specs.Below.{machine_program, RunOptions, State, state_at_start, Stop, Writes, WritesPart}
use Rattle.elf_reports.specs.Leaked.{end_line, IsFunctionLeak}
use Rattle.elf_reports.proofs.Below.{cut_before_line, cut_in_line, with_line}

module _ (program : Executable) (asked : Asked) (options : RunOptions) where
  -- these bytes are the lines of the function's run, which stops so
  abbrev pub AreLinesOf : Stop → State → List ℕ → Type 0
  AreLinesOf = AreLines (machine_program program asked options.profile) options.steps (state_at_start program asked)

  with_end : (how : FunctionStop) (stop : Stop) (end : State) → how ≡ function_stop stop end.pc → (bytes : List ℕ)
      → AreLinesOf stop end bytes → IsFunctionLeak program asked options how (bytes ++ end_line how)
  with_end how stop end so bytes (seen, ends, is) =
      (seen, (stop, end, ends, so), ap (λ l. l ++ end_line how) is)

  with_some_end : (bytes : List ℕ) → (stop : Stop) × (end : State) × AreLinesOf stop end bytes
      → (line : List ℕ) × ((how : FunctionStop) × IsFunctionLeak program asked options how (bytes ++ line))
  with_some_end bytes (stop, end, lines) =
      let how = function_stop stop end.pc in
      (end_line how, (how, with_end how stop end refl bytes lines))

  -- the lines went out
  module _ (how : FunctionStop) (stop : Stop) (end : State) (so : how ≡ function_stop stop end.pc)
      (before now after : List ℕ) (lines : Writes (AreLinesOf stop end) before now) where
    -- and the line of how it stops
    pub end_written : after ≡ now ++ end_line how → Writes (IsFunctionLeak program asked options how) before after
    end_written =
        with_line (AreLinesOf stop end) (IsFunctionLeak program asked options how) (end_line how)
        (with_end how stop end so) before now after lines

    -- or a part of it
    pub end_cut : GainsPart now after (end_line how)
        → WritesPart (λ bytes. (how : FunctionStop) × IsFunctionLeak program asked options how bytes) before after
    end_cut =
        cut_in_line (AreLinesOf stop end) (λ bytes. (how : FunctionStop) × IsFunctionLeak program asked options how bytes)
        (end_line how) (λ bytes whole. (how, with_end how stop end so bytes whole)) before now after lines

  -- a part of the lines went out
  pub lines_cut : (before after : List ℕ)
      → WritesPart (λ bytes. (stop : Stop) × (end : State) × AreLinesOf stop end bytes) before after
      → WritesPart (λ bytes. (how : FunctionStop) × IsFunctionLeak program asked options how bytes) before after
  lines_cut =
      cut_before_line (λ bytes. (stop : Stop) × (end : State) × AreLinesOf stop end bytes)
      (λ bytes. (how : FunctionStop) × IsFunctionLeak program asked options how bytes) with_some_end
