-- The lines that say how many steps a run has made.
use Rattle.std.specs.Prelude.{ℕ, ◌*◌, Bool, true, false, List, [], ◌++◌, codes}
use Rattle.std.specs.Fmt.{decimal}
use Rattle.std.proofs.Common.{zero, suc}
use Rattle.run_reports.specs.Below.{Collected, IsPut, IsPutInPart, IsPutWhole}

-- how many steps there are to a line
abbrev pub steps_a_line : ℕ
steps_a_line = 134217728

-- the line of so many steps
abbrev pub progress_line : ℕ → List ℕ
progress_line steps = codes "progress: " ++ decimal steps ++ codes " turns\n"

-- the first so many lines
unfoldable pub progress_lines : ℕ → List ℕ
progress_lines zero = []
progress_lines (suc count) = progress_lines count ++ progress_line (suc count * steps_a_line)

-- so many lines went out: all of them, or where a call failed a beginning of them
abbrev pub AreTold : ℕ → Collected → Collected → Type 0
AreTold count before after = IsPut (progress_lines count) before after

-- which of the two, by whether they went out whole
abbrev pub WentOut : Bool → ℕ → Collected → Collected → Type 0
WentOut true count before after = IsPutWhole (progress_lines count) before after
WentOut false count before after = IsPutInPart (progress_lines count) before after
