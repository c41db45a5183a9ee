-- So many steps were made, which show so many entries, and the origins are those behind them.
use Rattle.std.proofs.Common.{◌≡◌, ℕ}
use Rattle.std.specs.Prelude.{is_some}
use Rattle.run_reports.specs.Below.{known_of, state_of}
use Rattle.run_reports.specs.origins.Origins.{origins_in}
use Rattle.run_reports.proofs.origins_lemmas.Made.{HasTraced}
use Rattle.run_reports.proofs.origins.tracing.trace.Given as goal

abbrev pub invariant-loop-step : goal.invariant-loop-step
invariant-loop-step g l =
    let bytes = g.M.Memory.bytes in
    record {
      traced : HasTraced (g.P.Program.program l.program)
          (known_of (state_of l.fn.run.hart (bytes l.fn.run.memory)) l.fn.known.registers (bytes l.fn.known.marks)
          l.fn.known.shifts)
          l._step
          (known_of (state_of l.run.hart (bytes l.run.memory)) l.known.registers (bytes l.known.marks)
          l.known.shifts)
          (origins_in l.origins.kept) l.entries;
      extent : (a : ℕ) → is_some (bytes l.known.marks a) ≡ is_some (bytes l.run.memory a);
    }
