-- The steps so far lead to what is known now, and have shown so many entries.
use Rattle.std.proofs.Common.{◌+◌, ◌*◌, ◌≤◌}
use Rattle.certified_runs.specs.Below.{state_of}
use Rattle.certified_runs.specs.Parts.{known_of}
use Rattle.certified_runs.specs.private.Stepped.{HaveOneExtent}
use Rattle.certified_runs.proofs.Ends.{HasMade}
use Rattle.certified_runs.proofs.certifying.certify.Given as goal

abbrev pub invariant-loop-run : goal.invariant-loop-run
invariant-loop-run g l =
    let bytes = g.M.Memory.bytes in
    record {
      made : HasMade (g.P.Program.program l.program)
          l.fn.run.steps_left (known_of (state_of l.fn.run.hart (bytes l.fn.run.memory)) l.fn.known.registers
          (bytes l.fn.known.marks) l.fn.known.shifts)
          l.run.steps_left (known_of (state_of l.run.hart (bytes l.run.memory)) l.known.registers
          (bytes l.known.marks) l.known.shifts)
          l.entries;
      extent : HaveOneExtent (bytes l.known.marks) (bytes l.run.memory);
      few : l.entries + 2 * l.run.steps_left ≤ 2 * l.fn.run.steps_left;
    }

abbrev pub decreases-loop-run : goal.decreases-loop-run
decreases-loop-run g l = l.run.steps_left
