-- Both runs have shown one list so far, which has so many entries.
use Rattle.std.proofs.Common.{◌≡◌, ◌+◌, ◌*◌, ◌<◌, ◌≤◌, List, length}
use Rattle.elf_witnesses.specs.Below.{entries_of, Observation, state_of}
use Rattle.elf_witnesses.specs.Compared.{IsLastStep}
use Rattle.elf_witnesses.proofs.InStep.{Continues}
use Rattle.elf_witnesses.proofs.comparing.compare.Given as goal

abbrev pub invariant-steps : goal.invariant-steps
invariant-steps g l =
    let bytes = g.M.Memory.bytes in
    record {
      shown : (seen : List Observation) × (length (entries_of seen) ≡ l.place)
          × Continues (g.P.Program.program l.program)
          l.fn.one.steps_left (state_of l.fn.one.hart (bytes l.fn.one.memory)) seen l.one.steps_left
          (state_of l.one.hart (bytes l.one.memory))
          × Continues (g.P.Program.program l.other_program)
          l.fn.other.steps_left (state_of l.fn.other.hart (bytes l.fn.other.memory)) seen l.other.steps_left
          (state_of l.other.hart (bytes l.other.memory))
          × (0 < l.place → IsLastStep seen l.place l.last);
      few : l.place + 2 * l.one.steps_left ≤ 2 * l.fn.one.steps_left;
    }

abbrev pub decreases-steps : goal.decreases-steps
decreases-steps g l = l.one.steps_left
