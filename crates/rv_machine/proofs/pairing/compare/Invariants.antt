-- What both runs have shown so far is one list, which has so many entries.
use Rattle.std.proofs.Common.{◌+◌, ◌*◌, ◌≤◌}
use Rattle.rv_machine.specs.Harts.{state_of}
use Rattle.rv_machine.specs.Regions.{code_of}
use Rattle.rv_machine.proofs.Progressing.{InStep}
use Rattle.rv_machine.proofs.pairing.compare.Given as goal

abbrev pub invariant-steps : goal.invariant-steps
invariant-steps g l =
    let bytes = g.M.Memory.bytes in
    record {
      steps : InStep (code_of l.code)
          l.fn.one.steps_left (state_of l.fn.one.hart (bytes l.fn.one.memory)) l.one.steps_left
          (state_of l.one.hart (bytes l.one.memory))
          l.fn.other.steps_left (state_of l.fn.other.hart (bytes l.fn.other.memory)) l.other.steps_left
          (state_of l.other.hart (bytes l.other.memory))
          l.place;
      few : l.place + 2 * l.one.steps_left ≤ 2 * l.fn.one.steps_left;
    }

abbrev pub decreases-steps : goal.decreases-steps
decreases-steps g l = l.one.steps_left
