-- Step by step, up to the one that may differ.
use Rattle.std.proofs.Common.{ℕ, refl, sym, ap, ◌∙◌, arith}
use Rattle.certified_runs.proofs.KnownSteps.{none_fetched}
use Rattle.run_reports.specs.Below.{known_of, state_of}
use Rattle.run_reports.specs.origins.Below.{pc_of, register_masks}
use Rattle.run_reports.specs.origins.Origins.{origins_in, register_written, with_origin}
use Rattle.run_reports.proofs.origins_lemmas.Made.{comes_to, few_traced, none_traced, one_more_traced, same_at_last}
use Rattle.run_reports.proofs.origins_lemmas.Made.{same_by, same_here}
use Rattle.run_reports.proofs.origins.tracing.trace.Goals as goal

pub loop-step-init : goal.loop-step-init
loop-step-init g c = record {
  traced = none_traced _ _ _ c.new-origins.ensures;
  extent = c.requires.extent;
}

pub returns-in_default : goal.returns-in_default
returns-in_default g c = record {
  found = tt;
  none = λ is.
      same_here c.loop-step.invariant.traced c.args.run.now.steps_left (omega (arith, c.loop-step-test.true))
      (none_fetched (g.P.Program.program c.args.program.now) (pc_of c.loop-step.run.hart) c.fetch.result
      (rw c.pc.ensures at c.fetch.ensures) c.in_default.not-Instruction);
}

pub overflow_add-entries : goal.overflow_add-entries
overflow_add-entries g c =
    let step = c.in-LeadsOn.ensures.stepped in
    omega (
      arith,
      few_traced c.loop-step.invariant.traced c.in-LeadsOn.more step.1 step.2,
      c.loop-step-test.true,
      c.requires.few,
    )

pub returns-in-Ends-clause-none : goal.returns-in-Ends-clause-none
returns-in-Ends-clause-none g c = λ is.
    same_by c.loop-step.invariant.traced c.args.run.now.steps_left (omega (arith, c.loop-step-test.true))
    c.in-Ends.ensures.stepped.2

pub returns-in-Depends-clause-found : goal.returns-in-Depends-clause-found
returns-in-Depends-clause-found g c =
    let there = rw c.pc.ensures at c.in-Instruction.ensures in
    comes_to c.loop-step.invariant.traced c.in-Instruction.instr.now (register_masks c.loop-step.known.registers)
    (c.in-Instruction.field-1.length, there.stands) c.in-Depends.ensures.stepped refl

pub loop-step-preserved : goal.loop-step-preserved
loop-step-preserved g c =
    let bytes = g.M.Memory.bytes in
    let i = c.in-Instruction.instr.now in
    let origins = origins_in c.loop-step.origins.kept in
    let step = c.in-LeadsOn.ensures.stepped in
    let there = rw c.pc.ensures at c.in-Instruction.ensures in
    record {
      traced = one_more_traced c.loop-step.invariant.traced i _ c.in-LeadsOn.more
          (c.in-Instruction.field-1.length, there.stands) step.1 step.2
          (c.note.ensures ∙ ap (with_origin origins (register_written i))
          (c.origin_of-origin.ensures (bytes c.loop-step.run.memory) (bytes c.loop-step.known.marks)
          c.loop-step.known.shifts));
      extent = c.known_step.ensures.extent;
    }

pub returns-clause-none : goal.returns-clause-none
returns-clause-none g c = λ is.
    same_at_last c.loop-step.invariant.traced c.args.run.now.steps_left (omega arith)
