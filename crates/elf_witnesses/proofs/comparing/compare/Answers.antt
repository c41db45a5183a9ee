-- What both runs have shown is one list, up to the first difference.
use Rattle.std.proofs.Common.{◌≡◌, ◌≢◌, ◌+◌, ◌⊎◌, ◌++◌, ◌∷◌, [], is_some, inl, inr, refl, sym, ap, arith}
use Rattle.elf_witnesses.proofs.Below.{count-few, entry_count-append, one-ends, other-ends}
use Rattle.elf_witnesses.specs.Below.{state_of}
use Rattle.elf_witnesses.specs.declared.comparing.Reached.{Reached}
use Rattle.elf_witnesses.proofs.InStep.{begun, continued, differ_after, last_before, last_here, last_so_far, same_after}
use Rattle.elf_witnesses.proofs.InStep.{shows_nothing, shows_some}
use Rattle.elf_witnesses.proofs.comparing.compare.Goals.{else-entry-eq0, then-entry-eq0}
use Rattle.elf_witnesses.proofs.comparing.compare.Goals as goal

pub steps-init : goal.steps-init
steps-init g c = record {
  shown = ([], refl, begun, begun, λ none. absurd (omega arith));
  few = omega arith;
}

pub returns-in_default-next_step : goal.returns-in_default-next_step
returns-in_default-next_step g c =
    let so_far = c.steps.invariant.shown in
    let one = rw c.in-Some.is at c.next_step.ensures.shown in
    let other = rw c.in_default-next_step.is at c.next_step-in-steps.ensures.shown in
    let last = c.next_step-in-steps.ensures.ended c.in_default-next_step.is in
    let rest = shows_some (g.P.Program.program c.args.program.now) c.next_step.new.run.steps_left
    (state_of c.next_step.new.run.hart (g.M.Memory.bytes c.next_step.new.run.memory)) in
    differ_after so_far.0 (c.in-Some.seen ∷ rest.0) [] 0 so_far.2 so_far.3 (omega (arith, so_far.1))
    (one rest.0 rest.1) (other [] (shows_nothing _ _ _ last)) (other-ends c.in-Some.seen rest.0)
    (λ some. last_so_far (c.in-Some.seen ∷ rest.0) (so_far.4 some))

pub returns-in-Some-first_difference : goal.returns-in-Some-first_difference
returns-in-Some-first_difference g c =
    let so_far = c.steps.invariant.shown in
    let one = rw c.in-Some.is at c.next_step.ensures.shown in
    let other = rw c.in-Some-next_step-2.is at c.next_step-in-steps.ensures.shown in
    let rest = shows_some (g.P.Program.program c.args.program.now) c.next_step.new.run.steps_left
    (state_of c.next_step.new.run.hart (g.M.Memory.bytes c.next_step.new.run.memory)) in
    let rest' = shows_some (g.P.Program.program c.args.other_program.now) c.next_step-in-steps.new.run.steps_left
    (state_of c.next_step-in-steps.new.run.hart (g.M.Memory.bytes c.next_step-in-steps.new.run.memory)) in
    let entry = c.in-Some-first_difference.entry in
    let here : Reached = record { entries = c.steps.place; pc = c.in-Some.seen.pc } in
    let which : ((entry ≡ 0) × (c.if-entry-eq0.step ≡ c.steps.last)) ⊎ ((entry ≢ 0) × (c.if-entry-eq0.step ≡ here)) =
    elim c.if-entry-eq0.branch [
      | then-entry-eq0 w ↦ inl (w.if-entry-eq0.true, w.step-is)
      | else-entry-eq0 w ↦ inr (w.if-entry-eq0.false, w.step-is)
    ] in
    differ_after so_far.0 (c.in-Some.seen ∷ rest.0) (c.in-Some-next_step-2.seen_other ∷ rest'.0) entry so_far.2
    so_far.3 (omega (arith, so_far.1)) (one rest.0 rest.1) (other rest'.0 rest'.1)
    (c.in-Some-first_difference.ensures.differ rest.0 rest'.0)
    (last_before so_far.0 rest.0 c.in-Some.seen c.steps.place entry c.steps.last
    here c.if-entry-eq0.step so_far.1
    c.in-Some-first_difference.ensures.early so_far.4 refl refl which)

pub steps-preserved : goal.steps-preserved
steps-preserved g c =
    let so_far = c.steps.invariant.shown in
    let o = c.in-Some.seen in
    let same = c.in_default-first_difference.ensures.equal refl in
    let one = rw c.in-Some.is at c.next_step.ensures.shown in
    let other = rw (c.in-Some-next_step-2.is, sym same) at c.next_step-in-steps.ensures.shown in
    let many = c.entry_count-place.ensures in
    record {
      shown = (
        so_far.0 ++ o ∷ [],
        omega (arith, entry_count-append so_far.0 (o ∷ []), many, so_far.1),
        continued so_far.2 one,
        continued so_far.3 other,
        λ some. last_here so_far.0 [] o (c.steps.place + c.entry_count-place.result) _ refl (sym so_far.1)
            (omega (arith, so_far.1, many)) (omega (arith, so_far.1, many)),
      );
      few = omega (arith, count-few o, c.next_step.ensures.fewer (ap is_some c.in-Some.is));
    }

pub returns-in-Some-next_step : goal.returns-in-Some-next_step
returns-in-Some-next_step g c =
    let so_far = c.steps.invariant.shown in
    let one = rw c.in_default.is at c.next_step.ensures.shown in
    let other = rw c.in-Some-next_step.is at c.next_step-in_default.ensures.shown in
    let last = c.next_step.ensures.ended c.in_default.is in
    let rest = shows_some (g.P.Program.program c.args.other_program.now) c.next_step-in_default.new.run.steps_left
    (state_of c.next_step-in_default.new.run.hart (g.M.Memory.bytes c.next_step-in_default.new.run.memory)) in
    let o = c.in-Some-next_step.field-0 in
    differ_after so_far.0 [] (o ∷ rest.0) 0 so_far.2 so_far.3 (omega (arith, so_far.1))
    (one [] (shows_nothing _ _ _ last)) (other rest.0 rest.1) (one-ends o rest.0)
    (λ some. last_so_far [] (so_far.4 some))

pub returns-in-None : goal.returns-in-None
returns-in-None g c =
    let so_far = c.steps.invariant.shown in
    let one = rw c.in_default.is at c.next_step.ensures.shown in
    let other = rw c.in-None.is at c.next_step-in_default.ensures.shown in
    let last = c.next_step.ensures.ended c.in_default.is in
    let last' = c.next_step-in_default.ensures.ended c.in-None.is in
    same_after so_far.0 so_far.2 so_far.3 (one [] (shows_nothing _ _ _ last)) (other [] (shows_nothing _ _ _ last'))
