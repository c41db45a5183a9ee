use Rattle.std.proofs.Common.{◌≡◌, ◌∙◌, List, ap, arith, length, refl, subst, sym}
use Rattle.elf_runs.specs.Below.{entries_of, Observation, state_of}
use Rattle.elf_runs.proofs.Below.{goes_on≢stops}
use Rattle.elf_runs.proofs.Calling.{at_once, ended, LeadOn, no_further, one_further, stands, went}
use Rattle.elf_runs.proofs.calls.calls_behind_entries.Goals as goal

pub returns-in_default : goal.returns-in_default
returns-in_default g c =
    let program = g.P.Program.program c.args.program.now in
    let s = state_of c.steps.hart (g.M.Memory.bytes c.steps.memory) in
    let calls = c.steps.calls.items in
    let none = rw c.pc-pc.ensures at (c.in_default.ensures.none refl) in
    c.steps.invariant calls
    (no_further program s calls calls c.steps.left (λ o t it. let at = stands it in none at.0 at.1) c.steps-test.true)

pub returns-then-is_some : goal.returns-then-is_some
returns-then-is_some g c =
    let program = g.P.Program.program c.args.program.now in
    let s = state_of c.steps.hart (g.M.Memory.bytes c.steps.memory) in
    let calls = c.note.new.calls.items in
    let step = c.step_unrecorded-seen.ensures.step in
    let end = ended step.1 step.2.1 (sym c.is_some.ensures ∙ c.if-is_some.true) c.step_unrecorded-seen.ensures.calm in
    c.steps.invariant calls
    (no_further program s c.steps.calls.items calls c.steps.left (λ o t it. goes_on≢stops it end.2) c.steps-test.true)

pub steps-preserved : goal.steps-preserved
steps-preserved g c = λ last lead.
    let program = g.P.Program.program c.args.program.now in
    let s = state_of c.steps.hart (g.M.Memory.bytes c.steps.memory) in
    let t = state_of c.step_unrecorded-seen.new.hart (g.M.Memory.bytes c.step_unrecorded-seen.new.memory) in
    let step = c.step_unrecorded-seen.ensures.step in
    let on = went step.1 step.2.1 (sym c.is_some.ensures ∙ c.if-is_some.false) in
    let at = rw c.pc-pc.ensures at c.in-Some.ensures.there in
    let shown = step.2.2 ∙ on.2 in
    let many = c.entries_in.ensures ∙ ap (λ (list : List Observation). length (entries_of list)) shown in
    c.steps.invariant last
    (one_further program s t on.0 c.in-Some.instr.now c.steps.calls.items c.note.new.calls.items last c.steps.left
    c.saturating_sub-left.result at on.1 c.steps-test.true (rw c.pc-pc.ensures at c.note.ensures)
    (omega (arith, many, c.saturating_sub-left.ensures)) lead)

pub steps-smaller : goal.steps-smaller
steps-smaller g c =
    let step = c.step_unrecorded-seen.ensures.step in
    let on = went step.1 step.2.1 (sym c.is_some.ensures ∙ c.if-is_some.false) in
    let shown = step.2.2 ∙ on.2 in
    let many = c.entries_in.ensures ∙ ap (λ (list : List Observation). length (entries_of list)) shown in
    omega (arith, many, c.saturating_sub-left.ensures, c.steps-test.true)

pub returns : goal.returns
returns g c =
    let program = g.P.Program.program c.args.program.now in
    let s = state_of c.steps.hart (g.M.Memory.bytes c.steps.memory) in
    let calls = c.steps.calls.items in
    let none : 0 ≡ c.steps.left = omega (arith, c.steps-test.false) in
    c.steps.invariant calls (subst (λ left. LeadOn program s calls left calls) none (at_once program s calls))
