use Rattle.std.proofs.Common.{◌≡◌, Err, rules, subst}
use Rattle.elf_reports.specs.Below.{collected, GoesOnKnown, HasLines, known_at_start, known_of, KnownState}
use Rattle.elf_reports.specs.Below.{LinesAreTold, MachineProgram, paged_bytes, program_of, state_of}
use Rattle.elf_reports.proofs.Below.{answered, refused_so}
use Rattle.elf_reports.proofs.telling.certify_function_telling.Goals as goal

pub returns-in_err-loaded-clause-certified : goal.returns-in_err-loaded-clause-certified
returns-in_err-loaded-clause-certified g c =
    let fault = c.in_err-loaded.field-0.0 in
    let is : c.from_residual.result ≡ Err fault = search rules in
    refused_so c.args.program.now c.args.asked.now c.args.options fault c.from_residual.result is
    c.in_err-loaded.ensures.fault

pub returns-clause-certified : goal.returns-clause-certified
returns-clause-certified g c =
    let loaded = c.in_ok-loaded.loaded in
    let run = c.certify_in_pieces-end.new.run in
    answered c.args.program.now c.args.asked.now c.args.options (program_of loaded.program)
    (known_of (state_of loaded.run.hart (paged_bytes loaded.run.memory)) loaded.known.registers
    (paged_bytes loaded.known.marks) loaded.known.shifts)
    loaded.run.steps_left run.steps_left (state_of run.hart (paged_bytes run.memory)) c.certify_in_pieces-end.result
    c.certificate_at.result c.in_ok-loaded.ensures.program c.in_ok-loaded.ensures.known c.in_ok-loaded.ensures.steps
    c.in_ok-loaded.ensures.met c.certify_in_pieces-end.ensures.certified
    c.certify_in_pieces-end.ensures.spent c.certify_in_pieces-end.ensures.stopped
    (rw c.pc.ensures at c.certificate_at.ensures)

pub returns-clause-told : goal.returns-clause-told
returns-clause-told g c = λ tells.
    let loaded = c.in_ok-loaded.loaded in
    let before = collected (g.E.Sink.taken c.args.err.now) (g.E.Sink.failures c.args.err.now) in
    let err = c.certify_in_pieces-end.new.err in
    let after = collected (g.E.Sink.taken err) (g.E.Sink.failures err) in
    let known = known_at_start c.args.program.now c.args.asked.now c.args.options.shifts in
    subst (λ (p : MachineProgram). LinesAreTold HasLines (GoesOnKnown p c.args.options.steps known) before after)
    c.in_ok-loaded.ensures.program
    (subst (λ (k : KnownState). LinesAreTold HasLines (GoesOnKnown (program_of loaded.program) c.args.options.steps k)
    before after) c.in_ok-loaded.ensures.known
    (rw c.in_ok-loaded.ensures.steps at (c.certify_in_pieces-end.ensures.told tells)))
