use Rattle.std.proofs.Common.{◌≡◌, Err, length, rules}
use Rattle.elf_runs.specs.Below.{entries_of, known_of, paged_bytes, program_of, state_of}
use Rattle.elf_runs.proofs.Ends.{answered, refused_so}
use Rattle.elf_runs.proofs.certifying.certify_function.Goals as goal

pub returns-in_err-loaded : goal.returns-in_err-loaded
returns-in_err-loaded c =
    let fault = c.in_err-loaded.field-0.0 in
    let is : c.from_residual.result ≡ Err fault = search rules in
    refused_so c.args.program.now c.args.asked.now c.args.options fault c.from_residual.result is
    c.in_err-loaded.ensures.fault

pub returns : goal.returns
returns c =
    let loaded = c.in_ok-loaded.loaded in
    let run = c.certify-end.new.run in
    answered c.args.program.now c.args.asked.now c.args.options (program_of loaded.program)
    (known_of (state_of loaded.run.hart (paged_bytes loaded.run.memory)) loaded.known.registers
    (paged_bytes loaded.known.marks) loaded.known.shifts)
    loaded.run.steps_left run.steps_left (state_of run.hart (paged_bytes run.memory)) c.certify-end.result
    c.certificate_at.result c.in_ok-loaded.ensures.program c.in_ok-loaded.ensures.known c.in_ok-loaded.ensures.steps
    c.in_ok-loaded.ensures.met c.certify-end.ensures.certified
    (λ none. let over = c.certify-end.ensures.spent none in (length (entries_of over.0), over.2)) c.certify-end.ensures.stopped
    (rw c.pc.ensures at c.certificate_at.ensures)
