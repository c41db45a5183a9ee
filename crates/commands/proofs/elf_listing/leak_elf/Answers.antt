use Rattle.std.proofs.Common.{ℕ, List, Result, Err, refl, sym, ap, ◌∙◌, subst}
use Rattle.elf.specs.Reading.{IsUnlessMemory, reading}
use Rattle.commands.specs.Below.{collected, Executable, FunctionLeakFault, FunctionStop}
use Rattle.commands.specs.Contents.{Store}
use Rattle.commands.specs.Failures.{of_files, of_output}
use Rattle.commands.specs.FunctionRunRefusals.{misspelled, no_executable, out_of_memory, unmet}
use Rattle.commands.proofs.AnswerLemmas.{does_fault, ends_fault}
use Rattle.commands.proofs.Counting.{counted_by, kept_by, memory_calm}
use Rattle.commands.proofs.ExecutableLemmas.{executable_held, executable_refused, start_fault, words_read}
use Rattle.commands.proofs.FunctionLeakLemmas.{cuts_function, does_refused, ends_refused, fails_function, lists_function}
use Rattle.commands.proofs.FunctionLeakLemmas.{told_of}
use Rattle.commands.proofs.elf_listing.leak_elf.Goals as goal

pub returns-in_err-bytes-clause-does : goal.returns-in_err-bytes-clause-does
returns-in_err-bytes-clause-does g c = λ tells both.
    let read = c.in_err-bytes.ensures.counted in
    does_fault _ _ _ refl _ _ c.from_residual.ensures.1
    (no_executable (c.in_err-bytes.ensures.refused tells), kept_by _ _ _ read) (counted_by _ _ _ read)

pub returns-in_err-bytes-clause-ended : goal.returns-in_err-bytes-clause-ended
returns-in_err-bytes-clause-ended g c =
    ends_fault _ _ _ _ _ c.from_residual.ensures.1 (counted_by _ _ _ c.in_err-bytes.ensures.counted)

pub returns-in_err-program-clause-does : goal.returns-in_err-program-clause-does
returns-in_err-program-clause-does g c = λ tells both.
    let why = c.in_err-program.field-0.0 in
    let calm = c.in_ok-bytes.ensures.calm in
    does_fault _ _ _ refl _ _ c.from_residual-in_err-program.ensures.1 (
      no_executable (executable_refused _ _ _ why (c.in_ok-bytes.ensures.said tells)
          (subst (λ (bytes : List ℕ). IsUnlessMemory {A = Executable} (Err why) (reading bytes))
          c.as_slice.ensures.value c.in_err-program.ensures)),
      ap (λ (s : Store). s.contents) calm,
    ) (ap (λ (s : Store). s.failures) calm)

pub returns-in_err-program-clause-ended : goal.returns-in_err-program-clause-ended
returns-in_err-program-clause-ended g c =
    ends_fault _ _ _ _ _ c.from_residual-in_err-program.ensures.1
    (ap (λ (s : Store). s.failures) c.in_ok-bytes.ensures.calm)

pub returns-in_err-asked-clause-does : goal.returns-in_err-asked-clause-does
returns-in_err-asked-clause-does g c = λ tells both.
    let held = executable_held _ _ _ c.in_ok-program.program (c.in_ok-bytes.ensures.said tells)
    (ap reading (sym c.as_slice.ensures.value) ∙ c.in_ok-program.ensures) in
    let read = words_read _ _ _ _ _ c.in_err-asked.ensures.refused c.in_ok-bytes.ensures.calm in
    does_fault _ _ _ refl _ _ c.from_residual-in_err-asked.ensures.1
    (misspelled _ held c.in_err-asked.ensures.refused, kept_by _ _ _ read) (counted_by _ _ _ read)

pub returns-in_err-asked-clause-ended : goal.returns-in_err-asked-clause-ended
returns-in_err-asked-clause-ended g c =
    ends_fault _ _ _ _ _ c.from_residual-in_err-asked.ensures.1
    (counted_by _ _ _ (words_read _ _ _ _ _ c.in_err-asked.ensures.refused c.in_ok-bytes.ensures.calm))

pub returns-in-Ok-clause-does : goal.returns-in-Ok-clause-does
returns-in-Ok-clause-does g c = λ tells both.
    let held = executable_held _ _ _ c.in_ok-program.program (c.in_ok-bytes.ensures.said tells)
    (ap reading (sym c.as_slice.ensures.value) ∙ c.in_ok-program.ensures) in
    lists_function c.args.path c.args.words.now c.args.options _ held c.in_ok-asked.ensures.asked
    c.observed_run.ensures c.in-Ok.how c.status_of_stop.result c.status_of_stop.ensures.exact
    (c.in-Ok.ensures.written both) (c.in-Ok.ensures.calm (λ is. cc)) c.in_ok-bytes.ensures.calm

pub returns-in-Ok-clause-ended : goal.returns-in-Ok-clause-ended
returns-in-Ok-clause-ended g c = (
  c.status_of_stop.ensures.known,
  ap (λ (s : Store). s.failures) c.in_ok-bytes.ensures.calm,
  c.in-Ok.ensures.calm (λ is. cc),
)

-- the run did not begin

pub returns-in_err-fault_of_start-in-Err-Start-clause-does : goal.returns-in_err-fault_of_start-in-Err-Start-clause-does
returns-in_err-fault_of_start-in-Err-Start-clause-does g c = λ tells both.
    let held = executable_held _ _ _ c.in_ok-program.program (c.in_ok-bytes.ensures.said tells)
    (ap reading (sym c.as_slice.ensures.value) ∙ c.in_ok-program.ensures) in
    let calm = c.in_ok-bytes.ensures.calm in
    does_refused _ c.from_residual-in_err-fault_of_start-in-Err-Start.ensures.1
    (λ e memory. fails_function c.args.path c.args.words.now c.args.options _ _ _ _ e
    (unmet _ _ held c.in_ok-asked.ensures.asked (out_of_memory memory)) (memory_calm e memory calm)
    (ap (λ o. collected (g.O.Sink.taken o) (g.O.Sink.failures o)) (c.in-Err-Start.ensures.untouched (λ is. cc))))

pub returns-in_err-fault_of_start-in-Err-Start-clause-ended : goal.returns-in_err-fault_of_start-in-Err-Start-clause-ended
returns-in_err-fault_of_start-in-Err-Start-clause-ended g c =
    ends_refused _ c.from_residual-in_err-fault_of_start-in-Err-Start.ensures.1
    (λ e memory. of_files (counted_by _ _ _ (memory_calm e memory c.in_ok-bytes.ensures.calm))
    (c.in-Err-Start.ensures.calm (λ is. cc)))

pub returns-in-Err-Start-clause-does : goal.returns-in-Err-Start-clause-does
returns-in-Err-Start-clause-does g c = λ tells both.
    let held = executable_held _ _ _ c.in_ok-program.program (c.in_ok-bytes.ensures.said tells)
    (ap reading (sym c.as_slice.ensures.value) ∙ c.in_ok-program.ensures) in
    let gives : FunctionLeakFault → Result FunctionStop FunctionLeakFault = λ why. Err why in
    let told = told_of _ _ _ _ _ c.in-Err-Start.ensures.answer (ap gives c.in-Err-Start.field-0-is) in
    let why = c.in_ok-fault_of_start-in-Err-Start.ensures _ (start_fault _ _ told) in
    fails_function c.args.path c.args.words.now c.args.options _ _ _ _ _
    (unmet _ _ held c.in_ok-asked.ensures.asked why) (words_read _ _ _ _ _ why c.in_ok-bytes.ensures.calm)
    (ap (λ o. collected (g.O.Sink.taken o) (g.O.Sink.failures o)) (c.in-Err-Start.ensures.untouched (λ is. cc)))

pub returns-in-Err-Start-clause-ended : goal.returns-in-Err-Start-clause-ended
returns-in-Err-Start-clause-ended g c =
    let gives : FunctionLeakFault → Result FunctionStop FunctionLeakFault = λ why. Err why in
    let told = told_of _ _ _ _ _ c.in-Err-Start.ensures.answer (ap gives c.in-Err-Start.field-0-is) in
    let why = c.in_ok-fault_of_start-in-Err-Start.ensures _ (start_fault _ _ told) in
    of_files (counted_by _ _ _ (words_read _ _ _ _ _ why c.in_ok-bytes.ensures.calm))
    (c.in-Err-Start.ensures.calm (λ is. cc))

-- standard output failed

pub returns-clause-does : goal.returns-clause-does
returns-clause-does g c = λ tells both.
    let gives : FunctionLeakFault → Result FunctionStop FunctionLeakFault = λ why. Err why in
    let is = ap gives c.in-Err-Write.field-0-is in
    let held = executable_held _ _ _ c.in_ok-program.program (c.in_ok-bytes.ensures.said tells)
    (ap reading (sym c.as_slice.ensures.value) ∙ c.in_ok-program.ensures) in
    cuts_function c.args.path c.args.words.now c.args.options _ held c.in_ok-asked.ensures.asked
    c.observed_run.ensures _ (_, refl, refl) (c.in-Err-Write.ensures.beginning both is) (c.in-Err-Write.ensures.counts is)
    c.in_ok-bytes.ensures.calm

pub returns-clause-ended : goal.returns-clause-ended
returns-clause-ended g c =
    let gives : FunctionLeakFault → Result FunctionStop FunctionLeakFault = λ why. Err why in
    let is = ap gives c.in-Err-Write.field-0-is in
    of_output (_, refl, refl) (ap (λ (s : Store). s.failures) c.in_ok-bytes.ensures.calm)
    (c.in-Err-Write.ensures.counts is)
