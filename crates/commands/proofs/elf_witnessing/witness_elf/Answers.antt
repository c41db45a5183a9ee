use Rattle.std.proofs.Common.{ℕ, List, Err, refl, sym, ap, ◌∙◌, subst}
use Rattle.elf.specs.Reading.{IsUnlessMemory, reading}
use Rattle.commands.specs.Answered.{not_answered}
use Rattle.commands.specs.Below.{Executable, RunOptions}
use Rattle.commands.specs.FunctionRunRefusals.{misspelled, no_executable, out_of_memory, unmet}
use Rattle.commands.specs.FunctionWitnesses.{SaysWitnessOf}
use Rattle.commands.proofs.AnswerLemmas.{finds_answer, finds_converted, finds_fault, read_fault, read_memory}
use Rattle.commands.proofs.ExecutableLemmas.{executable_held, executable_refused, start_fault, words_read}
use Rattle.commands.proofs.elf_witnessing.witness_elf.Goals as goal

pub returns-in_err-bytes-clause-finds : goal.returns-in_err-bytes-clause-finds
returns-in_err-bytes-clause-finds g c = λ tells.
    finds_fault _ _ c.from_residual.ensures.1 (no_executable (c.in_err-bytes.ensures.refused tells), refl)

pub returns-in_err-bytes-clause-read : goal.returns-in_err-bytes-clause-read
returns-in_err-bytes-clause-read g c = read_fault _ _ _ _ c.from_residual.ensures.1 c.in_err-bytes.ensures.counted

pub returns-in_err-program-clause-finds : goal.returns-in_err-program-clause-finds
returns-in_err-program-clause-finds g c = λ tells.
    let why = c.in_err-program.field-0.0 in
    finds_fault _ _ c.from_residual-in_err-program.ensures.1 (
      no_executable (executable_refused _ _ _ why (c.in_ok-bytes.ensures.said tells)
          (subst (λ (bytes : List ℕ). IsUnlessMemory {A = Executable} (Err why) (reading bytes))
          c.as_slice.ensures.value c.in_err-program.ensures)),
      refl,
    )

pub returns-in_err-program-clause-read : goal.returns-in_err-program-clause-read
returns-in_err-program-clause-read g c =
    read_fault _ _ _ _ c.from_residual-in_err-program.ensures.1 c.in_ok-bytes.ensures.calm

pub returns-in_err-asked-clause-finds : goal.returns-in_err-asked-clause-finds
returns-in_err-asked-clause-finds g c = λ tells.
    let held = executable_held _ _ _ c.in_ok-program.program (c.in_ok-bytes.ensures.said tells)
    (ap reading (sym c.as_slice.ensures.value) ∙ c.in_ok-program.ensures) in
    finds_fault _ _ c.from_residual-in_err-asked.ensures.1 (misspelled _ held c.in_err-asked.ensures.refused, refl)

pub returns-in_err-asked-clause-read : goal.returns-in_err-asked-clause-read
returns-in_err-asked-clause-read g c =
    read_fault _ _ _ _ c.from_residual-in_err-asked.ensures.1
    (words_read _ _ _ _ _ c.in_err-asked.ensures.refused c.in_ok-bytes.ensures.calm)

pub returns-in-Ok-clause-finds : goal.returns-in-Ok-clause-finds
returns-in-Ok-clause-finds g c = λ tells.
    let program = c.in_ok-program.program in
    let asked = c.in_ok-asked.asked in
    finds_answer c.of_bytes.result c.of_bytes.ensures.text c.of_bytes.ensures.status (
      record {
        program = program;
        asked = asked;
        held = executable_held _ _ _ c.in_ok-program.program (c.in_ok-bytes.ensures.said tells)
            (ap reading (sym c.as_slice.ensures.value) ∙ c.in_ok-program.ensures);
        as_said = c.in_ok-asked.ensures.asked;
        said = subst (λ (run : RunOptions). SaysWitnessOf program asked run c.args.tries c.in-Ok.text.items)
            c.observed_run.ensures c.in-Ok.ensures.says;
      },
      refl,
    ) refl

pub returns-in-Ok-clause-read : goal.returns-in-Ok-clause-read
returns-in-Ok-clause-read g c = c.in_ok-bytes.ensures.calm

pub returns-in_err-fault_of_start-in-Err-clause-finds : goal.returns-in_err-fault_of_start-in-Err-clause-finds
returns-in_err-fault_of_start-in-Err-clause-finds g c = λ tells.
    let held = executable_held _ _ _ c.in_ok-program.program (c.in_ok-bytes.ensures.said tells)
    (ap reading (sym c.as_slice.ensures.value) ∙ c.in_ok-program.ensures) in
    finds_converted _ c.from_residual-in_err-fault_of_start-in-Err.ensures.1
    (λ e memory. (unmet _ _ held c.in_ok-asked.ensures.asked (out_of_memory memory), refl))

pub returns-in_err-fault_of_start-in-Err-clause-read : goal.returns-in_err-fault_of_start-in-Err-clause-read
returns-in_err-fault_of_start-in-Err-clause-read g c =
    read_memory _ c.from_residual-in_err-fault_of_start-in-Err.ensures.1 c.in_ok-bytes.ensures.calm

pub returns-clause-finds : goal.returns-clause-finds
returns-clause-finds g c = λ tells.
    let held = executable_held _ _ _ c.in_ok-program.program (c.in_ok-bytes.ensures.said tells)
    (ap reading (sym c.as_slice.ensures.value) ∙ c.in_ok-program.ensures) in
    not_answered (
      unmet _ _ held c.in_ok-asked.ensures.asked
          (c.in_ok-fault_of_start-in-Err.ensures _ (start_fault _ _ c.in-Err.ensures.refused)),
      refl,
    )

pub returns-clause-read : goal.returns-clause-read
returns-clause-read g c =
    words_read _ _ _ _ _
    (c.in_ok-fault_of_start-in-Err.ensures _ (start_fault _ _ c.in-Err.ensures.refused))
    c.in_ok-bytes.ensures.calm
