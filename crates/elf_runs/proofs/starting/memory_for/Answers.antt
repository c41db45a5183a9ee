use Rattle.std.proofs.Common.{◌≡◌, ◌≤◌, ◌∙◌, ◌++◌, ◌∷◌, ◌*◌, List, [], None, ap, ap₂, length, length-drop, map}
use Rattle.std.specs.List.{fold}
use Rattle.std.proofs.lemmas.List.{length-map, map-append}
use Rattle.elf_memory.specs.Arguments.{pushed, rounded, word_of, words_of}
use Rattle.elf_runs.specs.Below.{Executable}
use Rattle.elf_memory.specs.Memory.{hide_in, loaded, memory_at_start, range_of, RangeState, set_in, stack_range}
use Rattle.elf_runs.specs.Needs.{each_from, first_unmet, needs, secret_needs, stack_needs}
use Rattle.elf_memory.specs.declared.asked.Asked.{Asked}
use Rattle.elf_memory.specs.declared.words.Word.{Word}
use Rattle.elf_runs.proofs.Answering.{secret_first, setting_first, stack_holds, stack_last}
use Rattle.elf_runs.proofs.Meeting.{told_of, told_on}
use Rattle.elf_runs.proofs.starting.memory_for.Goals as goal

-- the memory, from what is loaded over what is secret and what is set to the stack
memory_is : (program : Executable) (asked : Asked) (first hidden set : List RangeState) (stack : RangeState)
    (words : List Word) → first ≡ map loaded program.segments
    → hidden ≡ fold (hide_in program) first asked.secrets.items
    → set ≡ fold (set_in program) hidden asked.settings.items → stack ≡ stack_range asked.stack (pushed words)
    → words ≡ words_of program asked.arguments.items → set ++ stack ∷ [] ≡ memory_at_start program asked
memory_is program asked first hidden set stack words segments secrets settings last arguments =
    ap₂ (λ front behind. front ++ behind ∷ [])
    (settings
    ∙ ap (λ ranges. fold (set_in program) ranges asked.settings.items)
    (secrets ∙ ap (λ ranges. fold (hide_in program) ranges asked.secrets.items) segments))
    (last ∙ ap (λ given. stack_range asked.stack (pushed given)) arguments)

-- the stack has room for the words behind the eighth, and is not too large
room_is : (program : Executable) (asked : Asked) (words last : List Word)
    → first_unmet (stack_needs program asked) ≡ None → words ≡ words_of program asked.arguments.items
    → last ≡ pushed words → rounded (4 * length last) ≤ asked.stack
room_is program asked words last met are behind =
    rw (
      ap length (behind ∙ ap pushed are),
      length-drop 8 (words_of program asked.arguments.items),
      length-map asked.arguments.items (word_of program),
    ) (stack_holds program asked met).1

pub returns-in_err-hide_secrets-clause-fault : goal.returns-in_err-hide_secrets-clause-fault
returns-in_err-hide_secrets-clause-fault c =
    let program = c.args.program.now in
    let asked = c.args.asked.now in
    told_of c.from_residual-in_err-hide_secrets.result c.in_err-hide_secrets.field-0.0
    (each_from (secret_needs program) 0 asked.secrets.items) (needs program asked)
    c.from_residual-in_err-hide_secrets.ensures.1 (rw c.deref.ensures.value at c.in_err-hide_secrets.ensures.fault)
    (λ unmet. secret_first program asked unmet c.requires.function
    c.requires.arguments)

pub returns-in_err-set_objects-clause-fault : goal.returns-in_err-set_objects-clause-fault
returns-in_err-set_objects-clause-fault c =
    let program = c.args.program.now in
    let asked = c.args.asked.now in
    let unmet = c.in_err-set_objects.field-0.0 in
    told_on c.from_residual-in_err-set_objects.result unmet (needs program asked)
    c.from_residual-in_err-set_objects.ensures.1
    (setting_first program asked unmet c.requires.function
    c.requires.arguments
    (rw c.deref.ensures.value at c.in_ok-hide_secrets.ensures.met)
    (rw c.deref-2.ensures.value at c.in_err-set_objects.ensures.met))

pub returns-in_err-check_stack-clause-fault : goal.returns-in_err-check_stack-clause-fault
returns-in_err-check_stack-clause-fault c =
    let program = c.args.program.now in
    let asked = c.args.asked.now in
    let unmet = c.in_err-check_stack.field-0.0 in
    told_on c.from_residual-in_err-check_stack.result unmet (needs program asked)
    c.from_residual-in_err-check_stack.ensures.1
    (stack_last program asked c.requires.function
    c.requires.arguments
    (rw c.deref.ensures.value at c.in_ok-hide_secrets.ensures.met)
    (rw c.deref-2.ensures.value at c.in_ok-set_objects.ensures.met)
    ∙ c.in_err-check_stack.ensures)

pub stack_range-requires-clause-size : goal.stack_range-requires-clause-size
stack_range-requires-clause-size c =
    (stack_holds c.args.program.now c.args.asked.now c.in_ok-check_stack.ensures).0

pub stack_range-requires-clause-room : goal.stack_range-requires-clause-room
stack_range-requires-clause-room c =
    room_is c.args.program.now c.args.asked.now c.args.words.now c.pushed.result.now c.in_ok-check_stack.ensures
    c.requires.words c.pushed.ensures

pub returns-clause-met : goal.returns-clause-met
returns-clause-met c =
    stack_last c.args.program.now c.args.asked.now c.requires.function
    c.requires.arguments
    (rw c.deref.ensures.value at c.in_ok-hide_secrets.ensures.met)
    (rw c.deref-2.ensures.value at c.in_ok-set_objects.ensures.met)
    ∙ c.in_ok-check_stack.ensures

pub returns-clause-memory : goal.returns-clause-memory
returns-clause-memory c =
    let program = c.args.program.now in
    let asked = c.args.asked.now in
    let ranges = c.set_objects.new.ranges.items in
    let range = c.in_ok-stack_range.field-0 in
    ap (map range_of) c.in_ok-push.ensures.items ∙ map-append range_of ranges (range ∷ [])
    ∙ memory_is program asked (map range_of c.in_ok-ranges.ranges.items) (map range_of c.hide_secrets.new.ranges.items)
    (map range_of ranges) (range_of range) c.args.words.now
    (c.in_ok-ranges.ensures ∙ ap (map loaded) c.segments.ensures.segments)
    (rw c.deref.ensures.value at c.in_ok-hide_secrets.ensures.memory)
    (rw c.deref-2.ensures.value at c.in_ok-set_objects.ensures.memory)
    (c.in_ok-stack_range.ensures ∙ ap (stack_range asked.stack) c.pushed.ensures) c.requires.words
