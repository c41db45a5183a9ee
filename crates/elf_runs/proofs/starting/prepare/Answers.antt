use Rattle.std.proofs.Common.{◌≡◌, ◌≤◌, ◌∙◌, ◌^◌, ℕ, List, None, ap, ap₂, arith, codes, length}
use Rattle.std.proofs.lemmas.List.{length-map}
use Rattle.elf_memory.specs.Arguments.{pushed_size, word_of, words_of}
use Rattle.elf_memory.specs.Begin.{global_pointer, register_by, register_of}
use Rattle.elf_runs.specs.Below.{address_named, Executable}
use Rattle.elf_runs.specs.Needs.{argument_needs, each_from, first_unmet, needs, stack_needs}
use Rattle.elf_memory.specs.declared.asked.Asked.{Asked}
use Rattle.elf_memory.specs.declared.words.Word.{Word}
use Rattle.elf_runs.proofs.Answering.{argument_first, function_first, stack_holds}
use Rattle.elf_runs.proofs.Meeting.{told_of, told_on}
use Rattle.elf_runs.proofs.starting.prepare.Goals as goal

-- what the registers hold by the global pointer and the words that are found
register_is : (program : Executable) (asked : Asked) (gp : Word) (words : List Word) (r : ℕ)
    → gp ≡ global_pointer (address_named program (codes "__global_pointer$"))
    → words ≡ words_of program asked.arguments.items → register_by gp words r ≡ register_of program asked r
register_is program asked gp words r pointer arguments = ap₂ (λ at given. register_by at given r) pointer arguments

few_are : (program : Executable) (asked : Asked) (words : List Word)
    → first_unmet (stack_needs program asked) ≡ None → words ≡ words_of program asked.arguments.items
    → pushed_size (length words) ≤ 2 ^ 24
few_are program asked words met are =
    let holds = stack_holds program asked met in
    rw (ap length are, length-map asked.arguments.items (word_of program)) (omega (arith, holds.0, holds.1))

pub returns-in_err-pc-clause-fault : goal.returns-in_err-pc-clause-fault
returns-in_err-pc-clause-fault c =
    let program = c.args.program.now in
    let asked = c.args.asked.now in
    let unmet = c.in_err-pc.field-0.0 in
    told_on c.from_residual.result unmet (needs program asked) c.from_residual.ensures.1
    (function_first program asked unmet (rw c.deref.ensures.value at c.in_err-pc.ensures.met))

pub returns-in_err-words-clause-fault : goal.returns-in_err-words-clause-fault
returns-in_err-words-clause-fault c =
    let program = c.args.program.now in
    let asked = c.args.asked.now in
    told_of c.from_residual-in_err-words.result c.in_err-words.field-0.0
    (each_from (argument_needs program) 0 asked.arguments.items) (needs program asked)
    c.from_residual-in_err-words.ensures.1 (rw c.deref-2.ensures.value at c.in_err-words.ensures.fault)
    (λ unmet. argument_first program asked unmet (rw c.deref.ensures.value at c.in_ok-pc.ensures.met))

pub memory_for-requires-clause-function : goal.memory_for-requires-clause-function
memory_for-requires-clause-function c = rw c.deref.ensures.value at c.in_ok-pc.ensures.met

pub memory_for-requires-clause-arguments : goal.memory_for-requires-clause-arguments
memory_for-requires-clause-arguments c = rw c.deref-2.ensures.value at c.in_ok-words.ensures.met

pub memory_for-requires-clause-words : goal.memory_for-requires-clause-words
memory_for-requires-clause-words c =
    c.deref-3.ensures.value ∙ (rw c.deref-2.ensures.value at c.in_ok-words.ensures.words)

pub returns-in_err-memory-clause-fault : goal.returns-in_err-memory-clause-fault
returns-in_err-memory-clause-fault c =
    let all = needs c.args.program.now c.args.asked.now in
    told_of c.from_residual-in_err-memory.result c.in_err-memory.field-0.0 all all
    c.from_residual-in_err-memory.ensures.1 c.in_err-memory.ensures.fault (λ unmet told. told)

pub new-requires : goal.new-requires
new-requires c =
    few_are c.args.program.now c.args.asked.now c.deref-4.result.now c.in_ok-memory.ensures.stack
    (c.deref-4.ensures.value ∙ (rw c.deref-2.ensures.value at c.in_ok-words.ensures.words))

pub returns-clause-pc : goal.returns-clause-pc
returns-clause-pc c = rw c.deref.ensures.value at c.in_ok-pc.ensures.address

pub returns-clause-registers : goal.returns-clause-registers
returns-clause-registers c = λ r within.
    let words = c.deref-4.ensures.value ∙ (rw c.deref-2.ensures.value at c.in_ok-words.ensures.words) in
    c.new.ensures.values r within
    ∙ ap (λ (word : Word). word.value)
    (register_is c.args.program.now c.args.asked.now c.global_pointer.result c.deref-4.result.now r
    c.global_pointer.ensures words)

pub returns-clause-unknown : goal.returns-clause-unknown
returns-clause-unknown c = λ r within.
    let words = c.deref-4.ensures.value ∙ (rw c.deref-2.ensures.value at c.in_ok-words.ensures.words) in
    c.new.ensures.unknown r within
    ∙ ap (λ (word : Word). word.unknown)
    (register_is c.args.program.now c.args.asked.now c.global_pointer.result c.deref-4.result.now r
    c.global_pointer.ensures words)
