-- What is told first of a request, by which of its parts is broken first.
use Rattle.std.specs.Prelude.{nat_le, ◌==◌}
use Rattle.std.proofs.Common.{◌≡◌, ◌≤◌, ◌+◌, ◌-◌, ◌/◌, ◌%◌, ◌^◌, ◌++◌, ◌∙◌, true, List, None, Some}
use Rattle.std.proofs.Common.{arith, drop, length, take}
use Rattle.std.proofs.lemmas.Bool.{eqb-true, leb-true}
use Rattle.std.specs.List.{list_all}
use Rattle.elf_runs.specs.Below.{Executable, memory_of, most_memory}
use Rattle.elf_memory.specs.Arguments.{pushed_size, stack_begin}
use Rattle.elf_runs.specs.Needs.{Need, argument_needs, each_from, ends_by, first_unmet, function_needs, needs}
use Rattle.elf_runs.specs.Needs.{secret_needs, setting_needs, stack_needs}
use Rattle.elf_memory.specs.declared.asked.Asked.{Asked}
use Rattle.elf_runs.specs.declared.fault.Unmet.{Unmet}
use Rattle.elf_runs.proofs.Meeting.{held_before, met_behind, split, unmet_before}

-- the needs of the parts
abbrev of_function : Executable → Asked → List Need
of_function program asked = function_needs program asked.function.items

abbrev of_arguments : Executable → Asked → List Need
of_arguments program asked = each_from (argument_needs program) 0 asked.arguments.items

abbrev of_secrets : Executable → Asked → List Need
of_secrets program asked = each_from (secret_needs program) 0 asked.secrets.items

abbrev of_settings : Executable → Asked → List Need
of_settings program asked = each_from (setting_needs program) 0 asked.settings.items

pub function_first : (program : Executable) (asked : Asked) (unmet : Unmet)
    → first_unmet (function_needs program asked.function.items) ≡ Some unmet
    → first_unmet (needs program asked) ≡ Some unmet
unfolding needs
function_first program asked unmet h =
    let f = of_function program asked in
    let a = of_arguments program asked in
    let s = of_secrets program asked in
    let t = of_settings program asked in
    unmet_before (f ++ a ++ s ++ t) (stack_needs program asked) unmet
    (unmet_before (f ++ a ++ s) t unmet (unmet_before (f ++ a) s unmet (unmet_before f a unmet h)))

pub argument_first : (program : Executable) (asked : Asked) (unmet : Unmet)
    → first_unmet (function_needs program asked.function.items) ≡ None
    → first_unmet (each_from (argument_needs program) 0 asked.arguments.items) ≡ Some unmet
    → first_unmet (needs program asked) ≡ Some unmet
unfolding needs
argument_first program asked unmet function h =
    let f = of_function program asked in
    let a = of_arguments program asked in
    let s = of_secrets program asked in
    let t = of_settings program asked in
    unmet_before (f ++ a ++ s ++ t) (stack_needs program asked) unmet
    (unmet_before (f ++ a ++ s) t unmet (unmet_before (f ++ a) s unmet (held_before f a function ∙ h)))

pub secret_first : (program : Executable) (asked : Asked) (unmet : Unmet)
    → first_unmet (function_needs program asked.function.items) ≡ None
    → first_unmet (each_from (argument_needs program) 0 asked.arguments.items) ≡ None
    → first_unmet (each_from (secret_needs program) 0 asked.secrets.items) ≡ Some unmet
    → first_unmet (needs program asked) ≡ Some unmet
unfolding needs
secret_first program asked unmet function arguments h =
    let f = of_function program asked in
    let a = of_arguments program asked in
    let s = of_secrets program asked in
    let t = of_settings program asked in
    unmet_before (f ++ a ++ s ++ t) (stack_needs program asked) unmet
    (unmet_before (f ++ a ++ s) t unmet (held_before (f ++ a) s (held_before f a function ∙ arguments) ∙ h))

-- where the arguments, and all before, are met, and so what is secret
behind_secrets : (program : Executable) (asked : Asked)
    → first_unmet (function_needs program asked.function.items) ≡ None
    → first_unmet (each_from (argument_needs program) 0 asked.arguments.items) ≡ None
    → first_unmet (each_from (secret_needs program) 0 asked.secrets.items) ≡ None
    → first_unmet (of_function program asked ++ of_arguments program asked ++ of_secrets program asked) ≡ None
behind_secrets program asked function arguments secrets =
    let f = of_function program asked in
    let a = of_arguments program asked in
    held_before (f ++ a) (of_secrets program asked) (held_before f a function ∙ arguments) ∙ secrets

pub setting_first : (program : Executable) (asked : Asked) (unmet : Unmet)
    → first_unmet (function_needs program asked.function.items) ≡ None
    → first_unmet (each_from (argument_needs program) 0 asked.arguments.items) ≡ None
    → first_unmet (each_from (secret_needs program) 0 asked.secrets.items) ≡ None
    → first_unmet (each_from (setting_needs program) 0 asked.settings.items) ≡ Some unmet
    → first_unmet (needs program asked) ≡ Some unmet
unfolding needs
setting_first program asked unmet function arguments secrets h =
    let f = of_function program asked in
    let a = of_arguments program asked in
    let s = of_secrets program asked in
    let t = of_settings program asked in
    unmet_before (f ++ a ++ s ++ t) (stack_needs program asked) unmet
    (held_before (f ++ a ++ s) t (behind_secrets program asked function arguments secrets) ∙ h)

-- what is told is told of the stack, where all before is met
pub stack_last : (program : Executable) (asked : Asked)
    → first_unmet (function_needs program asked.function.items) ≡ None
    → first_unmet (each_from (argument_needs program) 0 asked.arguments.items) ≡ None
    → first_unmet (each_from (secret_needs program) 0 asked.secrets.items) ≡ None
    → first_unmet (each_from (setting_needs program) 0 asked.settings.items) ≡ None
    → first_unmet (needs program asked) ≡ first_unmet (stack_needs program asked)
unfolding needs
stack_last program asked function arguments secrets settings =
    let f = of_function program asked in
    let a = of_arguments program asked in
    let s = of_secrets program asked in
    let t = of_settings program asked in
    held_before (f ++ a ++ s ++ t) (stack_needs program asked)
    (held_before (f ++ a ++ s) t (behind_secrets program asked function arguments secrets) ∙ settings)

pub segments_below : (program : Executable) (asked : Asked) → first_unmet (needs program asked) ≡ None
    → list_all (ends_by (stack_begin asked.stack)) program.segments ≡ true
unfolding needs
segments_below program asked h =
    let front = of_function program asked ++ of_arguments program asked ++ of_secrets program asked
    ++ of_settings program asked in
    let stack = stack_needs program asked in
    let last = met_behind (take 3 stack) (drop 3 stack) (met_behind front stack h) in
    (split (list_all (ends_by (stack_begin asked.stack)) program.segments) _ None last).0

-- a stack as it has to be is not too large, and has room for the arguments behind the eighth
pub stack_holds : (program : Executable) (asked : Asked) → first_unmet (stack_needs program asked) ≡ None
    → (asked.stack ≤ 2 ^ 24) × (pushed_size (length asked.arguments.items) ≤ asked.stack)
stack_holds program asked h =
    let size = asked.stack in
    let count = length asked.arguments.items - 8 in
    let all = memory_of program.segments + size in
    let multiple = split (size % 16 == 0) _ _ h in
    let room = split (nat_le count (size / 4)) _ _ multiple.1 in
    let few = split (nat_le all most_memory) _ _ room.1 in
    let sixteen = eqb-true (size % 16) 0 multiple.0 in
    let words = leb-true count (size / 4) room.0 in
    let small = leb-true all most_memory few.0 in
    (omega (arith, small), omega (arith, sixteen, words))
