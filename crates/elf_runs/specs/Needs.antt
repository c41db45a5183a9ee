-- What has to hold of a request and the program that it is about, in which order, and what is told first where it does
-- not.
use Rattle.std.specs.Prelude.{◌≡◌, ℕ, ◌+◌, ◌-◌, ◌/◌, ◌%◌, Bool, List, [], ◌∷◌, ◌++◌, length, Option, None, Some, Result}
use Rattle.std.specs.Prelude.{MatchResult, is_some, nat_le, ◌==◌, if◌then◌else◌}
use Rattle.std.specs.List.{list_all}
use Rattle.elf_runs.specs.Below.{ElfRule, Executable, LoadedSegment, function_named, memory_of, most_memory}
use Rattle.elf.specs.declared.fault.ElfRule.TheVariants as rules
use Rattle.elf_memory.specs.Arguments.{is_found, stack_begin}
use Rattle.elf_memory.specs.Objects.{object_of, size_of}
use Rattle.elf_memory.specs.declared.asked.Asked.{Asked}
use Rattle.elf_memory.specs.declared.asked.Argument.{Argument}
use Rattle.elf_memory.specs.declared.asked.Secret.{Secret}
use Rattle.elf_memory.specs.declared.asked.Setting.{Setting}
use Rattle.elf_runs.specs.declared.fault.Part.{Part}
use Rattle.elf_runs.specs.declared.fault.Part.TheVariants as parts
use Rattle.elf_runs.specs.declared.fault.Unmet.{Unmet}
use Rattle.elf_runs.specs.declared.fault.StartFault.{StartFault}
use Rattle.elf_runs.specs.declared.fault.StartFault.TheVariants.{Refused, Memory}

-- what has to hold; and where it does not, which rule is broken, and by which part of the request
pub record Need : Type 0 where
  pub rule : ElfRule
  pub part : Part
  pub holds : Bool

abbrev pub need : ElfRule → Part → Bool → Need
need rule part holds = record { rule = rule; part = part; holds = holds }

-- what the first tells that does not hold
abbrev pub first_unmet : List Need → Option Unmet
first_unmet [] = None
first_unmet (one ∷ others) =
    if one.holds then first_unmet others else Some (record { rule = one.rule; part = one.part })

-- all hold, or what is answered is what the first tells that does not
abbrev pub Meets : {A : Type 0} → Result A Unmet → List Need → Type 0
Meets result needs = MatchResult result (λ _. first_unmet needs ≡ None) (λ first. first_unmet needs ≡ Some first)

-- the fault is what the first tells that does not hold, or memory was refused
abbrev pub IsTold : StartFault → List Need → Type 0
IsTold (Refused unmet) needs = first_unmet needs ≡ Some unmet
IsTold Memory needs = Unit {0}

-- what has to hold of items, which are counted from a number on
abbrev pub each_from : {A : Type 0} → (ℕ → A → List Need) → ℕ → List A → List Need
each_from needs k [] = []
each_from needs k (item ∷ items) = needs k item ++ each_from needs (k + 1) items

-- the function is one of the program's
abbrev pub function_needs : Executable → List ℕ → List Need
function_needs program name = need rules.Symbol parts.Function (is_some (function_named program name)) ∷ []

-- what an argument names has an address
abbrev pub argument_needs : Executable → ℕ → Argument → List Need
argument_needs program k argument = need rules.Symbol (parts.Argument k) (is_found program argument) ∷ []

-- what is secret is an object in memory
abbrev pub secret_needs : Executable → ℕ → Secret → List Need
secret_needs program k secret =
    need rules.Symbol (parts.Secret k) (is_some (object_of program secret.object.items)) ∷ []

-- what is set is an object in memory, and no smaller than the bytes
abbrev pub setting_needs : Executable → ℕ → Setting → List Need
setting_needs program k setting =
    let object = object_of program setting.object.items in
    need rules.Symbol (parts.Setting k) (is_some object)
    ∷ need rules.Argument (parts.Setting k) (nat_le (length setting.bytes.items) (size_of object))
    ∷ []

-- the segment ends at this address or before
abbrev pub ends_by : ℕ → LoadedSegment → Bool
ends_by address segment = nat_le (segment.address + segment.size) address

-- the stack's size is a multiple of 16, and it has as many words as there are arguments behind the eighth; with the
-- segments it is not too large, and none of them ends behind its beginning
abbrev pub stack_needs : Executable → Asked → List Need
stack_needs program asked =
    need rules.Argument parts.Stack (asked.stack % 16 == 0)
    ∷ need rules.Argument parts.Stack (nat_le (length asked.arguments.items - 8) (asked.stack / 4))
    ∷ need rules.Ranges parts.Stack (nat_le (memory_of program.segments + asked.stack) most_memory)
    ∷ need rules.Ranges parts.Stack (list_all (ends_by (stack_begin asked.stack)) program.segments)
    ∷ []

-- in this order: the function, the arguments, what is secret, what is set, the stack
unfoldable pub needs : Executable → Asked → List Need
needs program asked =
    function_needs program asked.function.items
    ++ each_from (argument_needs program) 0 asked.arguments.items
    ++ each_from (secret_needs program) 0 asked.secrets.items
    ++ each_from (setting_needs program) 0 asked.settings.items
    ++ stack_needs program asked
