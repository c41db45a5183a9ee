-- Checks: what has to hold of a file, in which order, and which check of a file does not hold first.
use Rattle.std.specs.Prelude.{◌≡◌, ℕ, ◌+◌, Bool, List, [], ◌∷◌, length, Option, None, Some, Result, nat_le}
use Rattle.std.specs.Prelude.{MatchResult, if◌then◌else◌}
use Rattle.elf.specs.declared.fault.Broken.{Broken}
use Rattle.elf.specs.declared.fault.ElfFault.{ElfFault}
use Rattle.elf.specs.declared.fault.ElfFault.TheVariants.{File, Memory}
use Rattle.elf.specs.declared.fault.ElfRule.{ElfRule}

-- what has to hold; and where it does not, which rule is broken, and at which byte this is told
pub record Check : Type 0 where
  pub rule : ElfRule
  pub place : ℕ
  pub holds : Bool

abbrev pub check : ElfRule → ℕ → Bool → Check
check rule place holds = record { rule = rule; place = place; holds = holds }

-- so many bytes from a place on are in the file
abbrev pub is_inside : ℕ → ℕ → List ℕ → Bool
is_inside place size file = nat_le (place + size) (length file)

-- what a check tells that does not hold
abbrev pub told_by : Check → Broken
told_by one = record { rule = one.rule; at = one.place }

-- what the first that does not hold tells
abbrev pub first_broken : List Check → Option Broken
first_broken [] = None
first_broken (one ∷ others) = if one.holds then first_broken others else Some (told_by one)

-- all hold, or what is answered is what the first that does not hold tells
abbrev pub Passes : {A : Type 0} → Result A Broken → List Check → Type 0
Passes result checks = MatchResult result (λ _. first_broken checks ≡ None) (λ first. first_broken checks ≡ Some first)

-- the fault is that of the first that does not hold, or memory was refused
abbrev pub IsTold : ElfFault → List Check → Type 0
IsTold (File rule at) checks = first_broken checks ≡ Some (record { rule = rule; at = at })
IsTold Memory checks = Unit {0}
