-- Where words are. Temporaries are the values of subexpressions that are still needed. Each has a place, the count of
-- those that live beside it and were there before: the first so many places are registers, and those beyond are slots
-- of the frame. A variable is in its slot, or it has a home: a register of its own, in which it lives for the whole
-- run. So is a control value. Their homes are listed by their numbers, those of control values behind those of all
-- variables. A variable with a home may have a mirror: a register that follows it, from which the elements at its value
-- are reached at once.
use Rattle.std.specs.Prelude.{◌≡◌, ◌≢◌, ℕ, ◌+◌, ◌-◌, ◌*◌, ◌<◌, ◌≤◌, Bool, false, List, [], length, Option, None, Some}
use Rattle.std.specs.Prelude.{nat_lt, if◌then◌else◌, slice_get, unwrap_or}
use Rattle.expression_code.specs.Registers.{value_register, address_register}
use Rattle.expression_code.specs.declared.locations.Location.{Location}
use Rattle.expression_code.specs.declared.locations.Location.TheVariants.{InRegister, InSlot}
use Rattle.expression_code.specs.declared.allocation.Mirror.{Mirror}
use Rattle.expression_code.specs.Below.{FlatVariable}

-- the register that an operator finds a word in: its own, or a spare one that it is fetched into
abbrev pub register_of : Location → ℕ → ℕ
register_of (InRegister register) spare = register
register_of (InSlot offset) spare = spare

-- how registers are given out: how many temporaries have one, the home of each variable and of each control value
-- that has one, whether a number goes into an instruction that holds it, and needs no register then, which control
-- values nothing reads, so that they are nowhere, and the mirrors of variables, by their numbers
pub record Allocation : Type 0 where
  pub count : ℕ
  pub homes : List (Option ℕ)
  pub immediates : Bool
  pub unread : List Bool
  pub mirrors : List (Option Mirror)

-- nothing has a home, and each number gets a register
abbrev pub plain : Allocation
plain = record { count = 16; homes = []; immediates = false; unread = []; mirrors = [] }

abbrev pub home_of : List (Option ℕ) → ℕ → Option ℕ
home_of homes x = unwrap_or (slice_get homes x) None

abbrev pub is_unread : Allocation → ℕ → Bool
is_unread allocation control = unwrap_or (slice_get allocation.unread control) false

-- only a variable with a home has a mirror
abbrev pub mirror_if : Option ℕ → Option Mirror → Option Mirror
mirror_if None mirror = None
mirror_if (Some home) mirror = mirror

abbrev pub mirror_of : Allocation → ℕ → Option Mirror
mirror_of allocation x =
    mirror_if (home_of allocation.homes x) (unwrap_or (slice_get allocation.mirrors x) None)

-- Homes are registers behind those of the temporaries and before the address register. No two words have the same
-- one, and no array has one. The first three temporaries have registers, which statements work on, and at most
-- sixteen have one. Mirrors are such registers too, each another than all homes and all other mirrors.
pub record IsAllocation (declared : List FlatVariable) (allocation : Allocation) : Type 0 where
  pub some : 3 ≤ allocation.count
  pub few : allocation.count ≤ 16
  pub allowed : (x home : ℕ) → home_of allocation.homes x ≡ Some home
      → (value_register + allocation.count ≤ home) × (home < address_register)
  pub apart : (x y home : ℕ) → home_of allocation.homes x ≡ Some home → home_of allocation.homes y ≡ Some home → x ≡ y
  pub words : (x : ℕ) (d : FlatVariable) (size : ℕ) → slice_get declared x ≡ Some d → d.elements ≡ Some size
      → home_of allocation.homes x ≡ None
  pub mirrored : (x : ℕ) (mirror : Mirror) → mirror_of allocation x ≡ Some mirror
      → (x < length declared) × (value_register + allocation.count ≤ mirror.register)
      × (mirror.register < address_register)
  pub mirror_apart : (x y home : ℕ) (mirror : Mirror) → mirror_of allocation x ≡ Some mirror
      → home_of allocation.homes y ≡ Some home → home ≢ mirror.register
  pub mirrors_apart : (x y : ℕ) (one other : Mirror) → mirror_of allocation x ≡ Some one
      → mirror_of allocation y ≡ Some other → one.register ≡ other.register → x ≡ y

-- the slot of a temporary that has no register, where so many have one, and their slots begin at an offset
abbrev pub slot_of : ℕ → ℕ → ℕ → ℕ
slot_of count free place = free + 4 * (place - count)

-- how many slots the temporaries up to this place take
abbrev pub slots_to : ℕ → ℕ → ℕ
slots_to count place = place + 1 - count

-- where the temporary of a place is
abbrev pub temporary : ℕ → ℕ → ℕ → Location
temporary count free place =
    if nat_lt place count then InRegister (value_register + place) else InSlot (slot_of count free place)

-- the register that its value is computed in: its own, or a spare one
abbrev pub working_register : ℕ → ℕ → ℕ → ℕ
working_register count place spare = if nat_lt place count then value_register + place else spare

-- in its home, where a variable has one, and else somewhere
abbrev pub at_home : Option ℕ → Location → Location
at_home None elsewhere = elsewhere
at_home (Some home) elsewhere = InRegister home
