-- What a call of a function leaves, and which accesses it makes. The registers are written out here as the calling
-- convention lists them, since which are kept is promised to C.
use Rattle.std.specs.Prelude.{◌≡◌, ◌⊎◌, ℕ, ◌+◌, ◌≤◌, List, [], ◌∷◌, drop, All, Option, Some, None, unwrap_or}
use Rattle.linked_calls.specs.Below.{ByteMap, Div, element_bytes, Event, Fields, FixedArray, Form, Load, Mul}
use Rattle.linked_calls.specs.Below.{MutableArray, Results, SingleWord, Size, Slot, State, Store, with_numbers}
use Rattle.linked_calls.specs.Calls.{CallSite, room_base, arguments_end}
use Rattle.linked_calls.specs.FunctionCode.{array_bytes}
use Rattle.linked_calls.specs.Stretches.{AreZeroed, LiesIn}

-- Accesses.

-- a load of an array
abbrev pub ReadsArray : CallSite → ℕ → Slot → Form → ℕ → Size → Type 0
ReadsArray site i slot SingleWord a size = ⊥
ReadsArray site i slot FixedArray a size = LiesIn (site.pointers i) (site.pointers i + array_bytes slot) a size
ReadsArray site i slot MutableArray a size = LiesIn (site.pointers i) (site.pointers i + array_bytes slot) a size

abbrev pub ReadsAnArray : CallSite → ℕ → List Slot → ℕ → Size → Type 0
ReadsAnArray site i [] a size = ⊥
ReadsAnArray site i (slot ∷ slots) a size = ReadsArray site i slot slot.param.form a size
    ⊎ ReadsAnArray site (i + 1) slots a size

-- a store to one, which only an array that may be changed has
abbrev pub WritesArray : CallSite → ℕ → Slot → Form → ℕ → Size → Type 0
WritesArray site i slot SingleWord a size = ⊥
WritesArray site i slot FixedArray a size = ⊥
WritesArray site i slot MutableArray a size = LiesIn (site.pointers i) (site.pointers i + array_bytes slot) a size

abbrev pub WritesAnArray : CallSite → ℕ → List Slot → ℕ → Size → Type 0
WritesAnArray site i [] a size = ⊥
WritesAnArray site i (slot ∷ slots) a size = WritesArray site i slot slot.param.form a size
    ⊎ WritesAnArray site (i + 1) slots a size

-- an access of a stretch of the stack, and not below the stack pointer
abbrev pub IsOnStack : ℕ → ℕ → ℕ → ℕ → Size → Type 0
IsOnStack low high sp a size = LiesIn low high a size × (sp ≤ a)

-- loads lie in the room, the arguments on the stack or the arrays, stores in the room or the arrays that may be
-- changed; those of the stack not below the stack pointer
abbrev pub IsOfCall : Fields → CallSite → ℕ → Option Event → Type 0
IsOfCall image site sp None = Unit {0}
IsOfCall image site sp (Some (Load a size)) = IsOnStack (room_base image site) (arguments_end image site) sp a size
    ⊎ ReadsAnArray site 0 image.slots a size
IsOfCall image site sp (Some (Store a size)) = IsOnStack (room_base image site) site.stack sp a size
    ⊎ WritesAnArray site 0 image.slots a size
IsOfCall image site sp (Some (Div a b)) = Unit {0}
IsOfCall image site sp (Some (Mul a b)) = Unit {0}

-- What is left.

-- the bytes with the next outcome where the argument points, if it is an array that may be changed
abbrev pub with_array : CallSite → ByteMap → ℕ → Slot → Form → List (List ℕ) → ByteMap
with_array site bytes i slot SingleWord arrays = bytes
with_array site bytes i slot FixedArray arrays = bytes
with_array site bytes i slot MutableArray [] = bytes
with_array site bytes i slot MutableArray (array ∷ arrays) =
    with_numbers bytes (element_bytes slot.param.kind) (site.pointers i) array

-- the outcomes that are left behind an argument
abbrev pub arrays_behind : Form → List (List ℕ) → List (List ℕ)
arrays_behind SingleWord arrays = arrays
arrays_behind FixedArray arrays = arrays
arrays_behind MutableArray arrays = drop 1 arrays

-- the bytes with the outcome of each array that may be changed where its argument points, in the order of the
-- parameters
abbrev pub with_arrays : CallSite → ByteMap → ℕ → List Slot → List (List ℕ) → ByteMap
with_arrays site bytes i [] arrays = bytes
with_arrays site bytes i (slot ∷ slots) arrays =
    with_arrays site (with_array site bytes i slot slot.param.form arrays) (i + 1) slots
    (arrays_behind slot.param.form arrays)

-- ra, sp, gp, tp and s0 to s11
abbrev pub kept_registers : List ℕ
kept_registers = 1 ∷ 2 ∷ 3 ∷ 4 ∷ 8 ∷ 9 ∷ 18 ∷ 19 ∷ 20 ∷ 21 ∷ 22 ∷ 23 ∷ 24 ∷ 25 ∷ 26 ∷ 27 ∷ []

-- t0 to t2, a1 to a7, t3 to t6
abbrev pub cleared_registers : List ℕ
cleared_registers = 5 ∷ 6 ∷ 7 ∷ 11 ∷ 12 ∷ 13 ∷ 14 ∷ 15 ∷ 16 ∷ 17 ∷ 28 ∷ 29 ∷ 30 ∷ 31 ∷ []

-- of a call in a state with these registers and bytes: the result in a0, which is 0 where there is none; the arrays
-- that may be changed hold their outcomes, all the room is zeros, and nothing else has changed
pub record IsLeft (image : Fields) (site : CallSite) (regs : ℕ
    → ℕ) (bytes : ByteMap) (results : Results) (t : State) : Type 0 where
  pub result : t.regs 10 ≡ unwrap_or results.returned 0
  pub kept : All (λ r. t.regs r ≡ regs r) kept_registers
  pub cleared : All (λ r. t.regs r ≡ 0) cleared_registers
  pub memory : AreZeroed (room_base image site) site.stack
      (with_arrays site bytes 0 image.slots results.arrays) t.bytes
