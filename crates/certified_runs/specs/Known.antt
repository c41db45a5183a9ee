-- What is known of a state of the machine: each register and each byte has its number, of which some bits are unknown.
-- The program counter is always known, and so are the addresses that are data. Beside it stands whether amounts of
-- shifts are seen.
use Rattle.std.specs.Prelude.{◌≡◌, ℕ, ◌-◌, ◌^◌, ◌==◌, ◌<◌, ◌⊎◌, Bool, Option, Some, None, is_some, if◌then◌else◌}
use Rattle.certified_runs.specs.Below.{ByteMap, register, State}
use Rattle.certified_runs.specs.Bits.{Agree, all_bits, is_known, partly}
use Rattle.certified_runs.specs.declared.bits.PartialWord.{PartialWord}
use Rattle.certified_runs.specs.declared.shifts.Shifts.{Shifts}

-- a state, and the unknown bits of its registers and of its bytes, which are a mask for each; what the state holds
-- there does not matter. The observer sees the amounts of shifts by registers or not
pub record KnownState : Type 0 where
  pub state : State
  pub registers : ℕ → ℕ
  pub bytes : ByteMap
  pub shifts : Shifts

-- the unknown bits of a register; x0 has none
abbrev pub unknown : (ℕ → ℕ) → ℕ → ℕ
unknown registers r = if r == 0 then 0 else registers r

-- what is known of a register
abbrev pub part : KnownState → ℕ → PartialWord
part k r = partly (unknown k.registers r) (register k.state.regs r)

-- whether all of it is known
abbrev pub knows : KnownState → ℕ → Bool
knows k r = is_known (part k r)

-- the unknown bits of a number of some bytes, which the masks of those bytes make as the bytes do the number
abbrev pub number_unknown : Option ℕ → ℕ
number_unknown (Some mask) = mask
number_unknown None = all_bits

-- and those of a byte
abbrev pub byte_unknown : Option ℕ → ℕ
byte_unknown (Some mask) = mask
byte_unknown None = 2 ^ 8 - 1

-- the unknown bits of the registers after this one got a value that has these
abbrev pub with_register_unknown : (ℕ → ℕ) → ℕ → ℕ → ℕ → ℕ
with_register_unknown registers rd mask r = if r == rd then mask else registers r

abbrev pub AreBytes : ByteMap → Type 0
AreBytes bytes = (a b : ℕ) → bytes a ≡ Some b → b < 2 ^ 8

-- its registers hold words and its data is bytes, as in each state of a machine
pub record HoldsWords (s : State) : Type 0 where
  pub registers : (r : ℕ) → register s.regs r < 2 ^ 32
  pub bytes : AreBytes s.bytes

-- both states hold words, and the masks are bytes
pub record AreWords (k : KnownState) (s : State) : Type 0 where
  pub known : HoldsWords k.state
  pub covered : HoldsWords s
  pub masks : AreBytes k.bytes

-- a state that is as is known: the program counter, the addresses that are data, and each bit that is known; where they
-- hold more than words, it is the state itself
pub record Covers (k : KnownState) (s : State) : Type 0 where
  pub pc : s.pc ≡ k.state.pc
  pub registers : (r : ℕ) → Agree (unknown k.registers r) (register k.state.regs r) (register s.regs r)
  pub extent : (a : ℕ) → is_some (s.bytes a) ≡ is_some (k.state.bytes a)
  pub bytes : (a b c : ℕ) → k.state.bytes a ≡ Some b → s.bytes a ≡ Some c → Agree (byte_unknown (k.bytes a)) b c
  pub words : AreWords k s ⊎ (s ≡ k.state)
