-- Straight-line code, run by symbols. What it makes of registers and bytes is a function of these and of the
-- addresses that it loads from and stores to, one for each access, which are given beforehand. So what such code
-- shows is known before any state is, and what is left to prove of a state is that its accesses go to these
-- addresses, where data is.
use Rattle.std.specs.Prelude.{◌≡◌, ℕ, ◌+◌, ◌*◌, ◌%◌, ◌^◌, Bool, true, false, ◌&&◌, nat_lt, List, [], ◌∷◌, Option}
use Rattle.std.specs.Prelude.{Some, None, is_some}
use Rattle.expression_code.specs.Below.{address_of, byte_count, ByteMap, Event, Immediate, immediate_value, Instr, Load}
use Rattle.expression_code.specs.Below.{load_size, loaded_value, Lui, number_at, Observation, Register, register}
use Rattle.expression_code.specs.Below.{register_value, Shift, shift_value, sign_extended, State, Store, store_size}
use Rattle.expression_code.specs.Below.{Upper}
use Rattle.expression_code.specs.Below.{with_number, with_register}
use Rattle.rv_machine.specs.declared.observation.Event.TheVariants as event

-- what instructions work on
pub record Contents : Type 0 where
  pub regs : ℕ → ℕ
  pub bytes : ByteMap

abbrev pub contents_of : State → Contents
contents_of s = record { regs = s.regs; bytes = s.bytes }

abbrev pub state_at : ℕ → Contents → State
state_at p c = record { pc = p; regs = c.regs; bytes = c.bytes }

-- Instructions that go on to the next one and, but for an access, show nothing, with their fields in range; `works`
-- says which registers they may write.

abbrev pub is_straight : (ℕ → Bool) → Instr → Bool
is_straight works (Upper Lui rd immediate) = works rd && (nat_lt rd 32 && nat_lt immediate 1048576)
is_straight works (Immediate operation rd rs1 immediate) =
    works rd && (nat_lt rd 32 && (nat_lt rs1 32 && nat_lt immediate 4096))
is_straight works (Shift operation rd rs1 amount) = works rd && (nat_lt rd 32 && (nat_lt rs1 32 && nat_lt amount 32))
is_straight works (Register operation rd rs1 rs2) = works rd && (nat_lt rd 32 && (nat_lt rs1 32 && nat_lt rs2 32))
is_straight works (Load operation rd rs1 offset) = works rd && (nat_lt rd 32 && (nat_lt rs1 32 && nat_lt offset 4096))
is_straight works (Store operation rs2 rs1 offset) = nat_lt rs2 32 && (nat_lt rs1 32 && nat_lt offset 4096)
is_straight works _ = false

abbrev pub are_straight : (ℕ → Bool) → List Instr → Bool
are_straight works [] = true
are_straight works (i ∷ is) = is_straight works i && are_straight works is

-- The addresses of accesses, in their order.

-- the next of them
abbrev pub next_of : List ℕ → ℕ
next_of [] = 0
next_of (a ∷ places) = a

abbrev pub all_but_next : List ℕ → List ℕ
all_but_next [] = []
all_but_next (a ∷ places) = places

-- those that are left behind an instruction
abbrev pub left_by : Instr → List ℕ → List ℕ
left_by (Load operation rd rs1 offset) places = all_but_next places
left_by (Store operation rs2 rs1 offset) places = all_but_next places
left_by _ places = places

-- What is made of registers and bytes.

abbrev pub with_result : ℕ → ℕ → Contents → Contents
with_result rd value c = record { regs = with_register c.regs rd value; bytes = c.bytes }

-- the number at an address, where there is one
abbrev pub number_or_zero : Option ℕ → ℕ
number_or_zero (Some v) = v
number_or_zero None = 0

-- by one instruction, whose access is at an address
abbrev pub after : Instr → ℕ → Contents → Contents
after (Upper operation rd immediate) a c = with_result rd (immediate * 2 ^ 12) c
after (Immediate operation rd rs1 immediate) a c =
    with_result rd (immediate_value operation (register c.regs rs1) (sign_extended 12 immediate)) c
after (Shift operation rd rs1 amount) a c = with_result rd (shift_value operation (register c.regs rs1) amount) c
after (Register operation rd rs1 rs2) a c =
    with_result rd (register_value operation (register c.regs rs1) (register c.regs rs2)) c
after (Load operation rd rs1 offset) a c =
    with_result rd (loaded_value operation (number_or_zero (number_at c.bytes (byte_count (load_size operation)) a)))
    c
after (Store operation rs2 rs1 offset) a c =
    record { regs = c.regs; bytes = with_number c.bytes (byte_count (store_size operation)) a (register c.regs rs2) }
after _ a c = c

abbrev pub after_all : List Instr → List ℕ → Contents → Contents
after_all [] places c = c
after_all (i ∷ is) places c = after_all is (left_by i places) (after i (next_of places) c)

-- What is shown, the first instruction standing at an address.

abbrev pub event_of : Instr → ℕ → Option Event
event_of (Load operation rd rs1 offset) a = Some (event.Load a (load_size operation))
event_of (Store operation rs2 rs1 offset) a = Some (event.Store a (store_size operation))
event_of _ a = None

abbrev pub shown_by : ℕ → List Instr → List ℕ → List Observation
shown_by p [] places = []
shown_by p (i ∷ is) places = record { pc = p; event = event_of i (next_of places) }
    ∷ shown_by (p + 4) is (left_by i places)

-- What has to hold of each access, and then of the rest.

-- of its address alone: it is a multiple of the size, and the access is one of those that are allowed
pub record IsFit (Allows : Option Event → Type 0) (n : ℕ) (e : Event) (a : ℕ) : Type 0 where
  pub even : a % n ≡ 0
  pub allowed : Allows (Some e)

abbrev pub fit_and : (Option Event → Type 0) → Instr → ℕ → Type 0 → Type 0
fit_and Allows (Load operation rd rs1 offset) a rest =
    IsFit Allows (byte_count (load_size operation)) (event.Load a (load_size operation)) a × rest
fit_and Allows (Store operation rs2 rs1 offset) a rest =
    IsFit Allows (byte_count (store_size operation)) (event.Store a (store_size operation)) a × rest
fit_and Allows _ a rest = rest

abbrev pub AreFit : (Option Event → Type 0) → List Instr → List ℕ → Type 0
AreFit Allows [] places = Unit {0}
AreFit Allows (i ∷ is) places = fit_and Allows i (next_of places) (AreFit Allows is (left_by i places))

-- of a state: it goes to that address, and data is there
pub record IsMet (n rs1 offset a : ℕ) (c : Contents) : Type 0 where
  pub address : address_of c.regs rs1 offset ≡ a
  pub data_there : is_some (number_at c.bytes n a) ≡ true

abbrev pub met_and : Instr → ℕ → Contents → Type 0 → Type 0
met_and (Load operation rd rs1 offset) a c rest = IsMet (byte_count (load_size operation)) rs1 offset a c × rest
met_and (Store operation rs2 rs1 offset) a c rest = IsMet (byte_count (store_size operation)) rs1 offset a c × rest
met_and _ a c rest = rest

abbrev pub AreMet : List Instr → List ℕ → Contents → Type 0
AreMet [] places c = Unit {0}
AreMet (i ∷ is) places c = met_and i (next_of places) c (AreMet is (left_by i places) (after i (next_of places) c))
