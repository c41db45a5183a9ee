-- The machine leads from any state through placed straight-line code to the state that the code is run to by symbols,
-- and shows the list that is read off the code and the addresses of its accesses.
use Rattle.std.specs.Prelude.{is_some}
use Rattle.std.proofs.Common.{◌≡◌, ℕ, suc, ◌+◌, ◌*◌, ◌%◌, ◌^◌, ◌<◌, Bool, true, ◌&&◌, List, [], ◌∷◌, length}
use Rattle.std.proofs.Common.{Option, Some, None, refl, ap, ◌∙◌, subst, arith}
use Rattle.std.proofs.lemmas.Bool.{and_parts, false≢true}
use Rattle.std.proofs.lemmas.Bool.Decides.{nat_tests}
use Rattle.expression_code.specs.program_logic.Placed.{Placed}
use Rattle.expression_code.specs.program_logic.StraightCode.{Contents, state_at, is_straight, are_straight, next_of}
use Rattle.expression_code.specs.program_logic.StraightCode.{left_by}
use Rattle.expression_code.specs.program_logic.StraightCode.{with_result, number_or_zero, after, after_all, event_of}
use Rattle.expression_code.specs.program_logic.StraightCode.{shown_by}
use Rattle.expression_code.specs.program_logic.StraightCode.{fit_and, AreFit, IsMet, met_and, AreMet}
use Rattle.expression_code.specs.Below.{address_of, byte_count, MachineCode, Event, Immediate, Instr, IsAt, IsInstr}
use Rattle.expression_code.specs.Below.{Leads}
use Rattle.expression_code.specs.Below.{Load, load_size, loaded_value, LoadOperation, Lui, number_at, Register}
use Rattle.expression_code.specs.Below.{register, Shift}
use Rattle.expression_code.specs.Below.{State, stays, Store, store_size, StoreOperation, Upper, with_number}
use Rattle.expression_code.specs.Below.{with_stored}
use Rattle.expression_code.proofs.program_logic_lemmas.Below.{Leads-append, upper_leads, immediate_leads, shift_leads}
use Rattle.expression_code.proofs.program_logic_lemmas.Below.{register_leads, load_leads, store_leads}
use Rattle.rv_machine.specs.Machine.{with_stored_after, with_value, with_value_after}
use Rattle.rv_machine.specs.declared.observation.Event.TheVariants as event

pub both_left : (a b : Bool) → (a && b) ≡ true → a ≡ true
both_left a b h = (and_parts a b h).0

pub both_right : (a b : Bool) → (a && b) ≡ true → b ≡ true
both_right a b h = (and_parts a b h).1

-- the number that is found
pub found : (o : Option ℕ) → is_some o ≡ true → o ≡ Some (number_or_zero o)
found (Some v) h = refl
found None h = absurd (false≢true h)

range : (works : ℕ → Bool) (i : Instr) → is_straight works i ≡ true → IsInstr i
range works (Upper Lui rd immediate) h = search (arith, nat_tests)
range works i h = search (arith, nat_tests)

module _ (code : MachineCode) (p : ℕ) (below : p + 4 < 2 ^ 32) (c : Contents) where
  -- at the next instruction
  valued : (rd value : ℕ) → with_value (state_at p c) rd value ≡ state_at (p + 4) (with_result rd value c)
  unfolding with_value_after
  valued rd value =
      let e : (p + 4) % 2 ^ 32 ≡ p + 4 = omega arith in
      ap (λ q. state_at q (with_result rd value c)) e

  stored : (operation : StoreOperation) (a value : ℕ)
      → with_stored (state_at p c) (store_size operation) a value
      ≡ state_at (p + 4) (record {
        regs = c.regs;
        bytes = with_number c.bytes (byte_count (store_size operation)) a value;
      })
  unfolding with_stored_after
  stored operation a value =
      let e : (p + 4) % 2 ^ 32 ≡ p + 4 = omega arith in
      ap
      (λ q. state_at q (record {
        regs = c.regs;
        bytes = with_number c.bytes (byte_count (store_size operation)) a value;
      })) e

  -- one step that shows an event, to a state that is otherwise written
  arrives : (e e' : Option Event) (t t' : State) → Leads code 1 (state_at p c) (record { pc = p; event = e } ∷ []) t
      → e ≡ e' → t ≡ t' → Leads code 1 (state_at p c) (record { pc = p; event = e' } ∷ []) t'
  arrives e e' t t' leads same there =
      subst (λ x. Leads code 1 (state_at p c) (record { pc = p; event = x } ∷ []) t') same
      (subst (λ (u : State). Leads code 1 (state_at p c) (record { pc = p; event = e } ∷ []) u) there leads)

  loads : (operation : LoadOperation) (rd rs1 offset a : ℕ) → IsAt code p (Load operation rd rs1 offset)
      → a % byte_count (load_size operation) ≡ 0 → IsMet (byte_count (load_size operation)) rs1 offset a c
      → Leads code 1 (state_at p c) (record { pc = p; event = Some (event.Load a (load_size operation)) } ∷ [])
      (state_at (p + 4) (after (Load operation rd rs1 offset) a c))
  loads operation rd rs1 offset a at even met =
      let n = byte_count (load_size operation) in
      let v = number_or_zero (number_at c.bytes n a) in
      let there = ap (λ x. number_at c.bytes n x) met.address ∙ found (number_at c.bytes n a) met.data_there in
      arrives _ _ _ _
      (load_leads code (state_at p c) operation rd rs1 offset v at (ap (λ x. x % n) met.address ∙ even) there)
      (ap (λ x. Some (event.Load x (load_size operation))) met.address) (valued rd (loaded_value operation v))

  stores : (operation : StoreOperation) (rs2 rs1 offset a : ℕ) → IsAt code p (Store operation rs2 rs1 offset)
      → a % byte_count (store_size operation) ≡ 0 → IsMet (byte_count (store_size operation)) rs1 offset a c
      → Leads code 1 (state_at p c) (record { pc = p; event = Some (event.Store a (store_size operation)) } ∷ [])
      (state_at (p + 4) (after (Store operation rs2 rs1 offset) a c))
  stores operation rs2 rs1 offset a at even met =
      let n = byte_count (store_size operation) in
      let v = register c.regs rs2 in
      arrives _ _ _ _
      (store_leads code (state_at p c) operation rs2 rs1 offset at (ap (λ x. x % n) met.address
      ∙ even) (ap (λ x. is_some (number_at c.bytes n x)) met.address ∙ met.data_there))
      (ap (λ x. Some (event.Store x (store_size operation))) met.address)
      (stored operation (address_of c.regs rs1 offset) v
      ∙ ap (λ x. state_at (p + 4) (record { regs = c.regs; bytes = with_number c.bytes n x v })) met.address)

  -- of an access its own premises, and those of the rest
  one_leads : (works : ℕ → Bool) (Allows : Option Event → Type 0) (i : Instr) (a : ℕ) (F M : Type 0)
      → is_straight works i ≡ true → IsAt code p i → fit_and Allows i a F → met_and i a c M
      → Leads code 1 (state_at p c) (record { pc = p; event = event_of i a } ∷ []) (state_at (p + 4) (after i a c))
  one_leads works Allows (Upper Lui rd immediate) a F M ok at fit met =
      arrives _ _ _ _ (upper_leads code (state_at p c) Lui rd immediate at) refl (valued rd _)
  one_leads works Allows (Immediate operation rd rs1 immediate) a F M ok at fit met =
      arrives _ _ _ _ (immediate_leads code (state_at p c) operation rd rs1 immediate at) refl (valued rd _)
  one_leads works Allows (Shift operation rd rs1 amount) a F M ok at fit met =
      arrives _ _ _ _ (shift_leads code (state_at p c) operation rd rs1 amount at) refl (valued rd _)
  one_leads works Allows (Register operation rd rs1 rs2) a F M ok at fit met =
      arrives _ _ _ _ (register_leads code (state_at p c) operation rd rs1 rs2 at) refl (valued rd _)
  one_leads works Allows (Load operation rd rs1 offset) a F M ok at fit met =
      loads operation rd rs1 offset a at fit.0.even met.0
  one_leads works Allows (Store operation rs2 rs1 offset) a F M ok at fit met =
      stores operation rs2 rs1 offset a at fit.0.even met.0
  one_leads works Allows i a F M ok at fit met = absurd (false≢true ok)

-- what is asked of the first instruction alone

pub first_fit : (Allows : Option Event → Type 0) (i : Instr) (a : ℕ) (F : Type 0) → fit_and Allows i a F
    → fit_and Allows i a (Unit {0})
first_fit Allows (Load operation rd rs1 offset) a F fit = (fit.0, tt)
first_fit Allows (Store operation rs2 rs1 offset) a F fit = (fit.0, tt)
first_fit Allows i a F fit = tt

pub first_met : (i : Instr) (a : ℕ) (c : Contents) (M : Type 0) → met_and i a c M → met_and i a c (Unit {0})
first_met (Load operation rd rs1 offset) a c M met = (met.0, tt)
first_met (Store operation rs2 rs1 offset) a c M met = (met.0, tt)
first_met i a c M met = tt

-- what is asked of the rest

pub rest_fit : (Allows : Option Event → Type 0) (i : Instr) (a : ℕ) (F : Type 0) → fit_and Allows i a F → F
rest_fit Allows (Load operation rd rs1 offset) a F fit = fit.1
rest_fit Allows (Store operation rs2 rs1 offset) a F fit = fit.1
rest_fit Allows i a F fit = fit

pub rest_met : (i : Instr) (a : ℕ) (c : Contents) (M : Type 0) → met_and i a c M → M
rest_met (Load operation rd rs1 offset) a c M met = met.1
rest_met (Store operation rs2 rs1 offset) a c M met = met.1
rest_met i a c M met = met

-- The machine on straight-line code.
pub straight_code_leads : (works : ℕ → Bool) (Allows : Option Event
    → Type 0) (code : MachineCode) (p : ℕ) (is : List Instr) (places : List ℕ) (c : Contents)
    → are_straight works is ≡ true → Placed code p is → AreFit Allows is places → AreMet is places c
    → Leads code (length is) (state_at p c) (shown_by p is places)
    (state_at (p + 4 * length is) (after_all is places c))
straight_code_leads works Allows code p [] places c plain placed fit met =
    let e : p ≡ p + 4 * 0 = omega arith in
    subst (λ q. Leads code 0 (state_at p c) [] (state_at q c)) e stays
straight_code_leads works Allows code p (i ∷ is) places c plain placed fit met =
    let ok = both_left _ _ plain in
    let a = next_of places in
    let one = one_leads code p placed.1 c works Allows i a _ _ ok
    (record { aligned = placed.0; word = placed.2; in_range = range works i ok }) fit met in
    let more = straight_code_leads works Allows code (p + 4) is (left_by i places) (after i a c)
    (both_right (is_straight works i) (are_straight works is) plain) placed.3 (rest_fit Allows i a _ fit)
    (rest_met i a c _ met) in
    let behind : p + 4 + 4 * length is ≡ p + 4 * suc (length is) = omega arith in
    let count : 1 + length is ≡ suc (length is) = omega arith in
    rw (behind, count) at (Leads-append one more)

-- What an instruction shows is allowed.
pub one_allowed : (Allows : Option Event → Type 0) → Allows None → (i : Instr) (a : ℕ) (F : Type 0)
    → fit_and Allows i a F → Allows (event_of i a)
one_allowed Allows silence (Load operation rd rs1 offset) a F fit = fit.0.allowed
one_allowed Allows silence (Store operation rs2 rs1 offset) a F fit = fit.0.allowed
one_allowed Allows silence i a F fit = silence
