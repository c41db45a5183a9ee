-- What a step reads and writes are its own bytes: among others it is the same step.
use Rattle.std.specs.Prelude.{nat_eq, is_some}
use Rattle.std.proofs.Common.{◌≡◌, ℕ, zero, suc, ◌+◌, ◌%◌, Bool, true, false, cond, List, Option, Some, None, refl, sym}
use Rattle.std.proofs.Common.{ap, ◌∙◌}
use Rattle.std.proofs.lemmas.Bool.{both_ways}
use Rattle.rv_machine.specs.declared.effects.Effect.{Effect}
use Rattle.rv_machine.specs.declared.effects.Effect.TheVariants.{Jumps, Branches, Loads, Stores, Calls, Breaks}
use Rattle.rv_machine.specs.declared.memory.Size.{Size}
use Rattle.rv_machine.specs.declared.memory.Size.TheVariants.{Word}
use Rattle.rv_machine.specs.declared.observation.Observation.{Observation}
use Rattle.rv_machine.specs.declared.stops.Stop.{Stop}
use Rattle.rv_machine.specs.declared.stops.Stop.TheVariants.{AccessFault}
use Rattle.rv_machine.specs.Apart.{Covers, Changes}
use Rattle.rv_machine.specs.Bytes.{ByteMap, number_at, with_number}
use Rattle.rv_machine.specs.Effects.{effect_of, load_size, store_size}
use Rattle.rv_machine.specs.Machine.{State, MachineCode, StepEnding, goes_on, stops, loaded, stored, with_value_after}
use Rattle.rv_machine.specs.Machine.{with_stored_after, with_link_after, moved_to, ending_by, ending_of, Step}
use Rattle.rv_machine.specs.Machine.{pc_misaligned, not_code}
use Rattle.rv_machine.specs.Machine.{no_instruction, executes}
use Rattle.rv_machine.specs.Sizes.{byte_count}
use Rattle.rv_machine.specs.Below.{Profile}
use Rattle.rv_machine.proofs.ByteLaws.{is_inside, is_outside, place, with_number_inside, with_number_outside}
use Rattle.rv_machine.proofs.ByteLaws.{joined_parts, some_within, is_some-with_number}

-- Numbers.

-- a number in its own bytes is there among others
number_at_covered : (own bytes : ByteMap) → Covers own bytes → (n a : ℕ) → is_some (number_at own n a) ≡ true
    → number_at bytes n a ≡ number_at own n a
unfolding number_at
number_at_covered own bytes covers zero a there = refl
number_at_covered own bytes covers (suc n) a there =
    let parts = joined_parts (own a) (number_at own n (a + 1)) there in
    rw (covers a parts.0, number_at_covered own bytes covers n (a + 1) parts.1)

-- a number that is put over one in its own bytes
put_changes : (own bytes : ByteMap) → Covers own bytes → (n a v : ℕ) → is_some (number_at own n a) ≡ true
    → Changes own bytes (with_number own n a v) (with_number bytes n a v)
put_changes own bytes covers n a v there = record {
  covers = λ x some. elim (place a n x) [
    | is_inside is from to ↦ let put = with_number_inside n a v x from to in put.1 bytes ∙ sym (put.1 own)
    | is_outside is out ↦
        let kept = with_number_outside own n a v x out in
        with_number_outside bytes n a v x out ∙ covers x (ap is_some (sym kept) ∙ some) ∙ sym kept
  ];
  extent = λ x. is_some-with_number own n a v x there;
  elsewhere = λ x none. elim (place a n x) [
    | is_inside is from to ↦ absurd (both_ways _ none (some_within own n a x there from to))
    | is_outside is out ↦ with_number_outside bytes n a v x out
  ];
}

pub changes_nothing : (own bytes : ByteMap) → Covers own bytes → Changes own bytes own bytes
changes_nothing own bytes covers = record { covers = covers; extent = λ x. refl; elsewhere = λ x none. refl }

-- Steps.

-- the same state over other bytes
abbrev pub over : ByteMap → State → State
over bytes s = record { pc = s.pc; regs = s.regs; bytes = bytes }

-- a step over its own bytes, and over more
pub data IsSameStep (s : State) (bytes : ByteMap) : StepEnding → StepEnding → Type 0 where
  both_go : {o : Observation} {t t' : State} → t'.pc ≡ t.pc → t'.regs ≡ t.regs → Changes s.bytes bytes t.bytes t'.bytes
      → IsSameStep s bytes (goes_on o t) (goes_on o t')
  both_stop : {seen : List Observation} {stop : Stop} → IsSameStep s bytes (stops seen stop) (stops seen stop)
  reaches_out : {seen : List Observation} {other : StepEnding} → IsSameStep s bytes (stops seen AccessFault) other

either_same : {s : State} {bytes : ByteMap} {e f e' f' : StepEnding} (b : Bool) → IsSameStep s bytes e e'
    → IsSameStep s bytes f f' → IsSameStep s bytes (cond b e f) (cond b e' f')
either_same true one other = one
either_same false one other = other

module _ (s : State) (bytes : ByteMap) (covers : Covers s.bytes bytes) where
  load_same : (operation : _) (a rd n : ℕ) (value : Option ℕ) → number_at s.bytes n a ≡ value
      → IsSameStep s bytes (loaded Word s operation a rd value)
      (loaded Word (over bytes s) operation a rd (number_at bytes n a))
  unfolding with_value_after
  load_same operation a rd n (Some value) there =
      rw (number_at_covered s.bytes bytes covers n a (ap is_some there) ∙ there)
      (both_go refl refl (changes_nothing s.bytes bytes covers))
  load_same operation a rd n None none = reaches_out

  store_same : (size : Size) (a v : ℕ) (old : Option ℕ) → number_at s.bytes (byte_count size) a ≡ old
      → IsSameStep s bytes (stored Word s size a v old)
      (stored Word (over bytes s) size a v (number_at bytes (byte_count size) a))
  unfolding with_stored_after
  store_same size a v (Some old) there =
      rw (number_at_covered s.bytes bytes covers (byte_count size) a (ap is_some there) ∙ there)
      (both_go refl refl (put_changes s.bytes bytes covers (byte_count size) a v (ap is_some there)))
  store_same size a v None none = reaches_out

  effect_same : (profile : Profile) (e : Effect)
      → IsSameStep s bytes (ending_of profile e s) (ending_of profile e (over bytes s))
  unfolding ending_by with_value_after with_link_after moved_to
  effect_same profile (Jumps rd target) =
      either_same (nat_eq (target % 4) 0) (both_go refl refl (changes_nothing s.bytes bytes covers)) both_stop
  effect_same profile (Branches target) =
      either_same (nat_eq (target % 4) 0) (both_go refl refl (changes_nothing s.bytes bytes covers)) both_stop
  effect_same profile (Loads operation rd a) =
      let n = byte_count (load_size operation) in
      either_same (nat_eq (a % n) 0) (load_same operation a rd n (number_at s.bytes n a) refl) both_stop
  effect_same profile (Stores operation a value) =
      let n = byte_count (store_size operation) in
      either_same (nat_eq (a % n) 0) (store_same (store_size operation) a value (number_at s.bytes n a) refl) both_stop
  effect_same profile Calls = both_stop
  effect_same profile Breaks = both_stop
  effect_same profile _ = both_go refl refl (changes_nothing s.bytes bytes covers)

  -- the step over more bytes
  pub step_same : (code : MachineCode) (e : StepEnding) → Step code s e
      → (e' : StepEnding) × Step code (over bytes s) e' × IsSameStep s bytes e e'
  step_same code e (pc_misaligned odd) = (_, pc_misaligned odd, both_stop)
  step_same code e (not_code even none) = (_, not_code even none, both_stop)
  step_same code e (no_instruction even is misfit) = (_, no_instruction even is misfit, both_stop)
  step_same code e (executes i even is ok ends) =
      (_, executes i even is ok refl, rw ends (effect_same code.profile (effect_of i s.pc s.regs)))
