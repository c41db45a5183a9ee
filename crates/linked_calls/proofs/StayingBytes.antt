-- What a machine stores are bytes, so data that is bytes stays so, step by step.
use Rattle.std.proofs.Common.{ℕ, ◌%◌, ◌==◌, Bool, true, false, if◌then◌else◌, List, Option, Some, None, sym, subst}
use Rattle.linked_calls.proofs.Below.{AreBytes, goes_on, MachineCode, next, number_at, Observation, State, Step}
use Rattle.linked_calls.proofs.ByteData.{number_stays}
use Rattle.linked_calls.specs.Below.{Event}
use Rattle.expression_code.specs.program_logic.MachineSteps.{LeadsBy, stays_by, steps_by}
use Rattle.rv_code.specs.declared.operations.LoadOperation.{LoadOperation}
use Rattle.rv_machine.proofs.Face.{moved_to-bytes, with_link-bytes, with_value-bytes}
use Rattle.rv_machine.specs.Effects.{effect_of, load_size, store_size}
use Rattle.rv_machine.specs.Sizes.{byte_count}
use Rattle.rv_machine.specs.Machine.{ending_of, executes, here, loaded, StepEnding, stored, stops, with_link}
use Rattle.rv_machine.specs.Machine.{with_stored, with_value}
unfoldable use Rattle.rv_machine.specs.Machine.{ending_by, moved_to, with_stored_after}
use Rattle.rv_machine.specs.declared.effects.Effect.{Effect}
use Rattle.rv_machine.specs.declared.effects.Effect.TheVariants.{Branches, Breaks, Calls, Computes, Divides, Jumps, Loads}
use Rattle.rv_machine.specs.declared.effects.Effect.TheVariants.{Multiplies, Passes, Stores}
use Rattle.rv_machine.specs.declared.memory.Size.{Size}
use Rattle.rv_machine.specs.declared.memory.Size.TheVariants.{Word}
use Rattle.rv_machine.specs.declared.stops.Stop.TheVariants.{Misaligned}
use Rattle.word.specs.declared.profile.Profile.{Profile}

-- data is bytes, where a step goes on
abbrev HasBytes : StepEnding → Type 0
HasBytes (goes_on o t) = AreBytes t.bytes
HasBytes (stops list stop) = Unit {0}

module _ (s : State) (are : AreBytes s.bytes) where
  value_has : (rd value : ℕ) → AreBytes (with_value s rd value).bytes
  value_has rd value = subst AreBytes (sym (with_value-bytes s rd value)) are

  moved_has : (target : ℕ) → AreBytes (moved_to s target).bytes
  moved_has target = subst AreBytes (sym (moved_to-bytes s target)) are

  link_has : (rd target : ℕ) → AreBytes (with_link s rd target).bytes
  link_has rd target = subst AreBytes (sym (with_link-bytes s rd target)) are

  store_has : (n : Size) (a value : ℕ) → AreBytes (with_stored s n a value).bytes
  unfolding with_stored_after
  store_has n a value = number_stays s.bytes (byte_count n) a value are

  if_has : (b : Bool) (one other : StepEnding) → HasBytes one → HasBytes other → HasBytes (if b then one else other)
  if_has true one other first second = first
  if_has false one other first second = second

  loaded_has : (operation : LoadOperation) (a rd : ℕ) (found : Option ℕ) → HasBytes (loaded Word s operation a rd found)
  loaded_has operation a rd (Some value) = value_has rd _
  loaded_has operation a rd None = tt

  stored_has : (n : Size) (a value : ℕ) (found : Option ℕ) → HasBytes (stored Word s n a value found)
  stored_has n a value (Some old) = store_has n a value
  stored_has n a value None = tt

  ending_has : (profile : Profile) (effect : Effect) → HasBytes (ending_of profile effect s)
  unfolding ending_by
  ending_has profile (Computes rd value) = value_has rd value
  ending_has profile (Multiplies rd a b value) = value_has rd value
  ending_has profile (Divides rd a b value) = value_has rd value
  ending_has profile (Jumps rd target) = if_has (target % 4 == 0) _ _ (link_has rd target) tt
  ending_has profile (Branches target) = if_has (target % 4 == 0) _ _ (moved_has target) tt
  ending_has profile Passes = moved_has (next s)
  ending_has profile (Loads operation rd a) =
      let n = byte_count (load_size operation) in
      if_has (a % n == 0) (loaded Word s operation a rd (number_at s.bytes n a)) (stops (here s) Misaligned)
      (loaded_has operation a rd (number_at s.bytes n a)) tt
  ending_has profile (Stores operation a value) =
      let n = byte_count (store_size operation) in
      if_has (a % n == 0) (stored Word s (store_size operation) a value (number_at s.bytes n a)) (stops (here s) Misaligned)
      (stored_has (store_size operation) a value (number_at s.bytes n a)) tt
  ending_has profile Calls = tt
  ending_has profile Breaks = tt

step_has : {code : MachineCode} {s t : State} {o : Observation} → AreBytes s.bytes → Step code s (goes_on o t)
    → AreBytes t.bytes
step_has {code = code} {s = s} are (executes i aligned word is ending) =
    subst HasBytes (sym ending) (ending_has s are code.profile (effect_of i s.pc s.regs))

pub bytes_stay : {code : MachineCode} {Each : State → Option Event → State → Type 0} {n : ℕ} {s t : State}
    {list : List Observation} → AreBytes s.bytes → LeadsBy code Each n s list t → AreBytes t.bytes
bytes_stay are stays_by = are
bytes_stay are (steps_by step each rest) = bytes_stay (step_has are step) rest
