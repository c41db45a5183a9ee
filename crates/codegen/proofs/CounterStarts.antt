-- What a loop begins from that is certain to make an iteration: all is shown but its counter, whose home gets a number
-- before anything reads it.
use Rattle.std.proofs.Common.{◌≡◌, ℕ, ◌^◌, ◌<◌, false, Some, slice_get}
use Rattle.codegen.proofs.CountingRuns.{HoldsCount, numbered}
use Rattle.codegen.proofs.Language.{counted, counter_type, StraightState, word_as}
use Rattle.codegen.proofs.Logic.{Before, HeldAt, HomesKept, Ready, Setting}
use Rattle.codegen.proofs.Machine.{home_of}
use Rattle.codegen.proofs.Slots.{ready_with}
use Rattle.rv_machine.specs.Machine as machine

-- what is so of such a state: it is one where the counter is shown too, and stays one where only other registers change
pub record IsStart (z : Setting) (Start : Before) : Type 0 where
  pub held : (env : StraightState) (s : machine.State) → Start env s → HeldAt z s
  pub shown : (env : StraightState) (s : machine.State) → Ready z env s → Start env s
  pub moved : (env : StraightState) (s t : machine.State) → Start env s → HeldAt z t → t.bytes ≡ s.bytes
      → HomesKept z s t → Start env t

-- where the home gets a number, the counter has that, and all is shown
abbrev pub Numbers : (z : Setting) (depth x h : ℕ) → slice_get z.declared x ≡ Some (word_as counter_type false)
    → home_of z.allocation.homes x ≡ Some h → Before → Type 0
Numbers z depth x h known at Start = (v w : ℕ) → w < 2 ^ 32 → (env : StraightState) (s t : machine.State)
    → Start env s → HoldsCount z depth x h known at v s t → v ≡ w → Ready z (counted x w env) t

pub ready_starts : (z : Setting) → IsStart z (Ready z)
ready_starts z = record {
  held = λ env s ready. ready.held;
  shown = λ env s ready. ready;
  moved = λ env s t ready held same homes. ready_with z env s t ready held same homes;
}

pub ready_numbers : (z : Setting) (depth x h : ℕ) (known : slice_get z.declared x ≡ Some (word_as counter_type false))
    (at : home_of z.allocation.homes x ≡ Some h) → Numbers z depth x h known at (Ready z)
ready_numbers z depth x h known at v w small env s t ready done is =
    numbered z depth x h known at {v = v} {w = w} small env s t ready done is
