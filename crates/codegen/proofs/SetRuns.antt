-- The code that sets a variable, or gives the result.
use Rattle.std.proofs.Common.{◌≡◌, ℕ, ◌+◌, ◌*◌, ◌≤◌, ◌-◌, [], ◌∷◌, ◌++◌, Option, None, Some, refl, arith, ap, append-nil, sym}
use Rattle.codegen.proofs.Logic.{value_word, steps_of, Setting, base_of, Steps, Runs, gives, cheaper, idle, Ready}
use Rattle.codegen.proofs.Logic.{layout_of}
use Rattle.codegen.proofs.Logic.{as_code, quiet, wrote_there, home_beside, kept_less}
use Rattle.codegen.proofs.Language.{TermTree, nodes_work, value_in, path_of_result, term_nodes, value_nodes, types_of}
use Rattle.codegen.proofs.Language.{IsResult, StraightState, with_variable, IsSet, WordType}
use Rattle.codegen.proofs.Machine.{at_home, home_of, InSlot, mirror_by, mirror_code, mirror_of, set_code, result_code}
use Rattle.codegen.proofs.Machine.{result_height, variable_location}
use Rattle.codegen.proofs.Machine.{variable_offset, result_offset, slots_to, height_of}
use Rattle.rv_machine.specs.Machine as machine
use Rattle.codegen.proofs.Arguments.{Left}
use Rattle.codegen.proofs.Slots.{StateShown, homed_runs, suits_fits, ready_offered, ready_result, word_before, assigned}
use Rattle.codegen.proofs.Slots.{hidden_by, hidden_then, hidden_valued, hidden_kept, ready_set}
use Rattle.codegen.proofs.Mirroring.{mirror_runs, ready_mirrored}

module _ (z : Setting) where
  -- a variable is set, in its slot or in its home
  set_by : (depth x : ℕ) (value : TermTree) → IsSet z.code.profile z.declared x value
      → base_of z + 4 * slots_to z.allocation.count (height_of value) ≤ z.size → depth ≤ z.depths
      → (h : Option ℕ) → home_of z.allocation.homes x ≡ h
      → Runs z (32 * nodes_work (term_nodes value)) (steps_of value)
      (set_code (layout_of z) None (at_home h (InSlot (variable_offset z.laid x))) value
      ++ mirror_by h (mirror_of z.allocation x))
      (Ready z) (StateShown z depth (λ env. with_variable env x (value_in env.variables value ∷ [])))
  set_by depth x value typed room within None away =
      let o = variable_offset z.laid x in
      let before = word_before z x typed.word typed.mutable typed.known away in
      as_code (append-nil (set_code (layout_of z) None (InSlot o) value))
      (cheaper (omega arith)
      (gives
      (λ env s t fine ready done.
      let m = done.middle in
      let v = value_in env.variables value in
      let fits = suits_fits z.code.profile z.declared typed.word value env.variables ready.fits typed.suits in
      record {
        ready = ready_set z x v typed.word typed.mutable typed.known away fits env m t
            (ready_offered z value env s m ready done.first) done.second;
        hidden = hidden_valued z depth within value env 4 o v s m t (omega (arith, before)) done.first done.second;
      })
      (assigned z o typed.suits.has_type room (omega arith) (omega (arith, before, z.room)))))
  set_by depth x value typed room within (Some home) at =
      let is = z.allocated.allowed x home at in
      cheaper (omega arith)
      (gives
      (λ env s t fine ready done.
      let m = done.middle in
      let one = done.first in
      let v = value_in env.variables value in
      let fits = suits_fits z.code.profile z.declared typed.word value env.variables ready.fits typed.suits in
      let kept = kept_less z (base_of z) (base_of z + 4 * (0 - z.allocation.count)) s m (omega arith) one.kept in
      record {
        ready = ready_mirrored z x home v typed.word typed.mutable typed.known at fits env s m t ready kept one.there
            (λ r other apart. one.lower r (home_beside z.allocation.count 0 home r other.0 other.1 apart)) done.second;
        hidden = hidden_then z depth s m t (hidden_kept z depth s m within kept) (hidden_by z depth m t done.second.same);
      })
      (quiet (homed_runs z home is typed.suits.has_type room)
      (as_code (ap (λ h. mirror_by h (mirror_of z.allocation x)) (sym at)) (mirror_runs z x))
      (λ env s t ready done. done.held)))

  pub set_runs : (depth x : ℕ) (value : TermTree) → IsSet z.code.profile z.declared x value
      → base_of z + 4 * slots_to z.allocation.count (height_of value) ≤ z.size → depth ≤ z.depths
      → Runs z (32 * nodes_work (term_nodes value)) (steps_of value)
      (set_code (layout_of z) None (variable_location z.laid z.allocation x) value ++ mirror_code z.allocation x)
      (Ready z) (StateShown z depth (λ env. with_variable env x (value_in env.variables value ∷ [])))
  set_runs depth x value typed room within =
      set_by depth x value typed room within (home_of z.allocation.homes x) refl

-- Without a result there is no code.

-- what a result puts on the path
abbrev pub steps_of_result : Option TermTree → Steps
steps_of_result value env = path_of_result env.variables value

-- the variables are as they were, and the result is in its slot
pub record ResultGiven (z : Setting) (value : Option TermTree) (env : StraightState)
    (s t : machine.State) : Type 0 where
  pub ready : Ready z env t
  pub left : Left z.frame z.laid value env.variables t.bytes

pub result_runs : (z : Setting) (returned : Option WordType) (value : Option TermTree)
    → IsResult (types_of z.code.profile z.declared) returned value
    → base_of z + 4 * slots_to z.allocation.count (result_height value) ≤ z.size
    → Runs z (32 * value_nodes value) (steps_of_result value) (result_code (layout_of z) value)
    (Ready z) (ResultGiven z value)
result_runs z returned None typed room =
    idle (λ env s ready. record { ready = ready; left = tt })
result_runs z None (Some value) typed room = absurd typed
result_runs z (Some word) (Some value) typed room =
    let o = result_offset z.laid in
    cheaper (omega arith)
    (gives
    (λ env s t fine ready done.
    let m = done.middle in
    let v = value_in env.variables value in
    record {
      ready = ready_result z env m t v (ready_offered z value env s m ready done.first) done.second;
      left = wrote_there z o v m t done.second
          (value_word z.code.profile z.declared value typed.word env.variables ready.fits typed.has_type);
    })
    (assigned z o typed.has_type room (omega arith) (omega (arith, z.room))))
