-- The code that sets an element of an array where a control value is true.
use Rattle.std.proofs.Common.{◌≡◌, ℕ, ◌+◌, ◌*◌, ◌%◌, ◌^◌, ◌<◌, ◌≤◌, ◌==◌, false, if◌then◌else◌, [], ◌∷◌, ◌++◌, Some}
use Rattle.std.proofs.Common.{slice_index, refl, sym, ap, ◌∙◌, subst, arith, inl, inr}
use Rattle.codegen.proofs.Language.{FlatVariable, StraightState, with_element, TermTree, array_as}
use Rattle.codegen.proofs.Language.{term_nodes, value_in, after, IsElementSet, Kind, bits_of, Place, types_of}
use Rattle.codegen.proofs.Logic.{lower_fits, steps_of, homes_beside, load_bytes, load_plain, loading, place_of}
use Rattle.codegen.proofs.Logic.{layout_of}
use Rattle.codegen.proofs.Logic.{place_even, place_ends, Setting, base_of, none, Runs, gives, cheaper, as_code}
use Rattle.codegen.proofs.Logic.{number_or_zero, Ready, Fetched, free_from, weaken}
use Rattle.codegen.proofs.Machine.{code_by, near_place, NearPlace, slots_to, load_by, number_at, sign_extended, sum_of}
use Rattle.codegen.proofs.Machine.{put_under_code, put_under_near_code, statement_code}
use Rattle.codegen.proofs.Machine.{control_location, is_unread, Location, lower_part, address_of, index_code}
use Rattle.codegen.proofs.Machine.{read_register, height_of_put}
use Rattle.rv_code.specs.declared.instructions.Instr.TheVariants as instr
use Rattle.branch_removal.specs.Straight as straight
use Rattle.codegen.proofs.Slots.{StateShown, suits_fits, ready_with, read_source, source_apart, hidden_by}
use Rattle.codegen.proofs.Masks.{mask_apart, mask_free, mask_register}
use Rattle.codegen.proofs.Elements.{ElementAccess, addressed_at, at_element, away, kind_is, lies, stores, value_beside}
use Rattle.codegen.proofs.Elements.{value_source, put_by, Puts, put_access}
use Rattle.codegen.proofs.Elements.{At, base_small, Reached, stores_near}
use Rattle.codegen.specs.Below.{register}
use Rattle.std.proofs.Common.{◌≢◌}
use Rattle.codegen.proofs.UnderRuns.{number_under, read_begun, merges}
use Rattle.codegen.proofs.Logic.{AreOfKinds}
use Rattle.expression_code.proofs.Moves.{is_left, is_written}

module _ (z : Setting) (depth : ℕ) (place : Place) (x size : ℕ) (index value : TermTree)
    (typed : IsElementSet z.code.profile z.declared x size index value)
    (room : base_of z + 4 * slots_to z.allocation.count (height_of_put index value) ≤ z.size)
    (within : depth ≤ z.depths) (c : ℕ) (among : c < z.controls) (read : is_unread z.allocation c ≡ false) where
  abbrev access : ElementAccess z
  access = put_access z depth within place x size index typed value typed.suits.word typed.suits.has_type room

  abbrev kind : Kind
  kind = typed.word.kind

  abbrev array : FlatVariable
  array = array_as typed.word typed.mutable size

  abbrev offset : ℕ
  offset = access.offset

  -- where an element lies
  abbrev place_at : ℕ → ℕ
  place_at i = place_of z.laid x array i

  abbrev new_value : StraightState → ℕ
  new_value env = value_in env.variables value

  new_fits : (env : StraightState) → AreOfKinds (types_of z.code.profile z.declared) env.variables
      → new_value env < 2 ^ bits_of kind
  new_fits env all = suits_fits z.code.profile z.declared typed.word value env.variables all typed.suits

  -- where the mask is
  abbrev control_at : Location
  control_at = control_location (layout_of z) c

  -- an element comes into a register, from an address that is in another
  old_runs : (i rs field q : ℕ) → i < size → rs < 32 → field < 4096 → 4 < q → q < 32
      → Runs z 1 none (instr.Load (load_by kind) q rs field ∷ [])
      (λ env s. Ready z env s × (address_of s.regs rs field ≡ z.frame + place_at i))
      (λ env s t. Fetched z q q (slice_index (env.variables x) i) s t)
  old_runs i rs field q below small fits low high =
      let n = load_bytes kind in
      weaken
      (λ env s fine given. (given.0.held, given.1))
      (λ env s t fine given load. record {
        held = load.0;
        there = is_written s.regs q _ load.1.regs (omega arith)
            ∙ (load_plain kind _ ∙ ap number_or_zero (ap (λ k. number_at s.bytes k (z.frame + place_at i)) n
            ∙ given.0.variables_there x array i typed.known (away z access) below));
        others = is_left s.regs q _ load.1.regs;
        same = load.1.bytes;
      })
      (loading z rs field (place_at i) small fits (load_by kind) q low high
      (ap (λ m. place_at i % m) n ∙ place_even z.laid x array i)
      (omega (arith, place_ends z x array i (lies z access) below)))

  -- at an index in a register
  under_far : Puts z access (Some c) value (index_code (layout_of z) access.part value
      ++ put_under_code (read_register z.allocation 5 access.part) (read_register z.allocation 6 value) control_at kind
      offset)
  under_far =
      let r = read_register z.allocation 6 value in
      let source = value_source z access in
      let k = mask_register z c 29 in
      let six = free_from 6 (omega arith) (omega arith) in
      let seven = free_from 7 (omega arith) (omega arith) in
      cheaper (omega arith)
      (at_element z access (λ env. after env (straight.put (Some c) place x size index value))
      (λ i below.
      gives
      (λ env s t fine aimed done. (
        done.hidden,
        λ is. subst (λ j. Ready z (if env.controls c then with_element env x j (new_value env) else env) t) (sym is)
            done.ready,
      ))
      (number_under z depth within c among read x i array typed.known (away z access) below new_value new_fits
      {New = λ regs v. regs r ≡ v} {Aims = λ regs. address_of regs 5 (lower_part offset) ≡ z.frame + place_at i} 7 29 6
      (omega arith) (omega arith) (free_from 29 (omega arith) (omega arith)) six (omega arith)
      (inr (omega arith))
      (λ regs after v same there. same r (source_apart z source 7 (omega arith) (omega arith)) (omega arith) ∙ there)
      (λ regs after same aims. ap (λ b. sum_of b (sign_extended 12 (lower_part offset)))
      (same 5 (omega arith) (omega arith) (omega arith)) ∙ aims)
      (old_runs i 5 (lower_part offset) 7 below (omega arith) (lower_fits offset) (omega arith) (omega arith))
      (merges (λ q. q == 6) 6 6 7 k refl refl six six seven (mask_free z c 29 (omega arith) (omega arith))
      (omega arith) (mask_apart z c 29 6 (omega arith) (omega arith)) r
      (free_from r (omega arith) (omega arith)))
      (stores z access 6 (omega arith) (omega arith) i below)
      (gives
      (λ env s t fine aimed one. (
        (
          ready_with z env s t aimed.ready one.held one.same (homes_beside z 5 s t refl one.others),
          hidden_by z depth s t one.same,
          one.others r (value_beside z access) (omega arith) ∙ aimed.six,
        ),
        one.address,
      ))
      (addressed_at z access i below)))))

  -- where the load and the store reach the element at once
  under_near : (near : NearPlace) → Reached z access near → (i : ℕ) → i < size
      → Runs z (16 * term_nodes value + 10) (steps_of value)
      (put_under_near_code (layout_of z) control_at kind near value) (At z access i)
      (StateShown z depth (λ env. if env.controls c then with_element env x i (new_value env) else env))
  under_near near reached i below =
      let r = read_register z.allocation 5 value in
      let source = read_source z value 5 (omega arith) (omega arith) in
      let k = mask_register z c 7 in
      let five = free_from 5 (omega arith) (omega arith) in
      let six = free_from 6 (omega arith) (omega arith) in
      cheaper (omega arith)
      (number_under z depth within c among read x i array typed.known (away z access) below new_value new_fits
      {New = λ regs v. regs r ≡ v} {Aims = λ regs. address_of regs near.base near.offset ≡ z.frame + place_at i} 6 7 5
      (omega arith) (omega arith)
      (free_from 7 (omega arith) (omega arith)) five (omega arith) (inl (omega arith))
      (λ regs after v same there. same r (source_apart z source 6 (omega arith) (omega arith))
      (source_apart z source 7 (omega arith) (omega arith)) ∙ there)
      (λ regs after same aims. ap (λ b. sum_of b (sign_extended 12 near.offset))
      (read_same regs after near.base (same near.base (beside 6 (omega arith) (omega arith))
      (beside 7 (omega arith) (omega arith)) (beside 5 (omega arith) (omega arith)))) ∙ aims)
      (old_runs i near.base near.offset 6 below (omega (arith, base_small z access near reached))
      (omega (arith, reached.near)) (omega arith) (omega arith))
      (merges (λ q. q == 5) 5 5 6 k refl refl five five six (mask_free z c 7 (omega arith) (omega arith))
      (omega arith) (mask_apart z c 7 5 (omega arith) (omega arith)) r
      (free_from r source.low (omega arith)))
      (stores_near z access 5 (omega arith) i below near (base_small z access near reached) reached.near)
      (gives {P = At z access i}
      (λ env s t fine given done. (done, reached.at i below env t done.0 given.is))
      (weaken {P' = At z access i} (λ env s fine given. given.given) (λ env s t fine given done. done)
      (read_begun z depth within c among read typed.suits.has_type (omega arith)))))
    where
      -- the base is no temporary
      beside : (q : ℕ) → 4 < q → q < 8 → near.base ≢ q
      beside q low high e =
          elim reached.base [
            | inl frame ↦ omega (arith, frame, low, e)
            | inr home ↦ omega (arith, z.allocated.some, home.0, high, e)
          ]

      read_same : (regs after : ℕ → ℕ) (r : ℕ) → after r ≡ regs r → register after r ≡ register regs r
      read_same regs after r same = ap (λ v. if r == 0 then 0 else v) same

  pub put_under_runs : Puts z access (Some c) value (statement_code (layout_of z) depth
      (straight.put (Some c) place x size index value))
  put_under_runs =
      as_code
      (ap (λ k. code_by (near_place z.laid z.allocation x index)
      (λ near. put_under_near_code (layout_of z) control_at k near value)
      (index_code (layout_of z) access.part value
      ++ put_under_code (read_register z.allocation 5 access.part) (read_register z.allocation 6 value) control_at k offset))
      (kind_is z access))
      (put_by z access (Some c) value (omega arith)
      (λ near. put_under_near_code (layout_of z) control_at kind near value) under_near under_far)
