-- The code that sets an element of an array, or fills an array with values.
use Rattle.std.proofs.Common.{◌≡◌, ℕ, ◌+◌, ◌*◌, ◌%◌, ◌<◌, ◌≤◌, ◌==◌, Bool, List, [], ◌∷◌, ◌++◌, inl, inr, length, map}
use Rattle.std.proofs.Common.{None, Some, slice_get, refl, sym, ap, ◌∙◌, subst, arith, eq-eqb, append_assoc}
use Rattle.std.proofs.Common.{length-append}
use Rattle.std.proofs.lemmas.Bool.{cases_Bool, cond_both}
use Rattle.std.proofs.lemmas.Option.{none-some}
use Rattle.std.specs.Prelude.{slice_set}
use Rattle.std.proofs.Math.Seq.{set-append_seam}
use Rattle.codegen.proofs.Language.{FlatVariable, with_value, StraightState, with_variable, with_element, element_bytes}
use Rattle.codegen.proofs.Language.{TermTree, array_as, path_in_all, term_nodes, terms_nodes, types_but, Values}
use Rattle.codegen.proofs.Language.{value_in, path_in, types_of, AllSuit, indexed, value_at, IsFilled, WordType}
use Rattle.codegen.proofs.Language.{TermSuits, array, after, path_at, IsElementSet, Kind, Place, Profile}
use Rattle.codegen.proofs.Logic.{eqb-true, nil_from_length, but_among, suits_among, one_path_all, all_values, steps_of}
use Rattle.codegen.proofs.Logic.{layout_of}
use Rattle.codegen.proofs.Logic.{array_lies}
use Rattle.codegen.proofs.Logic.{kind_known, homes_beside, Held, place_of, place_even, place_before, place_ends}
use Rattle.codegen.proofs.Logic.{Setting, base_of, none, Runs, seq, quiet, gives, cheaper, beside, along, as_code, idle}
use Rattle.codegen.proofs.Logic.{height, Ready, Wrote}
use Rattle.branch_removal.specs.Straight as straight
use Rattle.codegen.proofs.Machine.{store_by, put_code, slots_to, Instr, element_store_code, statement_code}
use Rattle.codegen.proofs.Machine.{variable_offset, fill_code, height_of, index_code, read_register, height_of_all}
use Rattle.codegen.proofs.Machine.{stored_register, height_of_put}
use Rattle.codegen.proofs.Slots.{StateShown, suits_fits, wrote_as, hidden_valued, hidden_then, ready_same, ready_put}
use Rattle.codegen.proofs.Slots.{offered_put, offered_low, offered_runs, ready_offered}
use Rattle.codegen.specs.Below.{register}
use Rattle.codegen.specs.private.Emitted.{into_element_code, into_near_code, put_value_code}
use Rattle.codegen.proofs.Machine.{NearPlace}
use Rattle.codegen.proofs.Logic.{weaken}
use Rattle.codegen.proofs.Elements.{At, base_small, Reached, stores_near}
use Rattle.codegen.specs.private.StoredValues.{stored_value}
use Rattle.codegen.proofs.StoredValues.{IsCutTo, stored_cut, stored_height, stored_nodes, stored_path}
use Rattle.codegen.proofs.Elements.{ElementAccess, addressed_at, at_element, element_at, kind_is, put_at, store_bytes}
use Rattle.codegen.proofs.Elements.{put_access, stores, value_beside, value_source, put_by, Puts}

-- One element, at a fixed place.

-- what a register reads as into an element of a fixed place
pub offered_element : (z : Setting) (r : ℕ) → r < 28 → (kind : Kind) (o : ℕ)
    → o % element_bytes kind ≡ 0 → o + element_bytes kind ≤ z.size
    → Runs z 3 none (element_store_code r kind o) (Held z)
    (λ env s t. Wrote z (element_bytes kind) o (register s.regs r) s t)
offered_element z r low kind o even room =
    let bytes = store_bytes kind in
    gives
    (λ env s t fine held wrote. subst (λ n. Wrote z n o (register s.regs r) s t) bytes wrote)
    (offered_put z (store_by kind) r o low (ap (λ n. o % n) bytes ∙ even) (omega arith))

-- a value into an element of a fixed place
one_at : (z : Setting) (depth : ℕ) → depth ≤ z.depths → (x size : ℕ) (word : WordType) (mutable : Bool)
    → slice_get z.declared x ≡ Some (array_as word mutable size)
    → (k : ℕ) (e : TermTree) → k < size → TermSuits (types_of z.code.profile z.declared) word e
    → base_of z + 4 * slots_to z.allocation.count (height_of e) ≤ z.size
    → Runs z (16 * term_nodes e + 3) (steps_of e)
    (into_element_code (layout_of z) word.kind
    (place_of z.laid x (array_as word mutable size) k) (stored_value z.allocation word.kind e))
    (Ready z) (StateShown z depth (λ env. with_element env x k (value_in env.variables e)))
one_at z depth within x size word mutable known k e below suits room =
    let d = array_as word mutable size in
    let at = place_of z.laid x d k in
    let lies = array_lies z x size word mutable known in
    let n = element_bytes word.kind in
    let other = stored_value z.allocation word.kind e in
    let is_cut = stored_cut z.allocation word.kind suits.has_type in
    let height = stored_height z.allocation word.kind e in
    let r = stored_register z.allocation other in
    along (λ env. sym (stored_path z.allocation word.kind e env.variables))
    (cheaper (omega (arith, stored_nodes z.allocation word.kind e))
    (gives
    (λ env s t fine ready done.
    let m = done.middle in
    let v = value_in env.variables e in
    let w = value_in env.variables other in
    let fits = suits_fits z.code.profile z.declared word e env.variables ready.fits suits in
    let wrote = wrote_as z n at (register m.regs r) w m t done.first.there done.second in
    record {
      ready = ready_put z x k v w d known (z.allocated.words x d size known refl) below fits env m t
          (ready_offered z other env s m ready done.first) wrote (is_cut.cut env.variables fits);
      hidden = hidden_valued z depth within other env n at w s m t (omega (arith, place_before z x d k lies below))
          done.first wrote;
    })
    (quiet (offered_runs z is_cut.has_type (omega (arith, room, height)))
    (offered_element z r (offered_low z other) word.kind at (place_even z.laid x d k)
    (place_ends z x d k lies below))
    (λ env s t ready offered. offered.held))))

-- One element, at an index.

module _ (z : Setting) (depth : ℕ) (place : Place) (x size : ℕ) (index value : TermTree)
    (typed : IsElementSet z.code.profile z.declared x size index value)
    (room : base_of z + 4 * slots_to z.allocation.count (height_of_put index value) ≤ z.size)
    (within : depth ≤ z.depths) where
  abbrev kind : Kind
  kind = typed.word.kind

  -- what is put there for the value
  abbrev put_value : TermTree
  put_value = stored_value z.allocation kind value

  pub is_cut : IsCutTo (types_of z.code.profile z.declared) kind value put_value
  is_cut = stored_cut z.allocation kind typed.suits.has_type

  pub put_room : base_of z + 4 * slots_to z.allocation.count (height_of_put index put_value) ≤ z.size
  put_room = omega (arith, room, stored_height z.allocation kind value)

  abbrev access : ElementAccess z
  access = put_access z depth within place x size index typed put_value is_cut.word is_cut.has_type put_room

  abbrev number : StraightState → ℕ
  number env = value_in env.variables index

  -- where the index and the value are
  abbrev index_register : ℕ
  index_register = read_register z.allocation 5 access.part

  abbrev value_register : ℕ
  value_register = read_register z.allocation 6 put_value

  nodes : term_nodes put_value ≤ term_nodes value
  nodes = stored_nodes z.allocation kind value

  -- where the index is in a register
  put_far : Puts z access None value (index_code (layout_of z) access.part put_value
      ++ put_code index_register value_register kind access.offset)
  put_far =
      along (λ env. ap (λ p. path_in env.variables index ++ indexed place size (number env) ∷ p)
      (sym (stored_path z.allocation kind value env.variables)))
      (cheaper (omega (arith, nodes))
      (at_element z access (λ env. after env (straight.put None place x size index value))
      (λ i below.
      gives
      (λ env s t fine aimed done.
      let m = done.middle in
      let one = done.first in
      let v = value_in env.variables value in
      let w = value_in env.variables put_value in
      let six : m.regs value_register ≡ w =
      one.others value_register (value_beside z access) (omega (arith, (value_source z access).high)) ∙ aimed.six in
      let fits = suits_fits z.code.profile z.declared typed.word value env.variables aimed.ready.fits typed.suits in
      let end = put_at z access i v w below fits (is_cut.cut env.variables fits) env s m t aimed.ready one.held one.same
      (homes_beside z 5 s m refl one.others)
      (wrote_as z (element_bytes kind) (element_at z access i) (m.regs value_register) w m t six done.second) in
      (end.0, λ is. subst (λ j. Ready z (with_element env x j v) t) (sym is) end.1))
      (quiet (addressed_at z access i below)
      (stores z access value_register (omega (arith, (value_source z access).high))
      (omega (arith, (value_source z access).low)) i below)
      (λ env s t aimed done. (done.held, done.address))))))

  -- where the store reaches the element at once the value is read as a first temporary
  abbrev near_stored : NearPlace → List Instr
  near_stored place = into_near_code (layout_of z) kind place put_value

  near_one : (place : NearPlace) → Reached z access place → (i : ℕ) → i < size
      → Runs z (16 * term_nodes value + 1) (steps_of value) (near_stored place) (At z access i)
      (StateShown z depth (λ env. with_element env x i (value_in env.variables value)))
  near_one place reached i below =
      let r = stored_register z.allocation put_value in
      let d = array_as typed.word typed.mutable size in
      let lies = array_lies z x size typed.word typed.mutable typed.known in
      let at = element_at z access i in
      along (λ env. sym (stored_path z.allocation kind value env.variables))
      (cheaper (omega (arith, nodes))
      (gives {P = At z access i}
      (λ env s t fine given done.
      let m = done.middle in
      let v = value_in env.variables value in
      let w = value_in env.variables put_value in
      let ready = given.given in
      let fits = suits_fits z.code.profile z.declared typed.word value env.variables ready.fits typed.suits in
      let wrote = wrote_as z (element_bytes kind) at (register m.regs r) w m t done.first.there done.second in
      record {
        ready = ready_put z x i v w d typed.known (z.allocated.words x d size typed.known refl) below fits env m t
            (ready_offered z put_value env s m ready done.first) wrote (is_cut.cut env.variables fits);
        hidden = hidden_valued z depth within put_value env (element_bytes kind) at w s m t
            (omega (arith, place_before z x d i lies below)) done.first wrote;
      })
      (quiet
      (weaken {P' = At z access i} (λ env s fine given. given.given) (λ env s t fine given done. done)
      (offered_runs z is_cut.has_type (omega (arith, put_room))))
      (stores_near z access r (omega (arith, offered_low z put_value)) i below place (base_small z access place reached)
      reached.near)
      (λ env s t given offered. (
        offered.held,
        reached.at i below env t (ready_offered z put_value env s t given.given offered) given.is,
      )))))

  pub put_runs : Puts z access None value (statement_code (layout_of z) depth
      (straight.put None place x size index value))
  put_runs =
      as_code
      (ap (λ k. put_value_code (layout_of z) k x index (stored_value z.allocation k value))
      (kind_is z access))
      (put_by z access None value (omega arith) near_stored near_one put_far)

-- All elements, at fixed places.

-- a variable that is not known by its type is not read
unread : (profile : Profile) (declared : List FlatVariable) (x : ℕ) (m : Values) (l : List ℕ) (y : ℕ)
    (d : FlatVariable) → (types_but profile declared x).at y ≡ Some d → m y ≡ with_value m x l y
unread profile declared x m l y d known =
    elim (cases_Bool (y == x)) [ inl same ↦ absurd (none-some d (rw same at known)) | inr other ↦ rw other refl ]

module _ (z : Setting) (depth : ℕ) (within : depth ≤ z.depths) (x size : ℕ) (word : WordType) (mutable : Bool)
    (known : slice_get z.declared x ≡ Some (array_as word mutable size)) where
  abbrev d : FlatVariable
  d = array_as word mutable size

  abbrev at : ℕ → ℕ
  at k = place_of z.laid x d k

  -- one element is set, and then those after it
  abbrev step : ℕ → TermTree → StraightState → StraightState
  step k e env = with_element env x k (value_in env.variables e)

  abbrev filled : ℕ → List TermTree → StraightState → StraightState
  filled k [] env = env
  filled k (e ∷ es) env = filled (k + 1) es (step k e env)

  one_runs : (k : ℕ) (e : TermTree) → k < size → TermSuits (types_but z.code.profile z.declared x) word e
      → base_of z + 4 * slots_to z.allocation.count (height_of e) ≤ z.size
      → Runs z (16 * term_nodes e + 3) (steps_of e)
      (into_element_code (layout_of z) word.kind (at k) (stored_value z.allocation word.kind e))
      (Ready z) (StateShown z depth (step k e))
  one_runs k e below suits room =
      let every = suits_among (types_but z.code.profile z.declared x) (types_of z.code.profile z.declared)
      (but_among z.code.profile z.declared x) word e suits in
      one_at z depth within x size word mutable known k e below every room

  fill_from : (k o : ℕ) (es : List TermTree) → o ≡ at k → AllSuit (types_but z.code.profile z.declared x) word es
      → k + length es ≤ size → base_of z + 4 * slots_to z.allocation.count (height_of_all es) ≤ z.size
      → Runs z (32 * terms_nodes es) (λ env. path_in_all env.variables es)
      (fill_code (layout_of z) word.kind o es) (Ready z) (StateShown z depth (filled k es))
  fill_from k o [] is suits few room =
      idle (λ env s ready. assumption)
  fill_from k o (e ∷ es) is suits few room =
      cheaper (omega (arith, height e))
      (gives
      (λ env s t fine ready done.
      assumption (hidden_then z depth s done.middle t done.first.hidden done.second.hidden))
      (seq
      (as_code (ap (λ p. into_element_code (layout_of z) word.kind p
      (stored_value z.allocation word.kind e)) is)
      (one_runs k e (omega arith) suits.0 (omega arith)))
      (along (λ env. one_path_all (types_but z.code.profile z.declared x) env.variables (step k e env).variables
      (λ y f there seen. unread z.code.profile z.declared x env.variables _ y f there) word es suits.1)
      (beside (step k e) (fill_from (k + 1) (o + element_bytes word.kind) es (omega arith) suits.1
      (omega arith) (omega arith))))
      (λ env s t ready done. done.ready)))

  -- What is held then.

  controls_kept : (k : ℕ) (es : List TermTree) (env : StraightState) (c : ℕ)
      → (filled k es env).controls c ≡ env.controls c
  controls_kept k [] env c = refl
  controls_kept k (e ∷ es) env c = controls_kept (k + 1) es (step k e env) c

  filled_is : (k : ℕ) (es : List TermTree) (env : StraightState) (front back : List ℕ)
      → AllSuit (types_but z.code.profile z.declared x) word es
      → env.variables x ≡ front ++ back → length front ≡ k → length back ≡ length es → (y : ℕ)
      → (filled k es env).variables y
      ≡ (with_variable env x (front ++ map (value_in env.variables) es)).variables y
  filled_is k [] env front back suits is long short y =
      cond_both (y == x) (front ++ []) (env.variables y) (λ (l : List ℕ). env.variables y ≡ l)
      (λ same. ap env.variables (eqb-true y x same)
      ∙ (is ∙ ap (λ (b : List ℕ). front ++ b) (nil_from_length back short)))
      (λ other. refl)
  filled_is k (e ∷ es) env front [] suits is long short y = absurd (omega arith)
  filled_is k (e ∷ es) env front (b ∷ back) suits is long short y =
      let v = value_in env.variables e in
      let own : (step k e env).variables x ≡ slice_set (env.variables x) k v = rw (eq-eqb x x refl) refl in
      let seam : slice_set (front ++ b ∷ back) k v ≡ front ++ v ∷ back =
      subst (λ n. slice_set (front ++ b ∷ back) n v ≡ front ++ v ∷ back) long (set-append_seam front b back v) in
      let all = own ∙ (ap (λ (l : List ℕ). slice_set l k v) is ∙ (seam ∙ sym (append_assoc front (v ∷ []) back))) in
      filled_is (k + 1) es (step k e env) (front ++ v ∷ []) back suits.1 all
      (omega (arith, length-append front (v ∷ []))) (omega arith) y
      ∙ elim (cases_Bool (y == x)) [
        | inl same ↦ rw same (append_assoc front (v ∷ []) (map (value_in (step k e env).variables) es)
            ∙ ap (λ (vs : List ℕ). front ++ v ∷ vs)
            (sym (all_values (types_but z.code.profile z.declared x) env.variables (step k e env).variables
            (λ n f there seen. unread z.code.profile z.declared x env.variables _ n f there) word es suits.1)))
        | inr other ↦ rw other refl
      ]

pub fill_runs : (z : Setting) (depth x size : ℕ) (e : TermTree) (es : List TermTree)
    → IsFilled z.code.profile z.declared x size (e ∷ es)
    → base_of z + 4 * slots_to z.allocation.count (height_of_all (e ∷ es)) ≤ z.size → depth ≤ z.depths
    → Runs z (32 * (1 + size + terms_nodes (e ∷ es))) (λ env. path_at env (array x size (e ∷ es)))
    (statement_code (layout_of z) depth (array x size (e ∷ es))) (Ready z)
    (StateShown z depth (λ env. after env (array x size (e ∷ es))))
fill_runs z depth x size e es typed room within =
    let values = e ∷ es in
    let d : FlatVariable = array_as typed.word typed.mutable size in
    let long : length (e ∷ es) ≡ size = typed.count in
    as_code (ap (λ k. fill_code (layout_of z) k (variable_offset z.laid x) values)
    (kind_known z.laid x d (array_lies z x size typed.word typed.mutable typed.known)))
    (cheaper (omega arith)
    (gives
    (λ env s t fine ready done. record {
      ready =
          ready_same z (filled z depth within x size typed.word typed.mutable typed.known 0 values env)
          (with_variable env x (map (value_at env) values)) t
          (filled_is z depth within x size typed.word typed.mutable typed.known 0 values env [] (env.variables x)
          typed.suit refl refl ((ready.fits x d typed.known).count (omega (arith, long)) ∙ sym long))
          (controls_kept z depth within x size typed.word typed.mutable typed.known 0 values env) done.ready;
      hidden = done.hidden;
    })
    (fill_from z depth within x size typed.word typed.mutable typed.known 0 (variable_offset z.laid x) values
    (omega arith) typed.suit (omega arith) room)))
