-- Where an access finds an element at once: on the frame's base, or on the mirror of a variable.
use Rattle.std.proofs.Common.{◌≡◌, ◌⊎◌, inl, inr, ℕ, ◌+◌, ◌*◌, ◌%◌, ◌^◌, ◌<◌, Bool, [], Option, None}
use Rattle.std.proofs.Common.{Some, slice_get, refl, sym, ap, ap₂, ◌∙◌, subst, arith, unwrap_or}
use Rattle.std.proofs.lemmas.Bool.{and_parts, eqb-true}
use Rattle.std.proofs.lemmas.Option.{cond_some, none-some, same_Some}
use Rattle.expression_code.proofs.Below.{access_offset, address_of, array_as, computed_index}
use Rattle.expression_code.proofs.Below.{element_bytes, home_of, in_frame, Kind, kind_at, ltb-true, Mirror}
use Rattle.expression_code.proofs.Below.{mirror_of, mirrored_at, mirrored_place, near_element, near_or}
use Rattle.expression_code.proofs.Below.{near_place, NearPlace, path_in, sign_extended, State}
use Rattle.expression_code.proofs.Below.{StraightState, sum_of, TermHasType, TermTree, types_of, value_in}
use Rattle.expression_code.proofs.Below.{Values, variable, variable_offset, WordType}
use Rattle.expression_code.proofs.Arithmetic.{near_address}
use Rattle.expression_code.proofs.Frame.{Setting}
use Rattle.expression_code.proofs.Indices.{computed_part, IsPart}
use Rattle.expression_code.proofs.Moves.{register-at}
use Rattle.expression_code.proofs.NumberCode.{known, near_known}
use Rattle.expression_code.proofs.Places.{kind_known, place_of}
use Rattle.expression_code.proofs.Values.{array_lies, mirror_register, place_ends, Ready}
use Rattle.expression_code.proofs.WorkRegisters.{IsHome}
use Rattle.expression_code.proofs.Homes.{home_there}
use Rattle.expression_code.specs.Allocation.{mirror_if}
use Rattle.expression_code.specs.Below.{Uint32}

-- what there is
abbrev pub Found : Option ℕ → Type 0
Found o = (home : ℕ) × (o ≡ Some home)

-- the address on a mirror
mirrored_address : (frame o e a : ℕ) → o < 2048 → (o + e) % 2 ^ 32 ≡ a → frame + a < 2 ^ 32
    → sum_of (sum_of e frame) (sign_extended 12 o) ≡ frame + a
mirrored_address frame o e a near is below = grind arith

-- each access there goes to the element: the index shows nothing, and its value is in the address
pub record IsReached (z : Setting) (x size : ℕ) (word : WordType) (mutable : Bool) (index : TermTree)
    (place : NearPlace) : Type 0 where
  pub quiet : (m : Values) → path_in m index ≡ []
  pub base : (place.base ≡ 2) ⊎ IsHome z.allocation.count place.base
  pub near : place.offset < 2048
  pub at : (i : ℕ) → i < size → (env : StraightState) (s : State) → Ready z env s → value_in env.variables index ≡ i
      → address_of s.regs place.base place.offset ≡ z.frame + place_of z.laid x (array_as word mutable size) i

-- a variable with a mirror has a home
pub mirror_home : (z : Setting) (y : ℕ) (mirror : Mirror) → mirror_of z.allocation y ≡ Some mirror
    → Found (home_of z.allocation.homes y)
mirror_home z y mirror is = by_home (home_of z.allocation.homes y) refl is
  where
    by_home : (h : Option ℕ) → home_of z.allocation.homes y ≡ h
        → mirror_if h (unwrap_or (slice_get z.allocation.mirrors y) None) ≡ Some mirror
        → Found (home_of z.allocation.homes y)
    by_home None at there = absurd (none-some mirror there)
    by_home (Some home) at there = (home, at)

module _ (z : Setting) (x size : ℕ) (word : WordType) (mutable : Bool)
    (is : slice_get z.declared x ≡ Some (array_as word mutable size)) where
  lies : slice_get z.laid x ≡ Some (array_as word mutable size)
  lies = array_lies z x size word mutable is

  kind_is : kind_at z.laid x ≡ word.kind
  kind_is = kind_known z.laid x (array_as word mutable size) lies

  -- at a number
  in_frame_reached : (index : TermTree) (o : ℕ) → near_element z.laid z.allocation x index ≡ Some o
      → IsReached z x size word mutable index (in_frame o)
  in_frame_reached index o e =
      let near = near_known z.laid z.allocation x index o e in
      let k = λ (m : Values). known index near.i near.is m in
      record {
        quiet = λ m. (k m).1;
        base = inl refl;
        near = near.near;
        at = λ i below env s ready value.
            let same : near.i ≡ i = sym (k env.variables).0 ∙ value in
            let moved = ap (λ j. place_of z.laid x (array_as word mutable size) j) same in
            let there : place_of z.laid x (array_as word mutable size) near.i ≡ o =
            ap (λ k. variable_offset z.laid x + element_bytes k * near.i) (sym kind_is) ∙ near.at in
            ap (λ b. sum_of b (sign_extended 12 o)) ready.held.base
            ∙ (near_address z.frame o near.near (omega (
              arith,
              place_ends z x (array_as word mutable size) i lies below,
              there,
              moved,
            ))
            ∙ (ap (λ a. z.frame + a) (sym there)
            ∙ ap (λ a. z.frame + a) moved));
      }

  -- what a mirror makes of an offset
  record IsMirrored (kind : Kind) (o y : ℕ) (place : NearPlace) : Type 0 where
    mirror : Mirror
    there : mirror_of z.allocation y ≡ Some mirror
    wide : element_bytes mirror.kind ≡ element_bytes kind
    near : o < 2048
    same : place ≡ record { base = mirror.register; offset = o }

  mirrored_known : (kind : Kind) (o y : ℕ) (place : NearPlace) → mirrored_at kind o (mirror_of z.allocation y) ≡ Some place
      → IsMirrored kind o y place
  mirrored_known kind o y place e = by_mirror (mirror_of z.allocation y) refl e
    where
      by_mirror : (m : Option Mirror) → mirror_of z.allocation y ≡ m → mirrored_at kind o m ≡ Some place
          → IsMirrored kind o y place
      by_mirror None at made = absurd (none-some place made)
      by_mirror (Some mirror) at made =
          let both = cond_some _ _ place made in
          let parts = and_parts _ _ both.0 in
          record {
            mirror = mirror;
            there = at;
            wide = eqb-true _ _ parts.0;
            near = ltb-true _ 2048 parts.1;
            same = sym both.1;
          }

  -- on the mirror of a variable
  mirrored_reached : (index : TermTree) (y o : ℕ) (place : NearPlace) → IsPart z x size word mutable index (variable y) o
      → mirrored_at (kind_at z.laid x) o (mirror_of z.allocation y) ≡ Some place
      → IsReached z x size word mutable index place
  mirrored_reached index y o place part e =
      let m = mirrored_known (kind_at z.laid x) o y place e in
      let home = mirror_home z y m.mirror m.there in
      subst (IsReached z x size word mutable index) (sym m.same) (record {
        quiet = λ n. part.path n;
        base = inr (mirror_register z y m.mirror m.there);
        near = m.near;
        at = λ i below env s ready value.
            let e = element_bytes m.mirror.kind * s.regs home.0 in
            let low = (mirror_register z y m.mirror m.there).0 in
            let held : s.regs home.0 ≡ value_in env.variables (variable y) =
            (home_there z part.has_type home.0 home.1).there env s ready in
            let wide : element_bytes m.mirror.kind ≡ element_bytes word.kind = m.wide ∙ ap element_bytes kind_is in
            let is : e ≡ element_bytes word.kind * value_in env.variables (variable y) = ap₂ ◌*◌ wide held in
            ap (λ b. sum_of b (sign_extended 12 o))
            (register-at s.regs m.mirror.register (λ zero. omega (arith, low, zero))
            ∙ ready.mirrors_there y home.0 m.mirror m.there home.1)
            ∙ mirrored_address z.frame o e (place_of z.laid x (array_as word mutable size) i) m.near
            (ap (λ v. (o + v) % 2 ^ 32) is ∙ part.at i below env.variables value)
            (omega (arith, place_ends z x (array_as word mutable size) i lies below, z.ends));
      })

  -- where the code finds it
  pub place_reached : {index : TermTree} {type : WordType} → TermHasType (types_of z.code.profile z.declared) index type
      → type.kind ≡ Uint32 → (place : NearPlace) → near_place z.laid z.allocation x index ≡ Some place
      → IsReached z x size word mutable index place
  place_reached {index = index} has uint place e = by_element (near_element z.laid z.allocation x index) refl e
    where
      by_part : (part : TermTree) (o : ℕ) → IsPart z x size word mutable index part o
          → mirrored_place z.allocation (kind_at z.laid x) o part ≡ Some place
          → IsReached z x size word mutable index place
      by_part (variable y) o computed made = mirrored_reached index y o place computed made
      by_part part o computed made = absurd (none-some place made)

      by_element : (o : Option ℕ) → near_element z.laid z.allocation x index ≡ o
          → near_or o (mirrored_place z.allocation (kind_at z.laid x) (access_offset z.laid z.allocation x index)
          (computed_index z.laid z.allocation x index)) ≡ Some place
          → IsReached z x size word mutable index place
      by_element (Some o) at made =
          subst (IsReached z x size word mutable index) (same_Some (in_frame o) place made)
          (in_frame_reached index o at)
      by_element None at made =
          by_part (computed_index z.laid z.allocation x index) (access_offset z.laid z.allocation x index)
          (computed_part z x size word mutable is has uint) made
