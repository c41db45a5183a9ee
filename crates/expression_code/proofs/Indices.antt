-- The part of an index that is computed, where the offset of the access makes up for the rest.
use Rattle.std.proofs.Common.{◌≡◌, ℕ, ◌+◌, ◌*◌, ◌%◌, ◌^◌, ◌<◌, ◌≤◌, Bool, if◌then◌else◌, Option, None, Some, [], ◌++◌}
use Rattle.std.proofs.Common.{slice_get, refl, sym, ap, ap₂, subst, ◌∙◌, arith, append-nil, is_some, unwrap_or}
use Rattle.expression_code.proofs.Below.{access_offset, array_as, binary, BinaryOperator, Boolean}
use Rattle.expression_code.proofs.Below.{computed_index, element_bytes, height_of, Kind, of_binary}
use Rattle.expression_code.proofs.Below.{marks_of, operated, Path, path_in, Place, Profile, sum_offset}
use Rattle.expression_code.proofs.Below.{TermHasType, term_nodes, TermTree, types_of, value_in, Values}
use Rattle.expression_code.proofs.Below.{variable_offset, Width, width_of, WordType}
use Rattle.expression_code.proofs.Frame.{Setting}
use Rattle.expression_code.proofs.NumberCode.{known, NearSum, sum_known}
use Rattle.expression_code.proofs.Places.{kind_known, place_of}
use Rattle.expression_code.proofs.Values.{array_lies, place_ends}
use Rattle.expression_code.specs.Below.{Makes, operation_of, Uint32}
use Rattle.language.specs.WellTyped.{arithmetic}
use Rattle.language.specs.declared.operation.Operation.TheVariants.{Arithmetic}

-- a sum has the kind of its operands
sum_kind : {profile : Profile} {one other whole : WordType} → Makes profile Arithmetic one other whole
    → one.kind ≡ whole.kind
sum_kind (arithmetic numeric) = refl

-- the address of an element at a sum, modulo 2^32, of which one operand is in the offset
sum_scaled : (kind : Kind) (o base v m i : ℕ) → (v + m) % 2 ^ 32 ≡ i → base + element_bytes kind * i < 2 ^ 32
    → (base + element_bytes kind * m) % 2 ^ 32 ≡ o
    → (o + element_bytes kind * v) % 2 ^ 32 ≡ base + element_bytes kind * i
sum_scaled Boolean o base v m i is below at = omega arith
sum_scaled kind o base v m i is below at = omega arith

-- the computed part has a type and the index's path, and with the offset it gives the element's place, modulo 2^32
pub record IsPart (z : Setting) (x size : ℕ) (word : WordType) (mutable : Bool) (index part : TermTree) (o : ℕ)
    : Type 0 where
  pub type : WordType
  pub has_type : TermHasType (types_of z.code.profile z.declared) part type
  pub path : (m : Values) → path_in m index ≡ path_in m part
  pub at : (i : ℕ) → i < size → (m : Values) → value_in m index ≡ i
      → (o + element_bytes word.kind * value_in m part) % 2 ^ 32 ≡ place_of z.laid x (array_as word mutable size) i
  pub height : height_of part ≤ height_of index
  pub nodes : term_nodes part ≤ term_nodes index

module _ (z : Setting) (x size : ℕ) (word : WordType) (mutable : Bool)
    (is : slice_get z.declared x ≡ Some (array_as word mutable size)) where
  abbrev Typed : TermTree → WordType → Type 0
  Typed e type = TermHasType (types_of z.code.profile z.declared) e type

  -- all of it
  pub whole_part : {index : TermTree} {type : WordType} → Typed index type
      → IsPart z x size word mutable index index (variable_offset z.laid x)
  whole_part {type = type} has = record {
    type = type;
    has_type = has;
    path = λ m. refl;
    at = λ i below m at.
        let ends = place_ends z x (array_as word mutable size) i (array_lies z x size word mutable is) below in
        ap (λ v. (variable_offset z.laid x + element_bytes word.kind * v) % 2 ^ 32) at ∙ omega (arith, ends);
    height = omega arith;
    nodes = omega arith;
  }

  -- the left operand of a sum
  module _ (sum : Place) {operator : BinaryOperator} (width : Width) {left right : TermTree} {one other type : WordType}
      (has : Typed left one) (makes : Makes z.code.profile (operation_of operator) one other type)
      (uint : type.kind ≡ Uint32) (same : width ≡ width_of one.kind) {o : ℕ}
      (near : NearSum z.laid x operator right o) where
    sum_path : (m : Values) → path_in m (binary sum operator width left right) ≡ path_in m left
    sum_path m =
        let k = known right near.adds.n near.adds.is m in
        ap₂ (λ (p q : Path). path_in m left ++ p ++ q) k.1
        (ap (marks_of sum operator (value_in m left)) k.0 ∙ near.adds.quiet sum (value_in m left))
        ∙ (append-nil (path_in m left ++ []) ∙ append-nil (path_in m left))

    sum_value : (m : Values)
        → value_in m (binary sum operator width left right) ≡ (value_in m left + near.m) % 2 ^ 32
    sum_value m =
        let whole = sum_kind (subst (λ p. Makes z.code.profile p one other type) near.adds.makes makes) in
        ap₂ (λ w k. operated operator w (value_in m left) k) (same ∙ ap width_of (whole ∙ uint))
        (known right near.adds.n near.adds.is m).0
        ∙ near.adds.same (value_in m left)

    pub sum_part : IsPart z x size word mutable (binary sum operator width left right) left o
    sum_part = record {
      type = one;
      has_type = has;
      path = sum_path;
      at = λ i below m at.
          let lies = array_lies z x size word mutable is in
          let array = array_as word mutable size in
          let kind = kind_known z.laid x array lies in
          sum_scaled word.kind o (variable_offset z.laid x) (value_in m left) near.m i (sym (sum_value m) ∙ at)
          (omega (arith, place_ends z x array i lies below))
          (ap (λ k. (variable_offset z.laid x + element_bytes k * near.m) % 2 ^ 32) (sym kind) ∙ near.at);
      height = omega arith;
      nodes = omega arith;
    }

  -- so what is computed is a part
  pub computed_part : {index : TermTree} {type : WordType} → Typed index type → type.kind ≡ Uint32
      → IsPart z x size word mutable index (computed_index z.laid z.allocation x index)
      (access_offset z.laid z.allocation x index)
  computed_part (of_binary {place = sum} {operator = operator} {width = width} {left = left} {right = right} has more
      makes same) uint = by_offset (sum_offset z.laid z.allocation x operator right) refl
    where
      by_offset : (p : Option ℕ) → sum_offset z.laid z.allocation x operator right ≡ p
          → IsPart z x size word mutable (binary sum operator width left right)
          (if is_some p then left else binary sum operator width left right) (unwrap_or p (variable_offset z.laid x))
      by_offset (Some o) at =
          sum_part sum width has makes uint same (sum_known z.laid z.allocation x operator right o at)
      by_offset None at = whole_part (of_binary {place = sum} {operator = operator} has more makes same)
  computed_part has uint = whole_part has
