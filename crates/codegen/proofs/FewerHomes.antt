-- The code of what does not name some variables is the same where these have no homes.
use Rattle.std.proofs.Common.{◌≡◌, ℕ, suc, ◌+◌, ◌<◌, ◌≤◌, ◌==◌, ◌||◌, Bool, true, false, List, [], ◌∷◌, ◌++◌}
use Rattle.std.proofs.Common.{length, Option, None, Some, refl, sym, ap, ap₂, ◌∙◌, arith, eq-eqb, if◌then◌else◌}
use Rattle.std.proofs.Common.{is_some, not, slice_get, unwrap_or}
use Rattle.std.proofs.lemmas.Option.{none-some}
use Rattle.std.proofs.lemmas.Bool.{false_from_ne_true, not-true, or_parts, true≢false}
use Rattle.codegen.proofs.Choices.{of_choice, when_not}
use Rattle.codegen.proofs.HomesBut.{homes_left}
use Rattle.codegen.proofs.Language.{array, branch, FlatVariable, put, repeats, set, element_bytes}
use Rattle.codegen.proofs.Language.{StraightTree, take, TermTree}
use Rattle.codegen.proofs.Machine.{branching_code, condition_code, failing, home_count, operands_or, right_code, Frame}
use Rattle.codegen.proofs.Machine.{right_register, test_of, test_or, Allocation, at_home, control_location}
use Rattle.codegen.proofs.Machine.{home_of, InRegister, InSlot, into_code, Location, next_offset, put_element_code}
use Rattle.codegen.proofs.Machine.{read_code, read_register, set_code, statement_code, temporaries_offset}
use Rattle.codegen.proofs.Machine.{result_offset, assign_code, fill_code, home_of_term, result_code, taken_code}
use Rattle.codegen.proofs.Machine.{unless_home, variable_location, variable_offset, kind_at, Instr}
use Rattle.codegen.specs.private.Compared.{against_zero}
use Rattle.codegen.specs.private.Fresh.{homes_but, names_in, names_in_any, names_in_result, passes}
use Rattle.codegen.proofs.StoredValues.{stored_alike}
use Rattle.codegen.specs.private.Emitted.{into_element_code, stored_value}
use Rattle.codegen.specs.private.Loops.{counting_home, first_below, loop_from, repeat_code, short_number}
use Rattle.codegen.specs.private.Loops.{to_number_code}
use Rattle.expression_code.specs.Allocation.{mirror_if, mirror_of, temporary, working_register}
use Rattle.expression_code.specs.declared.allocation.Mirror.{Mirror}
use Rattle.expression_code.specs.declared.emit.NearPlace.{NearPlace}
use Rattle.expression_code.specs.TermCode.{mirror_by, mirror_code, mirrored_at, mirrored_place, near_or, near_place}
use Rattle.expression_code.specs.TermCode.{access_offset, computed_index, into_by, is_at_home, keeps_words}
use Rattle.expression_code.specs.TermCode.{code_by, indexed_code, near_code, near_element, operand}
use Rattle.expression_code.specs.TermCode.{before_code, opposite_in, prefixed_code, reached_code, sum_offset}
use Rattle.expression_code.specs.declared.frame_bytes.FrameBytes.{FrameBytes}
use Rattle.expression_code.specs.FrameBytes.{frame_bytes, operated_bytes}
use Rattle.expression_code.specs.NumberRows.{number_of}
use Rattle.inline.specs.Flat as flat
use Rattle.codegen.specs.Below.{BinaryOperator, Kind, Uint32, Width}
use Rattle.language.specs.declared.operators.PrefixOperator.{PrefixOperator}
use Rattle.expression_code.specs.Layout.{term_layout}

pub neither_of_three : (a b c : Bool) → (a || (b || c)) ≡ false → (a ≡ false) × (b ≡ false) × (c ≡ false)
neither_of_three a b c h =
    let first = or_parts a (b || c) h in
    let rest = or_parts b c first.1 in
    (first.0, rest.0, rest.1)

-- a statement without others in it
abbrev pub IsSimple : StraightTree → Type 0
IsSimple (branch condition accepted otherwise) = ⊥
IsSimple (repeats x low high body) = ⊥
IsSimple s = Unit {0}

-- registers given out so, but for the homes of some words
abbrev pub but : Allocation → (ℕ → Bool) → Allocation
but a left_out = record {
  count = a.count;
  homes = homes_but left_out 0 a.homes;
  immediates = a.immediates;
  unread = a.unread;
  mirrors = a.mirrors;
}

-- the home of a word
pub home_but : (a : Allocation) (left_out : ℕ → Bool) (x : ℕ)
    → home_of (but a left_out).homes x ≡ (if left_out x then None else home_of a.homes x)
home_but a left_out x = homes_left left_out a.homes x

pub home_kept : (a : Allocation) (left_out : ℕ → Bool) (x : ℕ) → left_out x ≡ false
    → home_of (but a left_out).homes x ≡ home_of a.homes x
home_kept a left_out x stays = home_but a left_out x ∙ ap (λ b. if b then None else home_of a.homes x) stays

-- one that there is left is the one that there was
pub home_was : (a : Allocation) (left_out : ℕ → Bool) (x home : ℕ) → home_of (but a left_out).homes x ≡ Some home
    → home_of a.homes x ≡ Some home
home_was a left_out x home is =
    when_not (left_out x) (home_of a.homes x) home (sym (home_but a left_out x) ∙ is)

-- so of mirrors
pub mirror_was : (a : Allocation) (left_out : ℕ → Bool) (x : ℕ) (mirror : Mirror)
    → mirror_of (but a left_out) x ≡ Some mirror → mirror_of a x ≡ Some mirror
mirror_was a left_out x mirror is =
    by_choice (left_out x)
    (sym (ap (λ (h : Option ℕ). mirror_if h own) (home_but a left_out x)) ∙ is)
  where
    own : Option Mirror
    own = unwrap_or (slice_get a.mirrors x) None

    by_choice : (out : Bool) → mirror_if (if out then None else home_of a.homes x) own ≡ Some mirror
        → mirror_if (home_of a.homes x) own ≡ Some mirror
    by_choice true there = absurd (none-some mirror there)
    by_choice false there = there

-- there are no more homes, in a list as long
pub homes_fewer : (out : ℕ → Bool) (k : ℕ) (homes : List (Option ℕ))
    → (home_count (homes_but out k homes) ≤ home_count homes) × (length (homes_but out k homes) ≡ length homes)
homes_fewer out k [] = (omega arith, refl)
homes_fewer out k (None ∷ homes) =
    let rest = homes_fewer out (k + 1) homes in
    (rest.0, ap suc rest.1)
homes_fewer out k (Some home ∷ homes) =
    let rest = homes_fewer out (k + 1) homes in
    let fewer = rest.0 in (
      of_choice (λ first. home_count (first ∷ homes_but out (k + 1) homes) ≤ 1 + home_count homes) (out k)
          (omega (arith, fewer)) (omega (arith, fewer)),
      ap suc rest.1,
    )

module _ (layout : Frame) (left_out : ℕ → Bool)
    (variables : (y : ℕ) → left_out y ≡ true → y < length layout.declared) where
  abbrev declared : List FlatVariable
  declared = layout.declared

  abbrev a : Allocation
  a = layout.allocation

  abbrev b : Allocation
  b = but a left_out

  -- the same layout, but for those homes
  abbrev fewer : Frame
  fewer = record { declared = declared; controls = layout.controls; depths = layout.depths; allocation = b }

  -- none of those is named
  abbrev Spares : (ℕ → Bool) → Type 0
  Spares named = (y : ℕ) → left_out y ≡ true → named y ≡ false

  stays : (x : ℕ) → Spares (λ y. x == y) → left_out x ≡ false
  stays x spares = false_from_ne_true (left_out x) (λ is. true≢false (sym (eq-eqb x x refl) ∙ spares x is))

  same_home : (x : ℕ) → Spares (λ y. x == y) → home_of b.homes x ≡ home_of a.homes x
  same_home x spares = home_kept a left_out x (stays x spares)

  pub control_same : (c : ℕ) → control_location fewer c ≡ control_location layout c
  control_same c =
      let x = length declared + c in
      rw (home_kept a left_out x (false_from_ne_true (left_out x) (λ is. omega (arith, variables x is)))) refl

  mirror_same : (x : ℕ) → Spares (λ y. x == y) → mirror_of b x ≡ mirror_of a x
  mirror_same x spares = ap (λ (h : Option ℕ). mirror_if h (unwrap_or (slice_get a.mirrors x) None)) (same_home x spares)

  follows_same : (x : ℕ) → Spares (λ y. x == y) → mirror_code b x ≡ mirror_code a x
  follows_same x spares = ap₂ mirror_by (same_home x spares) (mirror_same x spares)

  mirrored_same : (kind : Kind) (o : ℕ) (part : TermTree) → Spares (λ y. names_in y part)
      → mirrored_place b kind o part ≡ mirrored_place a kind o part
  mirrored_same kind o (flat.variable y) spares = ap (mirrored_at kind o) (mirror_same y spares)
  mirrored_same kind o part spares = refl

  -- what is computed of an index, which goes by no home, names no more than the index does
  part_spares : (x : ℕ) (index : TermTree) → Spares (λ y. names_in y index)
      → Spares (λ y. names_in y (computed_index declared a x index))
  part_spares x (flat.binary sum operator width left right) spares =
      of_choice (λ part. Spares (λ y. names_in y part)) (is_some (sum_offset declared a x operator right))
      (λ y out. (or_parts _ _ (spares y out)).0) spares
  part_spares x index spares = spares

  part_same : (x : ℕ) (index : TermTree)
      → (computed_index declared b x index ≡ computed_index declared a x index)
      × (access_offset declared b x index ≡ access_offset declared a x index)
  part_same x (flat.binary sum operator width left right) = (refl, refl)
  part_same x index = (refl, refl)

  near_same : (x : ℕ) (index : TermTree) → Spares (λ y. names_in y index)
      → near_place declared b x index ≡ near_place declared a x index
  near_same x index spares =
      let part = part_same x index in
      ap (near_or (near_element declared a x index))
      (ap₂ (mirrored_place b (kind_at declared x)) part.1 part.0
      ∙ mirrored_same (kind_at declared x) (access_offset declared a x index) (computed_index declared a x index)
      (part_spares x index spares))

  location_same : (x : ℕ) → Spares (λ y. x == y) → variable_location declared b x ≡ variable_location declared a x
  location_same x spares = rw (same_home x spares) refl

  -- Expressions.

  -- the register that the value of a place is computed in
  abbrev own : ℕ → ℕ
  own place = working_register a.count place 29

  term_home_same : (e : TermTree) → Spares (λ y. names_in y e) → home_of_term b e ≡ home_of_term a e
  term_home_same (flat.variable x) spares = same_home x spares
  term_home_same (flat.convert kind e) spares =
      ap (λ h. if keeps_words a kind then h else None) (term_home_same e spares)
  term_home_same e spares = refl

  at_home_same : (e : TermTree) → Spares (λ y. names_in y e) → is_at_home b e ≡ is_at_home a e
  at_home_same e spares = ap (λ (h : Option ℕ). is_some h) (term_home_same e spares)

  operand_same : (place : ℕ) (e : TermTree) → Spares (λ y. names_in y e)
      → operand (term_layout fewer) place e ≡ operand (term_layout layout) place e
  operand_same place e spares =
      ap (λ (h : Option ℕ). at_home h (temporary a.count (temporaries_offset layout) place)) (term_home_same e spares)

  bytes_same : (e : TermTree) → frame_bytes declared b e ≡ frame_bytes declared a e
  bytes_same (flat.convert Uint32 e) = bytes_same e
  bytes_same (flat.binary source operator width left right) =
      ap₂ (λ (l r : Option FrameBytes). operated_bytes l operator width r (number_of right)) (bytes_same left)
      (bytes_same right)
  bytes_same e = refl

  opposite_same : (e : TermTree) → opposite_in b e ≡ opposite_in a e
  opposite_same (flat.binary source operator width left right) = refl
  opposite_same e = refl

  -- code for what there may be
  code_same : {T : Type 0} (o : Option T) (f g : T → List Instr) {xs ys : List Instr} → ((t : T) → f t ≡ g t)
      → xs ≡ ys → code_by o f xs ≡ code_by o g ys
  code_same None f g some none = none
  code_same (Some t) f g some none = some t

  indexed_same : (d place x : ℕ) (index : TermTree) → Spares (λ y. names_in y index) → (o : ℕ) (into into' : List Instr)
      → into ≡ into' → indexed_code (term_layout fewer) d place x index into o
      ≡ indexed_code (term_layout layout) d place x index into' o
  indexed_same d place x index spares o into into' same =
      rw (at_home_same index spares, operand_same place index spares, same) refl

  before_same : (d place : ℕ) (operator : PrefixOperator) (width : Width) (e : TermTree) → Spares (λ y. names_in y e)
      → (into into' : List Instr) → into ≡ into' → before_code (term_layout fewer) d place operator width e into
      ≡ before_code (term_layout layout) d place operator width e into'
  before_same d place operator width e spares into into' same =
      rw (at_home_same e spares, operand_same place e spares, same) refl

  mutual
    by_same : (other : Option BinaryOperator) (d place : ℕ) (e : TermTree) → Spares (λ y. names_in y e)
        → into_by (term_layout fewer) other d place e ≡ into_by (term_layout layout) other d place e
    by_same other d place (flat.number value kind) spares = refl
    by_same other d place (flat.truth value) spares = refl
    by_same other d place (flat.variable x) spares = rw (location_same x spares) refl
    by_same other d place (flat.prefix operator width e) spares =
        prefixed_same d place operator width e spares _ _ (by_same None (own place) place e spares)
    by_same other d place (flat.rotate width e amount) spares =
        rw (at_home_same e spares, operand_same place e spares, by_same None (own place) place e spares) refl
    by_same other d place (flat.convert kind e) spares =
        simp (at_home_same, operand_same, by_same None (own place) place e spares, by_same None d place e spares)
    by_same other d place (flat.element source x size index) spares =
        let one = λ (y : ℕ) (out : left_out y ≡ true). (or_parts _ _ (spares y out)).1 in
        ap (λ (o : Option NearPlace). code_by o (near_code d (kind_at declared x))
        (reached_code (term_layout fewer) d place x index (into_by (term_layout fewer) None (own place) place index)))
        (near_same x index one)
        ∙ code_same (near_place declared a x index) (near_code d (kind_at declared x)) (near_code d (kind_at declared x))
        (λ o. refl) (reached_same d place x index one _ _ (by_same None (own place) place index one))
    by_same other d place (flat.binary source operator width left right) spares =
        let parts = λ (y : ℕ) (out : left_out y ≡ true). or_parts _ _ (spares y out) in
        let one : Spares (λ y. names_in y left) = λ y out. (parts y out).0 in
        let two : Spares (λ y. names_in y right) = λ y out. (parts y out).1 in
        simp (
          bytes_same,
          at_home_same,
          operand_same,
          by_same None (own place) place left one,
          by_same None (own place) place right two,
          by_same None (own (place + 1)) (place + 1) right two,
        )
    by_same other d place (flat.select condition accepted otherwise) spares =
        let parts = λ (y : ℕ) (out : left_out y ≡ true). neither_of_three _ _ _ (spares y out) in
        let one : Spares (λ y. names_in y condition) = λ y out. (parts y out).0 in
        let two : Spares (λ y. names_in y accepted) = λ y out. (parts y out).1 in
        let three : Spares (λ y. names_in y otherwise) = λ y out. (parts y out).2 in
        simp (
          at_home_same,
          operand_same,
          opposite_same,
          by_same (opposite_in a condition) (own place) place condition one,
          by_same None (own (place + 1)) (place + 1) accepted two,
          by_same None (own (place + 2)) (place + 2) otherwise three,
        )

    prefixed_same : (d place : ℕ) (operator : PrefixOperator) (width : Width) (e : TermTree)
        → Spares (λ y. names_in y e) → (into into' : List Instr) → into ≡ into'
        → prefixed_code (term_layout fewer) d place operator width e into
        ≡ prefixed_code (term_layout layout) d place operator width e into'
    prefixed_same d place operator width (flat.binary source shift narrow left right) spares into into' same =
        let one : Spares (λ y. names_in y left) = λ y out. (or_parts _ _ (spares y out)).0 in
        let whole = before_same d place operator width (flat.binary source shift narrow left right) spares into into' same in
        rw (at_home_same left one, operand_same place left one, by_same None (own place) place left one, whole) refl
    prefixed_same d place operator width e spares into into' same =
        before_same d place operator width e spares into into' same

    reached_same : (d place x : ℕ) (index : TermTree) → Spares (λ y. names_in y index) → (into into' : List Instr)
        → into ≡ into' → reached_code (term_layout fewer) d place x index into
        ≡ reached_code (term_layout layout) d place x index into'
    reached_same d place x (flat.binary sum operator width left right) spares into into' same =
        let one = λ (y : ℕ) (out : left_out y ≡ true). (or_parts _ _ (spares y out)).0 in
        let index = flat.binary sum operator width left right in
        let left_same = by_same None (own place) place left one in
        code_same (sum_offset declared a x operator right) _ _
        (λ o. indexed_same d place x left one o _ _ left_same)
        (indexed_same d place x index spares (variable_offset declared x) into into' same)
    reached_same d place x index spares into into' same =
        indexed_same d place x index spares (variable_offset declared x) into into' same

  pub into_same : (d place : ℕ) (e : TermTree) → Spares (λ y. names_in y e)
      → into_code (term_layout fewer) d place e ≡ into_code (term_layout layout) d place e
  into_same d place e spares = by_same None d place e spares

  read_same : (r place : ℕ) (e : TermTree) → Spares (λ y. names_in y e)
      → read_code fewer r place e ≡ read_code layout r place e
  read_same r place e spares =
      ap₂ unless_home (term_home_same e spares) (into_same r place e spares)

  register_same : (r : ℕ) (e : TermTree) → Spares (λ y. names_in y e) → read_register b r e ≡ read_register a r e
  register_same r e spares = rw (term_home_same e spares) refl

  pub assign_same : (e : TermTree) (o : ℕ) → Spares (λ y. names_in y e)
      → assign_code fewer e o ≡ assign_code layout e o
  assign_same e o spares = rw (read_same 5 0 e spares, register_same 5 e spares) refl

  set_same : (within : Option ℕ) (l : Location) (e : TermTree) → Spares (λ y. names_in y e)
      → set_code fewer within l e ≡ set_code layout within l e
  set_same None (InRegister home) e spares = into_same home 0 e spares
  set_same None (InSlot o) e spares = assign_same e o spares
  set_same (Some c) l e spares =
      rw (control_same c, read_same 5 0 e spares, register_same 5 e spares) refl

  pub result_same : (value : Option TermTree) → Spares (λ y. names_in_result y value)
      → result_code fewer value ≡ result_code layout value
  result_same None spares = refl
  result_same (Some value) spares = assign_same value (result_offset declared) spares

  -- what is put into an element names no more than the expression does
  stored_spares : (kind : Kind) (e : TermTree) → Spares (λ y. names_in y e)
      → Spares (λ y. names_in y (stored_value a kind e))
  stored_spares kind e spares y out =
      stored_alike (names_in y) (λ conversion operand. refl) a kind e ∙ spares y out

  into_element_same : (kind : Kind) (o : ℕ) (e : TermTree) → Spares (λ y. names_in y e)
      → into_element_code fewer kind o e ≡ into_element_code layout kind o e
  into_element_same kind o e spares = rw (read_same 5 0 e spares, register_same 5 e spares) refl

  fill_same : (kind : Kind) (o : ℕ) (es : List TermTree) → Spares (λ y. names_in_any y es)
      → fill_code fewer kind o es ≡ fill_code layout kind o es
  fill_same kind o [] spares = refl
  fill_same kind o (e ∷ es) spares =
      let one = λ (y : ℕ) (out : left_out y ≡ true). (or_parts _ _ (spares y out)).0 in
      let two = λ (y : ℕ) (out : left_out y ≡ true). (or_parts _ _ (spares y out)).1 in
      ap₂ ◌++◌ (into_element_same kind o (stored_value a kind e) (stored_spares kind e one))
      (fill_same kind (o + element_bytes kind) es two)

  put_same : (within : Option ℕ) (x : ℕ) (index value : TermTree) → Spares (λ y. names_in y index)
      → Spares (λ y. names_in y value)
      → put_element_code fewer within x index value ≡ put_element_code layout within x index value
  put_same None x index value one two =
      let other = stored_value a (kind_at declared x) value in
      let three : Spares (λ y. names_in y other) = stored_spares (kind_at declared x) value two in
      let part = part_same x index in
      simp (part.0, part.1, near_same x index one, read_same, register_same, part_spares x index one)
  put_same (Some c) x index value one two =
      let part = part_same x index in
      simp (part.0, part.1, near_same x index one, control_same, read_same, register_same, part_spares x index one)

  taken_same : (x y : Bool) (p q r : ℕ) (within : Option ℕ)
      → taken_code fewer x y p q r within ≡ taken_code layout x y p q r within
  taken_same x y p q r None = refl
  taken_same x y p q r (Some c) = rw (control_same c) refl

  -- Branches.

  right_same : (e : TermTree) → Spares (λ y. names_in y e)
      → right_code fewer e ≡ right_code layout e
  right_same e spares = rw (read_same 6 1 e spares) refl

  right_register_same : (e : TermTree) → Spares (λ y. names_in y e) → right_register b e ≡ right_register a e
  right_register_same e spares = rw (register_same 6 e spares) refl

  condition_same : (e : TermTree) → Spares (λ y. names_in y e)
      → condition_code fewer e ≡ condition_code layout e
  condition_same (flat.binary place operator width left right) spares =
      let one = λ (y : ℕ) (out : left_out y ≡ true). (or_parts _ _ (spares y out)).0 in
      let two = λ (y : ℕ) (out : left_out y ≡ true). (or_parts _ _ (spares y out)).1 in
      ap₂ (operands_or (failing operator))
      (read_same 5 0 (flat.binary place operator width left right) spares)
      (ap₂ (λ (front back : List Instr). front ++ back) (read_same 5 0 left one) (right_same right two))
  condition_same e spares = read_same 5 0 e spares

  test_same : (e : TermTree) → Spares (λ y. names_in y e) → test_of b e ≡ test_of a e
  test_same (flat.binary place operator width left right) spares =
      let one = λ (y : ℕ) (out : left_out y ≡ true). (or_parts _ _ (spares y out)).0 in
      let two = λ (y : ℕ) (out : left_out y ≡ true). (or_parts _ _ (spares y out)).1 in
      ap₂ (test_or (failing operator) (against_zero 5)) (register_same 5 left one) (right_register_same right two)
  test_same e spares = ap against_zero (register_same 5 e spares)

  pub branching_same : (condition : TermTree) (xs ys : List Instr) → Spares (λ y. names_in y condition)
      → branching_code fewer condition xs ys ≡ branching_code layout condition xs ys
  branching_same condition xs ys spares =
      simp (condition_same, test_same, read_same, register_same)

  -- Loops.

  to_number_same : (home : ℕ) (mirror : List Instr) (low : TermTree) (bound : ℕ) (body : List Instr)
      (first_number : Option ℕ) → Spares (λ y. names_in y low)
      → to_number_code fewer home mirror low bound body first_number
      ≡ to_number_code layout home mirror low bound body first_number
  to_number_same home mirror low bound body (Some value) one = refl
  to_number_same home mirror low bound body None one = rw (read_same 5 0 low one, register_same 5 low one) refl

  loop_same : (next : ℕ) (counter : Location) (mirror : List Instr) (low high : TermTree) (body : List Instr)
      (home bound : Option ℕ) → Spares (λ y. names_in y low) → Spares (λ y. names_in y high)
      → loop_from fewer next counter mirror low high body home bound
      ≡ loop_from layout next counter mirror low high body home bound
  loop_same next counter mirror low high body (Some home) (Some bound) one two =
      to_number_same home mirror low bound body (first_below bound low) one
  loop_same next counter mirror low high body None bound one two =
      rw (assign_same low next one, assign_same high (next + 4) two) refl
  loop_same next counter mirror low high body (Some home) None one two =
      rw (assign_same low next one, assign_same high (next + 4) two) refl

  pub repeat_same : (depth x : ℕ) (low high : TermTree) (is_set : Bool) (body : List Instr)
      → Spares (λ y. x == y) → Spares (λ y. names_in y low) → Spares (λ y. names_in y high)
      → repeat_code fewer depth x low high is_set body ≡ repeat_code layout depth x low high is_set body
  repeat_same depth x low high is_set body own one two =
      let next = next_offset layout depth in
      ap (λ mirror. loop_from fewer next (variable_location declared b x) mirror low high body
      (counting_home (variable_location declared b x) is_set body) (short_number high)) (follows_same x own)
      ∙ ap
      (λ l. loop_from fewer next l (mirror_code a x) low high body (counting_home l is_set body) (short_number high))
      (location_same x own)
      ∙ loop_same next (variable_location declared a x) (mirror_code a x) low high body
      (counting_home (variable_location declared a x) is_set body) (short_number high) one two

  -- Statements without others in them.

  pub none_named : (named : ℕ → Bool) → ((y : ℕ) → left_out y ≡ true → not (named y) ≡ true) → Spares named
  none_named named passed y out = not-true (named y) (passed y out)

  pub statement_same : (depth : ℕ) (s : StraightTree) → IsSimple s → ((y : ℕ) → left_out y ≡ true → passes y s ≡ true)
      → statement_code fewer depth s ≡ statement_code layout depth s
  statement_same depth (set within x value) simple passed =
      let spares = none_named (λ y. (x == y) || names_in y value) passed in
      let one = λ (y : ℕ) (out : left_out y ≡ true). (or_parts _ _ (spares y out)).0 in
      let two = λ (y : ℕ) (out : left_out y ≡ true). (or_parts _ _ (spares y out)).1 in
      ap₂ (λ (front back : List Instr). front ++ back)
      (ap (λ l. set_code fewer within l value) (location_same x one)
      ∙ set_same within (variable_location declared a x) value two)
      (follows_same x one)
  statement_same depth (array x size []) simple passed = refl
  statement_same depth (array x size (e ∷ es)) simple passed =
      let spares = none_named (λ y. (x == y) || names_in_any y (e ∷ es)) passed in
      fill_same (kind_at declared x) (variable_offset declared x)
      (e ∷ es) (λ y out. (or_parts _ _ (spares y out)).1)
  statement_same depth (put within place x size index value) simple passed =
      let spares = none_named (λ y. (x == y) || (names_in y index || names_in y value)) passed in
      let parts = λ (y : ℕ) (out : left_out y ≡ true). neither_of_three _ _ _ (spares y out) in
      put_same within x index value (λ y out. (parts y out).1)
      (λ y out. (parts y out).2)
  statement_same depth (take c within condition) simple passed =
      let spares = none_named (λ y. names_in y condition) passed in
      simp (read_same 5 0 condition spares, register_same 5 condition spares, control_same, taken_same)
  statement_same depth (branch condition accepted otherwise) simple passed = absurd simple
  statement_same depth (repeats x low high body) simple passed = absurd simple
