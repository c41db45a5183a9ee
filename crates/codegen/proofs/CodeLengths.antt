-- How long the code of statements is. And well-typed statements that the frame has room for have their places.
use Rattle.std.proofs.Common.{ℕ, zero, suc, ◌+◌, ◌*◌, ◌≤◌, nat_lt, List, [], ◌∷◌, ◌++◌, length, Option, None, Some, arith}
use Rattle.std.proofs.Common.{is_some, length-append, ◌≡◌, ◌<◌, ◌==◌, Bool, true, false, slice_get, subst, sym}
use Rattle.codegen.proofs.Language.{statement_nodes, block_nodes, StraightTree, set, array, put, take, branch, repeats}
use Rattle.codegen.proofs.Language.{FlatVariable, StraightBlock, nothing, first, TermTree, array_as, term_nodes}
use Rattle.codegen.proofs.Language.{terms_nodes, declared_words, Kind, element_bytes, array_words, IsTyped, AreTyped}
use Rattle.codegen.proofs.Language.{types_but, types_of, AllSuit, HasCount, TermHasType, Boolean, WordType, Profile}
use Rattle.codegen.proofs.Choices.{of_choice, when_not}
use Rattle.codegen.proofs.BranchLengths.{branching_spans}
use Rattle.codegen.proofs.LoopLengths.{repeat_spans}
pub use Rattle.codegen.proofs.WordLengths.{assign_length}
use Rattle.codegen.proofs.WordLengths.{read_length, stored_length, value_length}
use Rattle.codegen.specs.private.Loops.{any_sets}
use Rattle.codegen.specs.private.Emitted.{gives_zero, read_code, read_register, stored_register, stored_value, set_code}
use Rattle.codegen.specs.private.Emitted.{set_under_code, taken_code, kept_code, join_code, element_store_code}
use Rattle.codegen.specs.private.Emitted.{clear_code, array_code, fill_code, into_near_code, statement_code}
use Rattle.codegen.specs.private.Emitted.{block_code, code_behind, index_code, put_code, put_element_code, put_under_code}
use Rattle.codegen.specs.private.Emitted.{put_under_near_code, word_code, word_put}
use Rattle.codegen.specs.private.Erased.{erase_under_code}
use Rattle.codegen.specs.Below.{depth_in, depth_in_all, height_in, height_in_all, height_of_all}
use Rattle.codegen.proofs.Machine.{ArePlacedTerms, control_location, HasPlace, HavePlaces, register_of, variable_offset}
use Rattle.codegen.proofs.Machine.{access_offset, Allocation, computed_index, Frame, IsAmong}
use Rattle.expression_code.specs.TermCode.{sum_offset}
use Rattle.codegen.specs.Below.{binary, variable}
use Rattle.codegen.proofs.Slotted.{first_words}
use Rattle.codegen.proofs.Machine.{home_of, mirror_of, temporaries_offset, kind_at, near_place, height_of, Instr, slots_to}
use Rattle.codegen.proofs.Mirroring.{mirror_length}
use Rattle.codegen.proofs.Machine.{InRegister, InSlot, Location, variable_location, unless_unread}
use Rattle.codegen.specs.private.Placed.{IsPlaced}
use Rattle.codegen.proofs.StoredValues.{stored_nodes}
use Rattle.codegen.proofs.Logic.{code_length, fetch_length, height, one_of, load_length, store_length, constant_length}
use Rattle.codegen.proofs.Logic.{address_length, ends_before_result, typed_within, typed_among}
use Rattle.codegen.proofs.Logic.{slice_get_within}

-- Pieces.

unless_length : (x : Bool) (i : Instr) → length (unless_unread x (i ∷ [])) ≤ 1
unless_length true i = omega arith
unless_length false i = omega arith

join_length : (x y : Bool) (a b k : ℕ) → length (join_code x y a b k) ≤ 2
join_length x y a b k =
    let e = length-append {A = Instr} in
    one_of (a == k) _ _ 2 (omega (arith, e, unless_length)) (omega (arith, e, unless_length))

taken_length : (layout : Frame) (x y : Bool) (a b r : ℕ) (within : Option ℕ)
    → length (taken_code layout x y a b r within) ≤ 7
taken_length layout x y a b r None = omega (arith, length-append {A = Instr}, unless_length)
taken_length layout x y a b r (Some control) =
    let l = control_location layout control in
    omega (arith, length-append {A = Instr}, unless_length, fetch_length l 6, join_length x y a b (register_of l 6))

kept_length : (x : Bool) (l : Location) (r : ℕ) → length (unless_unread x (kept_code l r)) ≤ 3
kept_length true l r = omega arith
kept_length false (InRegister home) r = omega arith
kept_length false (InSlot o) r = store_length r o

pub element_store_length : (r : ℕ) (kind : Kind) (o : ℕ) → length (element_store_code r kind o) ≤ 3
element_store_length r kind o = one_of (nat_lt o 2048) _ _ 3 (omega arith) (omega arith)

clear_length : (o words : ℕ) → length (clear_code o words) ≤ 16
clear_length o words = simp length-append (omega (arith, constant_length 6 o, constant_length 7 (4 * words)))

-- what is computed of an index is no longer than the index
part_nodes : (declared : List FlatVariable) (a : Allocation) (x : ℕ) (index : TermTree)
    → term_nodes (computed_index declared a x index) ≤ term_nodes index
part_nodes declared a x (binary source operator width left right) =
    of_choice (λ part. term_nodes part ≤ 1 + term_nodes left + term_nodes right)
    (is_some (sum_offset declared a x operator right)) (omega arith) (omega arith)
part_nodes declared a x index = omega arith

-- a value into an element, at an index or at the offset that the store holds
put_length : (layout : Frame) (within : Option ℕ) (x : ℕ)
    (index value : TermTree) → length (put_element_code layout within x index value)
    ≤ 32 * (1 + (1 + term_nodes index) + term_nodes value)
put_length layout None x index value =
    let kind = kind_at layout.declared x in
    let other = stored_value layout.allocation kind value in
    let nodes = stored_nodes layout.allocation kind value in
    let part = computed_index layout.declared layout.allocation x index in
    let few = part_nodes layout.declared layout.allocation x index in
    code_length (near_place layout.declared layout.allocation x index)
    (λ place. into_near_code layout kind place other)
    (index_code layout part other
    ++ put_code (read_register layout.allocation 5 part) (read_register layout.allocation 6 other) kind
    (access_offset layout.declared layout.allocation x index)) _
    (λ place. omega (arith, length-append {A = Instr}, nodes, stored_length layout other))
    (omega (arith, nodes, few, length-append {A = Instr}, read_length, address_length))
put_length layout (Some c) x index value =
    let control = control_location layout c in
    let part = computed_index layout.declared layout.allocation x index in
    let few = part_nodes layout.declared layout.allocation x index in
    code_length (near_place layout.declared layout.allocation x index)
    (λ place. put_under_near_code layout control (kind_at layout.declared x) place value)
    (index_code layout part value
    ++ put_under_code (read_register layout.allocation 5 part) (read_register layout.allocation 6 value) control
    (kind_at layout.declared x) (access_offset layout.declared layout.allocation x index)) _
    (λ place. omega (arith, length-append {A = Instr}, read_length layout 5 0 value, fetch_length control 7))
    (omega (arith, few, length-append {A = Instr}, read_length, fetch_length, address_length))

set_under_length : (r : ℕ) (l control : Location) → length (set_under_code r l control) ≤ 12
set_under_length r (InRegister home) control = simp length-append (omega (arith, fetch_length))
set_under_length r (InSlot o) control = simp length-append (omega (arith, load_length, fetch_length, store_length))

erase_under_length : (l control : Location) → length (erase_under_code l control) ≤ 11
erase_under_length (InRegister home) control = simp length-append (omega (arith, fetch_length))
erase_under_length (InSlot o) control = simp length-append (omega (arith, load_length, fetch_length, store_length))

set_length : (layout : Frame) (within : Option ℕ) (l : Location)
    (e : TermTree) → length (set_code layout within l e) + 2 ≤ 32 * (1 + term_nodes e)
set_length layout None (InRegister home) e =
    omega (arith, value_length layout home 0 e)
set_length layout None (InSlot o) e = omega (arith, assign_length layout e o)
set_length layout (Some c) l e =
    let control = control_location layout c in
    omega (
      arith,
      one_of (gives_zero layout.allocation e) (erase_under_code l control)
          (read_code layout 5 0 e ++ set_under_code (read_register layout.allocation 5 e) l control)
          (30 + 32 * term_nodes e)
          (omega (arith, erase_under_length l control))
          (omega (
            arith,
            length-append {A = Instr},
            read_length,
            set_under_length (read_register layout.allocation 5 e) l control,
          )),
    )

pub fill_length : (layout : Frame) (kind : Kind) (o : ℕ)
    (es : List TermTree) → length (fill_code layout kind o es) ≤ 32 * terms_nodes es
fill_length layout kind o [] = omega arith
fill_length layout kind o (e ∷ es) =
    let other = stored_value layout.allocation kind e in
    simp length-append (omega (
      arith,
      height e,
      stored_nodes layout.allocation kind e,
      stored_length layout other,
      element_store_length (stored_register layout.allocation other) kind o,
      fill_length layout kind (o + element_bytes kind) es,
    ))

array_length : (layout : Frame) (x size : ℕ) (es : List TermTree)
    → length (array_code layout x size es) ≤ 32 * (1 + terms_nodes es)
array_length layout x size [] =
    omega (arith, clear_length (variable_offset layout.declared x) (array_words (kind_at layout.declared x) size))
array_length layout x size (e ∷ es) =
    omega (arith, fill_length layout (kind_at layout.declared x) (variable_offset layout.declared x) (e ∷ es))

-- a statement is a node
some_nodes : (s : StraightTree) → 0 < statement_nodes s
some_nodes (set within x value) = omega arith
some_nodes (array x size values) = omega arith
some_nodes (put within place x size index value) = omega arith
some_nodes (take control within condition) = omega arith
some_nodes (branch condition accepted otherwise) = omega arith
some_nodes (repeats x low high body) = omega arith

-- Statements: at most 32 instructions a node.
module _ (layout : Frame) where
  mutual
    pub statement_length : (depth : ℕ) (s : StraightTree)
        → length (statement_code layout depth s) ≤ 32 * statement_nodes s
    statement_length depth (set within x value) =
        omega (
          arith,
          length-append {A = Instr},
          set_length layout within (variable_location layout.declared layout.allocation x) value,
          mirror_length (home_of layout.allocation.homes x) (mirror_of layout.allocation x),
        )
    statement_length depth (array x size values) = array_length layout x size values
    statement_length depth (put within place x size index value) =
        put_length layout within x index value
    statement_length depth (take control within condition) =
        omega (arith, length-append {A = Instr}, read_length, taken_length, kept_length)
    statement_length depth (branch condition accepted otherwise) =
        let xs = code_behind layout depth 0 accepted in
        let ys = code_behind layout depth 0 otherwise in
        let spans = branching_spans layout condition xs ys in
        omega (arith, spans.1, behind_length depth 0 accepted, behind_length depth 0 otherwise)
    statement_length depth (repeats x low high body) =
        let ys = code_behind layout (depth + 1) 0 body in
        let spans = repeat_spans layout depth x ys low high (any_sets x body) in
        omega (arith, spans.1, behind_length (depth + 1) 0 body)

    behind_length : (depth passed : ℕ) (b : StraightBlock)
        → length (code_behind layout depth passed b) ≤ 32 * block_nodes b
    behind_length depth passed nothing = omega arith
    behind_length depth (suc passed) (first s rest) = omega (arith, behind_length depth passed rest)
    behind_length depth zero (first s rest) =
        code_length (word_put layout.declared layout.allocation (first s rest))
        (λ word. word_code layout word ++ code_behind layout depth 3 rest) _ (32 * (statement_nodes s + block_nodes rest))
        (λ word. omega (
          arith,
          length-append {A = Instr},
          assign_length layout (variable word.variable) word.offset,
          some_nodes s,
          behind_length depth 3 rest,
        ))
        (omega (arith, length-append {A = Instr}, statement_length depth s, behind_length depth 0 rest))

  pub block_length : (depth : ℕ) (b : StraightBlock) → length (block_code layout depth b) ≤ 32 * block_nodes b
  block_length depth b = behind_length depth 0 b

-- Places.

-- an array has no more elements than bytes
elements_in_words : (kind : Kind) (size : ℕ) → size ≤ 4 * array_words kind size
elements_in_words Boolean size = omega arith
elements_in_words kind size = omega arith

-- and no more first values than elements
values_few : (size : ℕ) (es : List TermTree) → HasCount size es → length es ≤ size
values_few size [] count = omega arith
values_few size (e ∷ es) count = omega (arith, count)

module _ (profile : Profile) (layout : Frame) (declared : List FlatVariable)
    (as_many : length layout.declared ≡ length declared) (small : 4 * declared_words declared ≤ 40768)
    (laid_small : 4 * declared_words layout.declared ≤ 40768) where
  abbrev base : ℕ
  base = temporaries_offset layout

  term_placed : {e : TermTree} {word : WordType} (place : ℕ) → TermHasType (types_of profile declared) e word
      → base + 4 * slots_to layout.allocation.count (height_of e + place) ≤ 65536
      → IsPlaced layout place e
  term_placed {e = e} place has room =
      (subst (λ n. IsAmong n e) (sym as_many) (typed_among profile declared has), room)

  -- a variable that is typed is laid out
  is_laid : (x : ℕ) (d : FlatVariable) → slice_get declared x ≡ Some d → x < length layout.declared
  is_laid x d known = omega (arith, slice_get_within declared x d known, as_many)

  values_placed : (x : ℕ) (word : WordType) (es : List TermTree) → AllSuit (types_but profile declared x) word es
      → base + 4 * slots_to layout.allocation.count (height_of_all es) ≤ 65536
      → ArePlacedTerms layout es
  values_placed x word [] suit room = tt
  values_placed x word (e ∷ es) suit room = (
    (
      typed_within (length layout.declared) (types_but profile declared x)
          (λ y d is. is_laid y d (when_not (y == x) (slice_get declared y) d is))
          suit.0.has_type,
      omega (arith, room),
    ),
    values_placed x word es suit.1 (omega (arith, room)),
  )

  fits_in_frame : (x size : ℕ) (word : WordType) (mutable : Bool)
      → slice_get declared x ≡ Some (array_as word mutable size)
      → (size ≤ 65536) × (variable_offset layout.declared x + 4 * size ≤ 262144)
  fits_in_frame x size word mutable known =
      let e = ends_before_result declared x (array_as word mutable size) known in
      let n = elements_in_words word.kind size in
      let before = first_words x layout.declared in
      (omega (arith, e, n, small), omega (arith, e, n, small, before, laid_small))

  mutual
    statement_placed : (depth : ℕ) (s : StraightTree) → IsTyped profile declared layout.controls s
        → base + 4 * slots_to layout.allocation.count (height_in s) ≤ 65536 → depth + depth_in s ≤ layout.depths
        → HasPlace layout depth s
    statement_placed depth (set within x value) typed room deep = (
      typed.0,
      is_laid x _ typed.1.known,
      term_placed 0 typed.1.suits.has_type (omega (arith, room)),
    )
    statement_placed depth (array x size values) typed room deep =
        let fits = fits_in_frame x size typed.word typed.mutable typed.known in (
          is_laid x _ typed.known,
          fits.0,
          values_placed x typed.word values typed.suit room,
          omega (arith, fits.1, values_few size values typed.count),
        )
    statement_placed depth (put within place x size index value) typed room deep = (
      typed.0,
      is_laid x _ typed.1.known,
      term_placed 0 typed.1.index_type (omega (arith, room)),
      term_placed 1 typed.1.suits.has_type (omega (arith, room)),
    )
    statement_placed depth (take control within condition) typed room deep =
        (typed.0, typed.1, term_placed 0 typed.2.1 (omega (arith, room)))
    statement_placed depth (branch condition accepted otherwise) typed room deep = (
      term_placed 0 typed.0 (omega (arith, room)),
      blocks_placed depth accepted typed.1 (omega (arith, room)) (omega (arith, deep)),
      blocks_placed depth otherwise typed.2 (omega (arith, room)) (omega (arith, deep)),
    )
    statement_placed depth (repeats x low high body) typed room deep = (
      is_laid x _ typed.2,
      omega (arith, deep),
      term_placed 0 typed.0 (omega (arith, room)),
      term_placed 0 typed.1 (omega (arith, room)),
      blocks_placed (depth + 1) body typed.3 (omega (arith, room)) (omega (arith, deep)),
    )

    pub blocks_placed : (depth : ℕ) (b : StraightBlock) → AreTyped profile declared layout.controls b
        → base + 4 * slots_to layout.allocation.count (height_in_all b) ≤ 65536 → depth + depth_in_all b ≤ layout.depths
        → HavePlaces layout depth b
    blocks_placed depth nothing typed room deep = tt
    blocks_placed depth (first s rest) typed room deep = (
      statement_placed depth s typed.0 (omega (arith, room)) (omega (arith, deep)),
      blocks_placed depth rest typed.1 (omega (arith, room)) (omega (arith, deep)),
    )
