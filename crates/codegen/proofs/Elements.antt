-- Where an element of an array lies, and how its index and a value for it come into registers.
use Rattle.std.proofs.Common.{◌≡◌, ℕ, ◌+◌, ◌*◌, ◌%◌, ◌^◌, ◌<◌, ◌≤◌, Bool, if◌then◌else◌, List, [], ◌∷◌, ◌++◌, Option}
use Rattle.std.proofs.Common.{None, Some, slice_get, refl, sym, ap, ap₂, subst, ◌∙◌, arith, ◌≢◌, append_assoc, inl, inr}
use Rattle.codegen.proofs.Language.{FlatVariable, StraightState, with_element, element_bytes, TermTree, array_as}
use Rattle.codegen.proofs.Language.{term_nodes, value_in, path_in, indexed, WordType, Kind, Boolean, bits_of, Place}
use Rattle.codegen.proofs.Language.{counter_type, TermHasType, holds, nodes_work, path_at, put, IsElementSet, types_of}
use Rattle.codegen.proofs.Logic.{register-at, lower_fits, Addressed, address_runs, array_lies, steps_of, kind_known}
use Rattle.codegen.proofs.Logic.{HomesKept}
use Rattle.codegen.proofs.Logic.{layout_of}
use Rattle.codegen.proofs.Logic.{homes_by, HeldAt, free_from, storing, place_of, place_even, place_before, place_ends}
use Rattle.codegen.proofs.Logic.{Before, Setting, setting, base_of, IsReached, MarkKnown, by_index, by_option, none, Runs}
use Rattle.codegen.proofs.Logic.{quiet, weaken, gives, as_code, Ready, Wrote, place_reached, along}
use Rattle.codegen.proofs.Logic.{cheaper, computed_part, IsPart}
use Rattle.codegen.proofs.Machine.{store_by, slots_to, kind_at, Instr, home_of, lower_part, store_size}
use Rattle.codegen.proofs.Machine.{address_of, byte_count, index_code, read_code, read_register, height_of_put}
use Rattle.codegen.proofs.Machine.{access_offset, address_code, code_by, computed_index, near_place, NearPlace, with_number}
use Rattle.rv_code.specs.declared.instructions.Instr.TheVariants as instr
use Rattle.rv_machine.specs.Machine as machine
use Rattle.codegen.specs.Below.{register}
use Rattle.codegen.specs.private.Emitted.{near_store_code}
use Rattle.codegen.proofs.PairRuns.{FirstRead, read_then, second_runs}
use Rattle.codegen.proofs.Slots.{StateShown, ready_with, IsSourceRegister, read_source, source_apart, Hidden}
use Rattle.codegen.proofs.Slots.{hidden_then, hidden_by, hidden_kept, hidden_wrote, ready_put}

pub store_bytes : (kind : Kind) → byte_count (store_size (store_by kind)) ≡ element_bytes kind
store_bytes Boolean = refl
store_bytes kind = refl

-- One element, at an index.

-- an array's element at an index, and a value that is read for it, where so many loops are around
pub record ElementAccess (z : Setting) : Type 0 where
  pub depth : ℕ
  pub within : depth ≤ z.depths
  pub place : Place
  pub x : ℕ
  pub size : ℕ
  pub word : WordType
  pub mutable : Bool
  pub known : slice_get z.declared x ≡ Some (array_as word mutable size)
  pub index : TermTree
  pub index_type : TermHasType (types_of z.code.profile z.declared) index counter_type
  pub part : TermTree
  pub offset : ℕ
  pub computed : IsPart z x size word mutable index part offset
  pub value : TermTree
  pub own : WordType
  pub value_type : TermHasType (types_of z.code.profile z.declared) value own
  pub room : base_of z + 4 * slots_to z.allocation.count (height_of_put index value) ≤ z.size

-- that of a statement that puts one, where this is read for its value
abbrev pub put_access : (z : Setting) (depth : ℕ) → depth ≤ z.depths → (place : Place) (x size : ℕ) (index : TermTree)
    {value : TermTree} → IsElementSet z.code.profile z.declared x size index value → (e : TermTree) (own : WordType)
    → TermHasType (types_of z.code.profile z.declared) e own
    → base_of z + 4 * slots_to z.allocation.count (height_of_put index e) ≤ z.size → ElementAccess z
put_access z depth within place x size index typed e own has room = record {
  depth = depth;
  within = within;
  place = place;
  x = x;
  size = size;
  word = typed.word;
  mutable = typed.mutable;
  known = typed.known;
  index = index;
  index_type = typed.index_type;
  part = computed_index z.laid z.allocation x index;
  offset = access_offset z.laid z.allocation x index;
  computed = computed_part z x size typed.word typed.mutable typed.known typed.index_type refl;
  value = e;
  own = own;
  value_type = has;
  room = room;
}

module _ (z : Setting) (access : ElementAccess z) where
  abbrev pub kind : Kind
  kind = access.word.kind

  abbrev pub array : FlatVariable
  array = array_as access.word access.mutable access.size

  pub lies : slice_get z.laid access.x ≡ Some array
  lies = array_lies z access.x access.size access.word access.mutable access.known

  abbrev pub offset : ℕ
  offset = access.offset

  -- no array has a home
  pub away : home_of z.allocation.homes access.x ≡ None
  away = z.allocated.words access.x array access.size access.known refl

  -- where an element lies
  abbrev pub element_at : ℕ → ℕ
  element_at i = place_of z.laid access.x array i

  abbrev pub number_of : StraightState → ℕ
  number_of env = value_in env.variables access.index

  -- and what of it is computed
  abbrev pub part_of : StraightState → ℕ
  part_of env = value_in env.variables access.part

  abbrev pub value_of : StraightState → ℕ
  value_of env = value_in env.variables access.value

  -- where they are: at home, or in the registers of the first two temporaries
  abbrev pub index_register : ℕ
  index_register = read_register z.allocation 5 access.part

  abbrev pub value_register : ℕ
  value_register = read_register z.allocation 6 access.value

  pub index_source : IsSourceRegister z 5 index_register
  index_source = read_source z access.part 5 (omega arith) (omega arith)

  pub value_source : IsSourceRegister z 6 value_register
  value_source = read_source z access.value 6 (omega arith) (omega arith)

  -- the value is not in the register of the first temporary
  pub value_beside : value_register ≢ 5
  value_beside = source_apart z value_source 5 (omega arith) (omega arith)

  -- what is computed of an index and a value are in their registers
  pub record Aimed (i : ℕ) (env : StraightState) (s : machine.State) : Type 0 where
    pub ready : Ready z env s
    pub is : number_of env ≡ i
    pub five : s.regs index_register ≡ part_of env
    pub six : s.regs value_register ≡ value_of env

  pub addressed_at : (i : ℕ) → i < access.size
      → Runs z 4 none (address_code 5 index_register kind offset) (Aimed i)
      (λ env s t. Addressed z 5 offset (element_at i) env s t)
  addressed_at i below =
      weaken
      (λ env s fine aimed.
      let at = access.computed.at i below env.variables aimed.is in
      (aimed.ready.held, aimed.five, at, omega (arith, place_ends z access.x array i lies below)))
      (λ env s t fine aimed done. done)
      (address_runs z 5 index_register (free_from 5 (omega arith) (omega arith))
      (free_from index_register index_source.low (omega (arith, index_source.high))) (omega arith)
      kind offset part_of (λ env. element_at i))

  -- a register into an element that is reached at once
  pub stores_near : (r : ℕ) → r < 32 → (i : ℕ) → i < access.size → (place : NearPlace) → place.base < 28
      → place.offset < 2048
      → Runs z 1 none (near_store_code r kind place) (λ env s. HeldAt z s
      × (address_of s.regs place.base place.offset ≡ z.frame + element_at i))
      (λ env s t. Wrote z (element_bytes kind) (element_at i) (register s.regs r) s t)
  stores_near r small i below place base near =
      let n = store_bytes kind in
      gives
      (λ env s t fine given done. record {
        held = done.0;
        written = done.1.bytes ∙ ap (λ m. with_number s.bytes m (z.frame + element_at i) (register s.regs r)) n;
        homes = homes_by z s t done.1.regs;
      })
      (storing z place.base place.offset (element_at i) (omega (arith, base)) (omega (arith, near)) (store_by kind) r
      small (ap (λ m. element_at i % m) n ∙ place_even z.laid access.x array i)
      (omega (arith, place_ends z access.x array i lies below)))

  -- a register into an element
  pub stores : (r : ℕ) → r < 32 → r ≢ 0 → (i : ℕ) → i < access.size
      → Runs z 1 none (instr.Store (store_by kind) r 5 (lower_part offset) ∷ []) (λ env s. HeldAt z s
      × (address_of s.regs 5 (lower_part offset) ≡ z.frame + element_at i))
      (λ env s t. Wrote z (element_bytes kind) (element_at i) (s.regs r) s t)
  stores r small nonzero i below =
      let n = store_bytes kind in
      gives
      (λ env s t fine given done. record {
        held = done.0;
        written = done.1.bytes ∙ ap₂ (λ m v. with_number s.bytes m (z.frame + element_at i) v) n
            (register-at s.regs r nonzero);
        homes = homes_by z s t done.1.regs;
      })
      (storing z 5 (lower_part offset) (element_at i) (omega arith) (lower_fits offset) (store_by kind) r small
      (ap (λ m. element_at i % m) n ∙ place_even z.laid access.x array i)
      (omega (arith, place_ends z access.x array i lies below)))

  -- what an element's store leaves, where only registers had changed before
  pub put_at : (i v w : ℕ) → i < access.size → v < 2 ^ bits_of kind → w % 256 ^ element_bytes kind ≡ v
      → (env : StraightState) (s m t : machine.State) → Ready z env s → HeldAt z m → m.bytes ≡ s.bytes
      → HomesKept z s m → Wrote z (element_bytes kind) (element_at i) w m t
      → Hidden z access.depth s t × Ready z (with_element env access.x i v) t
  put_at i v w below fits cut env s m t ready held same homes wrote =
      let b = place_before z access.x array i lies below in (
        hidden_then z access.depth s m t (hidden_by z access.depth s m same)
            (hidden_wrote z access.depth (element_bytes kind) (element_at i) w m t (omega arith) wrote),
        ready_put z access.x i v w array access.known away below fits env m t
            (ready_with z env s m ready held same homes) wrote cut,
      )

  -- The index and the value.

  value_piece : (i : ℕ)
      → Runs z (16 * term_nodes access.value) (steps_of access.value)
      (read_code (layout_of z) 6 1 access.value)
      (MarkKnown (setting z) ℕ (λ j. j < access.size) (FirstRead z access.part) number_of i)
      (λ env s t. Aimed i env t × Hidden z access.depth s t)
  value_piece i =
      weaken {P' = MarkKnown (setting z) ℕ (λ j. j < access.size) (FirstRead z access.part) number_of i}
      (λ env s fine given. given.given)
      (λ env s t fine given both.
      assumption (both.first_there, given.is, hidden_kept z access.depth s t access.within both.kept))
      (second_runs z access.part access.value access.value_type (omega arith))

  -- The index, and behind its mark what is done at it.
  pub at_element : {n : ℕ} {tail : List Instr} (change : StraightState → StraightState)
      → ((i : ℕ) → i < access.size
      → Runs z n none tail (Aimed i) (λ env s t. Hidden z access.depth s t
      × (number_of env ≡ i → Ready z (change env) t)))
      → Runs z (16 * term_nodes access.index + (16 * term_nodes access.value + n))
      (λ env. path_in env.variables access.index ++ indexed access.place access.size (number_of env)
      ∷ path_in env.variables access.value)
      (index_code (layout_of z) access.part access.value ++ tail) (Ready z)
      (StateShown z access.depth change)
  at_element {tail = tail} change act =
      along (λ env. ap (λ p. p ++ indexed access.place access.size (number_of env) ∷ path_in env.variables access.value)
      (access.computed.path env.variables))
      (cheaper (omega (arith, access.computed.nodes))
      (as_code (append_assoc (read_code (layout_of z) 5 0 access.part)
      (read_code (layout_of z) 6 1 access.value) tail)
      (read_then z access.depth access.within access.computed.has_type (omega (arith, access.computed.height))
      (by_index z {P = FirstRead z access.part} access.place access.size number_of
      (λ i below.
      gives {R = StateShown z access.depth change}
      (λ env s t fine given done. record {
        ready = done.second.1 given.is;
        hidden = hidden_then z access.depth s done.middle t done.first.1 done.second.0;
      })
      (quiet (value_piece i) (act i below) (λ env s t given done. done.0)))))))

  pub kind_is : kind_at z.laid access.x ≡ kind
  kind_is = kind_known z.laid access.x array lies

  -- a place where an access reaches the element at once
  abbrev pub Reached : NearPlace → Type 0
  Reached place = IsReached z access.x access.size access.word access.mutable access.index place

  pub base_small : (place : NearPlace) → Reached place → place.base < 28
  base_small place reached = elim reached.base [ inl frame ↦ omega arith | inr home ↦ omega arith ]

  -- the index is this one
  abbrev pub At : ℕ → Before
  At i = MarkKnown (setting z) ℕ (λ j. j < access.size) (Ready z) number_of i

  -- An element that is set to a value, where an enclosing control value is true.
  module _ (within : Option ℕ) (value : TermTree) where
    -- the one at this index
    abbrev pub put_with : ℕ → StraightState → StraightState
    put_with i env = if holds env within then with_element env access.x i (value_in env.variables value) else env

    -- what code does that puts it
    abbrev pub Puts : List Instr → Type 0
    Puts code =
        Runs z (32 * nodes_work (term_nodes access.index + term_nodes value))
        (λ env. path_at env (put within access.place access.x access.size access.index value)) code (Ready z)
        (StateShown z access.depth (λ env. put_with (number_of env) env))

    -- the code where its access reaches the element at once, and what that does at each index
    module _ {n : ℕ} (few : n ≤ 16 * term_nodes value + 16) (code : NearPlace → List Instr)
        (one : (place : NearPlace) → Reached place → (i : ℕ) → i < access.size
        → Runs z n (steps_of value) (code place) (At i) (StateShown z access.depth (put_with i))) where
      near_runs : (place : NearPlace) → Reached place → Puts (code place)
      near_runs place reached =
          along (λ env. ap (λ p. p ++ indexed access.place access.size (number_of env) ∷ path_in env.variables value)
          (reached.quiet env.variables))
          (cheaper (omega arith)
          (by_index z {P = Ready z} access.place access.size number_of
          (λ i below. gives {P = At i}
          (λ env s t fine given done. record {
            ready = subst (λ j. Ready z (put_with j env) t) (sym given.is) done.ready;
            hidden = done.hidden;
          })
          (one place reached i below))))

      -- of that code and the one for an index in a register, the one that is emitted
      pub put_by : {far : List Instr} → Puts far
          → Puts (code_by (near_place z.laid z.allocation access.x access.index) code far)
      put_by far_runs =
          by_option (near_place z.laid z.allocation access.x access.index)
          (λ place is. near_runs place
          (place_reached z access.x access.size access.word access.mutable access.known access.index_type refl place is))
          (λ none. far_runs)
