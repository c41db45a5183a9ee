-- The instructions that are emitted for statements.
use Rattle.std.specs.Prelude.{ℕ, zero, suc, ◌+◌, ◌*◌, ◌==◌, Bool, true, false, List, [], ◌∷◌, ◌++◌, Option, None, Some}
use Rattle.std.specs.Prelude.{if◌then◌else◌}
use Rattle.codegen.specs.Below.{Add, Addi, And, array, array_words, Boolean, branch, element_bytes, first}
use Rattle.codegen.specs.Below.{Immediate, Instr, Kind, Load, Lui, nothing, put, Register, repeats, Sb, set, Sh, Store}
use Rattle.codegen.specs.Below.{StoreOperation, StraightBlock, StraightTree, Sub, Sw, take, TermTree, Uint16, Uint32}
use Rattle.codegen.specs.Below.{Uint8, Upper, Xor}
pub use Rattle.codegen.specs.private.Compared.{branching_code}
use Rattle.codegen.specs.private.Jumps.{loop_code}
pub use Rattle.codegen.specs.private.Erased.{erase_code, erase_under_code}
pub use Rattle.codegen.specs.private.Loops.{any_sets, bounds_code, count_code, repeat_code, sets, test_code}
pub use Rattle.codegen.specs.private.StoredValues.{cuts, stored_value, uncut}
pub use Rattle.codegen.specs.private.Words.{assign_code, home_of_term, home_or, put_word_code, read_code}
pub use Rattle.codegen.specs.private.Words.{gives_zero, read_register, stored_code, stored_register}
pub use Rattle.codegen.specs.private.Words.{unless_home}
pub use Rattle.codegen.specs.private.WordPuts.{word_code, word_put}
use Rattle.expression_code.specs.Allocation.{is_unread, register_of}
use Rattle.expression_code.specs.Layout.{Frame, variable_offset, variable_location, control_location}
use Rattle.expression_code.specs.Layout.{term_layout}
use Rattle.expression_code.specs.Registers.{zero_register, frame_register, value_register, second_register}
use Rattle.expression_code.specs.Registers.{third_register, address_register, first_spare}
use Rattle.expression_code.specs.TermCode.{is_near, upper_part, lower_part, load_code, store_code}
use Rattle.expression_code.specs.TermCode.{constant_code}
use Rattle.expression_code.specs.TermCode.{address_code, load_by, kind_at, near_place, near_code, code_by}
use Rattle.expression_code.specs.TermCode.{fetch_code, in_frame, into_code, computed_index, access_offset}
use Rattle.expression_code.specs.TermCode.{mirror_code}
use Rattle.expression_code.specs.declared.emit.NearPlace.{NearPlace}
use Rattle.expression_code.specs.declared.locations.Location.{Location}
use Rattle.expression_code.specs.declared.locations.Location.TheVariants.{InRegister, InSlot}

-- A control value is a mask: all ones where it is true, and 0 where it is not. It is in its home, or in its slot, or
-- nowhere, where nothing reads it.

-- no code is needed for what nothing reads
abbrev pub unless_unread : Bool → List Instr → List Instr
unless_unread true is = []
unless_unread false is = is

-- of a condition in a register, into two registers the mask for where it is true, and that for where it is not, but
-- for one that nothing reads
abbrev pub masks_code : Bool → Bool → ℕ → ℕ → ℕ → List Instr
masks_code unread unread' accepted otherwise condition =
    unless_unread unread (Register Sub accepted zero_register condition ∷ [])
    ++ unless_unread unread' (Immediate Addi otherwise condition 4095 ∷ [])

-- both masks joined with one in a register, into two registers; where the first of them has that one itself, it is
-- written last
abbrev pub join_code : Bool → Bool → ℕ → ℕ → ℕ → List Instr
join_code unread unread' accepted otherwise mask =
    if accepted == mask
    then unless_unread unread' (Register And otherwise value_register mask ∷ [])
    ++ unless_unread unread (Register And accepted third_register mask ∷ [])
    else unless_unread unread (Register And accepted third_register mask ∷ [])
    ++ unless_unread unread' (Register And otherwise value_register mask ∷ [])

-- the masks of a condition in a register, of which some are unread, into two registers, joined with the enclosing
-- control value, where there is one
abbrev pub taken_code : Frame → Bool → Bool → ℕ → ℕ → ℕ → Option ℕ → List Instr
taken_code layout unread unread' accepted otherwise condition None =
    masks_code unread unread' accepted otherwise condition
taken_code layout unread unread' accepted otherwise condition (Some control) =
    masks_code unread unread' third_register value_register condition
    ++ fetch_code (control_location layout control) second_register
    ++ join_code unread unread' accepted otherwise
    (register_of (control_location layout control) second_register)

-- a register into the slot of a word that has no home
abbrev pub kept_code : Location → ℕ → List Instr
kept_code (InRegister home) register = []
kept_code (InSlot offset) register = store_code register offset

-- of three registers, the new word where the mask is all ones, and the old one where it is 0, into another; t is
-- written too
abbrev pub merge_code : ℕ → ℕ → ℕ → ℕ → ℕ → List Instr
merge_code d t new old mask = Register Xor t new old ∷ Register And t t mask ∷ Register Xor d old t ∷ []

-- Words.

-- a register's value where a control value is true, and else the old one, into a variable
abbrev pub set_under_code : ℕ → Location → Location → List Instr
set_under_code value (InRegister home) control =
    fetch_code control third_register
    ++ merge_code home value_register value home (register_of control third_register)
set_under_code value (InSlot offset) control =
    load_code second_register offset ++ fetch_code control third_register
    ++ merge_code value_register value_register value second_register (register_of control third_register)
    ++ store_code value_register offset

-- the value of an expression into a variable; within a control value where that is true, and else the old one
abbrev pub set_code : Frame → Option ℕ → Location → TermTree → List Instr
set_code layout None (InRegister home) e = into_code (term_layout layout) home 0 e
set_code layout None (InSlot offset) e = assign_code layout e offset
set_code layout (Some control) variable e =
    if gives_zero layout.allocation e then erase_under_code variable (control_location layout control)
    else read_code layout value_register 0 e
    ++ set_under_code (read_register layout.allocation value_register e) variable (control_location layout control)

-- Arrays.

-- an element's store is as wide as the element
abbrev pub store_by : Kind → StoreOperation
store_by Boolean = Sb
store_by Uint8 = Sb
store_by Uint16 = Sh
store_by Uint32 = Sw

-- a register into an element that is reached at once
abbrev pub near_store_code : ℕ → Kind → NearPlace → List Instr
near_store_code value kind place = Store (store_by kind) value place.base place.offset ∷ []

-- a register into an element of a fixed place
abbrev pub element_store_code : ℕ → Kind → ℕ → List Instr
element_store_code value kind offset =
    if is_near offset
    then near_store_code value kind (in_frame offset)
    else Upper Lui address_register (upper_part offset)
    ∷ Register Add address_register address_register frame_register
    ∷ Store (store_by kind) value address_register (lower_part offset) ∷ []

-- all words of an array become 0: from the address in one register up to that in another
abbrev pub clear_code : ℕ → ℕ → List Instr
clear_code offset words =
    constant_code second_register offset
    ++ Register Add second_register second_register frame_register ∷ []
    ++ constant_code third_register (4 * words)
    ++ Register Add third_register third_register second_register ∷ []
    ++ loop_code
    (Register Sub value_register third_register second_register ∷ [])
    (Store Sw zero_register second_register 0 ∷ Immediate Addi second_register second_register 4 ∷ [])

-- the value of an expression into an element of a fixed place
abbrev pub into_element_code : Frame → Kind → ℕ → TermTree → List Instr
into_element_code layout kind offset e =
    stored_code layout e ++ element_store_code (stored_register layout.allocation e) kind offset

-- values into the elements from this one on
abbrev pub fill_code : Frame → Kind → ℕ → List TermTree → List Instr
fill_code layout kind offset [] = []
fill_code layout kind offset (e ∷ es) =
    into_element_code layout kind offset (stored_value layout.allocation kind e)
    ++ fill_code layout kind (offset + element_bytes kind) es

-- the first values of an array of so many elements, or zeros where none are given
abbrev pub array_code : Frame → ℕ → ℕ → List TermTree → List Instr
array_code layout x size [] =
    clear_code (variable_offset layout.declared x) (array_words (kind_at layout.declared x) size)
array_code layout x size (e ∷ es) =
    fill_code layout (kind_at layout.declared x) (variable_offset layout.declared x) (e ∷ es)

-- an index and a value, the first two temporaries where they are not at home
abbrev pub index_code : Frame → TermTree → TermTree → List Instr
index_code layout index value =
    read_code layout value_register 0 index ++ read_code layout second_register 1 value

-- of an index and a value in registers, the value into the element at the index
abbrev pub put_code : ℕ → ℕ → Kind → ℕ → List Instr
put_code index value kind offset =
    address_code value_register index kind offset
    ++ Store (store_by kind) value value_register (lower_part offset) ∷ []

-- or into one that is reached at once
abbrev pub into_near_code : Frame → Kind → NearPlace → TermTree → List Instr
into_near_code layout kind place e =
    stored_code layout e ++ near_store_code (stored_register layout.allocation e) kind place

-- the value of an expression into the element of a kind at an index, which the store may reach at once
abbrev pub put_value_code : Frame → Kind → ℕ → TermTree → TermTree → List Instr
put_value_code layout kind x index value =
    code_by (near_place layout.declared layout.allocation x index)
    (λ place. into_near_code layout kind place value)
    (let part = computed_index layout.declared layout.allocation x index in
    index_code layout part value
    ++ put_code (read_register layout.allocation value_register part)
    (read_register layout.allocation second_register value) kind
    (access_offset layout.declared layout.allocation x index))

-- the value where the control value is true, and else the old one, into the element
abbrev pub put_under_code : ℕ → ℕ → Location → Kind → ℕ → List Instr
put_under_code index value control kind offset =
    address_code value_register index kind offset
    ++ Load (load_by kind) third_register value_register (lower_part offset) ∷ []
    ++ fetch_code control first_spare
    ++ merge_code second_register second_register value third_register (register_of control first_spare)
    ++ Store (store_by kind) second_register value_register (lower_part offset) ∷ []

-- the same of the value of an expression, into the element that its load and its store reach at once
abbrev pub put_under_near_code : Frame → Location → Kind → NearPlace → TermTree → List Instr
put_under_near_code layout control kind place value =
    read_code layout value_register 0 value ++ near_code second_register kind place
    ++ fetch_code control third_register
    ++ merge_code value_register value_register (read_register layout.allocation value_register value) second_register
    (register_of control third_register)
    ++ near_store_code value_register kind place

-- what is put into the element at an index for an expression; within a control value where that is true, and else the
-- old one
abbrev pub put_element_code : Frame → Option ℕ → ℕ → TermTree → TermTree → List Instr
put_element_code layout None x index value =
    put_value_code layout (kind_at layout.declared x) x index
    (stored_value layout.allocation (kind_at layout.declared x) value)
put_element_code layout (Some control) x index value =
    code_by (near_place layout.declared layout.allocation x index)
    (λ place. put_under_near_code layout (control_location layout control) (kind_at layout.declared x) place value)
    (let part = computed_index layout.declared layout.allocation x index in
    index_code layout part value
    ++ put_under_code (read_register layout.allocation value_register part)
    (read_register layout.allocation second_register value) (control_location layout control)
    (kind_at layout.declared x) (access_offset layout.declared layout.allocation x index))

-- Statements of a program that is laid out so.
module _ (layout : Frame) where
  -- where a variable is
  abbrev pub location : ℕ → Location
  location x = variable_location layout.declared layout.allocation x

  -- where a control value is
  abbrev pub control_at : ℕ → Location
  control_at control = control_location layout control

  abbrev mutual
    -- of a statement that so many loops are around
    pub statement_code : ℕ → StraightTree → List Instr
    statement_code depth (set within x value) =
        set_code layout within (location x) value ++ mirror_code layout.allocation x
    statement_code depth (array x size values) = array_code layout x size values
    statement_code depth (put within place x size index value) = put_element_code layout within x index value
    statement_code depth (take control within condition) =
        read_code layout value_register 0 condition
        ++ taken_code layout (is_unread layout.allocation control) (is_unread layout.allocation (control + 1))
        (register_of (control_at control) third_register) (register_of (control_at (control + 1)) value_register)
        (read_register layout.allocation value_register condition) within
        ++ unless_unread (is_unread layout.allocation control) (kept_code (control_at control) third_register)
        ++ unless_unread (is_unread layout.allocation (control + 1))
        (kept_code (control_at (control + 1)) value_register)
    statement_code depth (branch condition accepted otherwise) =
        branching_code layout condition (code_behind depth 0 accepted) (code_behind depth 0 otherwise)
    statement_code depth (repeats x low high body) =
        repeat_code layout depth x low high (any_sets x body) (code_behind (depth + 1) 0 body)

    -- of statements behind so many first ones; where they begin with four that put a word, that is stored for these
    pub code_behind : ℕ → ℕ → StraightBlock → List Instr
    code_behind depth passed nothing = []
    code_behind depth (suc passed) (first statement rest) = code_behind depth passed rest
    code_behind depth zero (first statement rest) =
        code_by (word_put layout.declared layout.allocation (first statement rest))
        (λ word. word_code layout word ++ code_behind depth 3 rest)
        (statement_code depth statement ++ code_behind depth 0 rest)

  -- of statements, one after the other
  abbrev pub block_code : ℕ → StraightBlock → List Instr
  block_code depth block = code_behind depth 0 block
