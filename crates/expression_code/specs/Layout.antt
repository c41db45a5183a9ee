-- Where a program's words lie in the frame: the variables, of which the parameters are the first, then the result,
-- the control values, two words for each loop that others are in, and the temporaries. All these offsets are
-- multiples of 4. A variable that lives in a register takes no words, unless it is a parameter.
use Rattle.std.specs.Prelude.{ℕ, ◌+◌, ◌-◌, ◌*◌, ◌||◌, Bool, List, [], ◌∷◌, Option, None, Some, is_none, length}
use Rattle.std.specs.Prelude.{nat_lt, take, if◌then◌else◌}
use Rattle.expression_code.specs.Allocation.{Allocation, home_of, at_home}
use Rattle.expression_code.specs.declared.locations.Location.{Location}
use Rattle.expression_code.specs.declared.locations.Location.TheVariants.{InSlot}
use Rattle.expression_code.specs.declared.image_fields.slot.Slot.{Slot}
use Rattle.expression_code.specs.Below.{declaration_of, declared_words, element_bytes, FlatVariable, Kind, Param}
use Rattle.expression_code.specs.Below.{words_of}

-- whether the word x has a slot: it has no home, or it is one of the first so many, the parameters
abbrev pub has_slot : ℕ → List (Option ℕ) → ℕ → Bool
has_slot given homes x = nat_lt x given || is_none (home_of homes x)

-- a variable that takes no words, as an array of no elements
abbrev pub without_words : FlatVariable → FlatVariable
without_words d = record { word = d.word; mutable = d.mutable; elements = Some 0 }

-- how variables are laid out, from the one of number x on, where so many first ones are parameters
abbrev pub slotted_from : ℕ → List (Option ℕ) → ℕ → List FlatVariable → List FlatVariable
slotted_from given homes x [] = []
slotted_from given homes x (d ∷ ds) =
    (if has_slot given homes x then d else without_words d) ∷ slotted_from given homes (x + 1) ds

abbrev pub slotted : ℕ → List (Option ℕ) → List FlatVariable → List FlatVariable
slotted given homes declared = slotted_from given homes 0 declared

-- what is laid out: variables as they take words, control values, and loops one in the other; and how registers are
-- given out
pub record Frame : Type 0 where
  pub declared : List FlatVariable
  pub controls : ℕ
  pub depths : ℕ
  pub allocation : Allocation

-- the part of a layout that the code of expressions goes by: the variables as they take words, how registers are given
-- out, and where the slots of temporaries begin
pub record TermLayout : Type 0 where
  pub declared : List FlatVariable
  pub allocation : Allocation
  pub free : ℕ

-- a variable, behind all of lower numbers
abbrev pub variable_offset : List FlatVariable → ℕ → ℕ
variable_offset declared x = 4 * declared_words (take x declared)

-- where a variable is
abbrev pub variable_location : List FlatVariable → Allocation → ℕ → Location
variable_location declared allocation x = at_home (home_of allocation.homes x) (InSlot (variable_offset declared x))

-- how many bytes a word takes, or an element
abbrev pub bytes_by : Kind → Option ℕ → ℕ
bytes_by kind None = 4
bytes_by kind (Some size) = element_bytes kind

abbrev pub bytes_of : FlatVariable → ℕ
bytes_of d = bytes_by d.word.kind d.elements

-- where the i-th number of a variable lies
abbrev pub place_of : List FlatVariable → ℕ → FlatVariable → ℕ → ℕ
place_of declared x d i = variable_offset declared x + bytes_of d * i

-- behind all variables
abbrev pub result_offset : List FlatVariable → ℕ
result_offset declared = 4 * declared_words declared

abbrev pub control_offset : List FlatVariable → ℕ → ℕ
control_offset declared control = result_offset declared + 4 + 4 * control

-- where a control value is
abbrev pub control_location : Frame → ℕ → Location
control_location layout control =
    at_home (home_of layout.allocation.homes (length layout.declared + control))
    (InSlot (control_offset layout.declared control))

-- the slot of a word that may have a home: a variable, and behind all variables a control value
abbrev pub word_offset : List FlatVariable → ℕ → ℕ
word_offset declared number = if nat_lt number (length declared) then variable_offset declared number
    else control_offset declared (number - length declared)

-- behind all control values, for the loop that so many others are around: the number that its counter is next
abbrev pub next_offset : Frame → ℕ → ℕ
next_offset layout depth = result_offset layout.declared + 4 + 4 * layout.controls + 8 * depth

-- behind all control values and loops, where the slots of temporaries begin
abbrev pub temporaries_offset : Frame → ℕ
temporaries_offset layout = result_offset layout.declared + 4 + 4 * layout.controls + 8 * layout.depths

-- the part of a layout that the code of expressions goes by
abbrev pub term_layout : Frame → TermLayout
term_layout layout = record {
  declared = layout.declared;
  allocation = layout.allocation;
  free = temporaries_offset layout;
}

-- the parameters with their slots, the first at `low`
abbrev pub slots_from : ℕ → List Param → List Slot
slots_from low [] = []
slots_from low (p ∷ ps) = record { param = p; offset = low } ∷ slots_from (low + 4 * words_of (declaration_of p)) ps

-- where variables lie, the first at `low`, and behind them what comes next
abbrev pub offsets_from : ℕ → List FlatVariable → List ℕ
offsets_from low [] = low ∷ []
offsets_from low (d ∷ ds) = low ∷ offsets_from (low + 4 * words_of d) ds
