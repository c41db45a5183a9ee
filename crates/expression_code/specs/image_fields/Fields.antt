-- The fields of an image, and which values they may have.
use Rattle.std.specs.Prelude.{◌≡◌, ℕ, ◌+◌, ◌*◌, ◌%◌, ◌^◌, ◌<◌, ◌≤◌, ◌==◌, nat_le, Bool, true, ◌&&◌, List, [], ◌∷◌}
use Rattle.std.specs.Prelude.{length, Option, IfSome}
use Rattle.std.specs.List.{AllByRecursion}
use Rattle.word.specs.declared.profile.Profile.{Profile}
use Rattle.expression_code.specs.Below.{FixedArray, Form, held_words, Kind, most_elements, MutableArray, SingleWord}
use Rattle.expression_code.specs.Below.{WordType}
use Rattle.expression_code.specs.image_fields.Limits.{most_parameters, most_frame_bytes, most_steps, most_words}
use Rattle.expression_code.specs.declared.image_fields.slot.Slot.{Slot}
use Rattle.expression_code.specs.declared.image_fields.slot.ResultSlot.{ResultSlot}

pub record Fields : Type 0 where
  -- for which observer it is
  pub profile : Profile
  pub slots : List Slot
  pub returned : Option ResultSlot
  pub frame_bytes : ℕ
  pub max_steps : ℕ
  pub words : List ℕ

-- how many bytes the slot of a parameter takes: 4 for each word that it holds
abbrev pub slot_bytes : Form → Kind → ℕ → ℕ
slot_bytes form kind count = 4 * held_words form kind count

-- where a slot ends: the offset of the first byte after it
abbrev pub slot_end : Slot → ℕ
slot_end slot = slot.offset + slot_bytes slot.param.form slot.param.kind slot.param.length

-- the type of what a result's slot holds
abbrev pub type_in : ResultSlot → WordType
type_in slot = record { kind = slot.kind; label = slot.label }

-- a result is a word
abbrev pub result_end : ResultSlot → ℕ
result_end slot = slot.offset + 4

-- where the last of the slots ends, those before them ending at `low`
abbrev pub slots_end : ℕ → List Slot → ℕ
slots_end low [] = low
slots_end low (slot ∷ slots) = slots_end (slot_end slot) slots

-- whether a parameter may hold so many words: a single word is one
abbrev pub is_length : Form → ℕ → Bool
is_length SingleWord n = n == 1
is_length FixedArray n = nat_le 1 n && nat_le n most_elements
is_length MutableArray n = nat_le 1 n && nat_le n most_elements

-- a slot that begins not below `low`
pub record IsSlot (low : ℕ) (slot : Slot) : Type 0 where
  pub length : is_length slot.param.form slot.param.length ≡ true
  pub aligned : slot.offset % 4 ≡ 0
  pub above : low ≤ slot.offset
  pub fits : slot.offset < 2 ^ 32

-- each slot begins not below the end of the slot before it
abbrev pub AreSlots : ℕ → List Slot → Type 0
AreSlots low [] = Unit {0}
AreSlots low (slot ∷ slots) = IsSlot low slot × AreSlots (slot_end slot) slots

-- the slot of a result, which begins not below `low`
pub record IsResultSlot (low : ℕ) (slot : ResultSlot) : Type 0 where
  pub aligned : slot.offset % 4 ≡ 0
  pub above : low ≤ slot.offset
  pub fits : slot.offset < 2 ^ 32

-- fields that an image may have
pub record IsImage (fields : Fields) : Type 0 where
  pub count : length fields.slots ≤ most_parameters
  pub slots : AreSlots 0 fields.slots
  pub returned : IfSome fields.returned (λ slot. IsResultSlot (slots_end 0 fields.slots) slot)
  pub frame_aligned : fields.frame_bytes % 4 ≡ 0
  pub frame_size : fields.frame_bytes ≤ most_frame_bytes
  pub slots_inside : AllByRecursion (λ slot. slot_end slot ≤ fields.frame_bytes) fields.slots
  pub returned_inside : IfSome fields.returned (λ slot. result_end slot ≤ fields.frame_bytes)
  pub some_step : 1 ≤ fields.max_steps
  pub steps : fields.max_steps ≤ most_steps
  pub some_word : 1 ≤ length fields.words
  pub word_count : length fields.words ≤ most_words
  pub words : AllByRecursion (λ word. word < 2 ^ 32) fields.words
