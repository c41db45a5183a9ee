-- The format of an image: its fields from the first to the last, which values each may have, and what bytes spell.
use Rattle.std.specs.Prelude.{◌≡◌, ℕ, zero, suc, ◌%◌, ◌<◌, Bool, true, ◌&&◌, List, [], ◌∷◌, length, get_or, Option}
use Rattle.std.specs.Prelude.{Some, None, Result, Ok, Err, nat_lt, nat_le, ◌==◌}
use Rattle.std.specs.List.{AllByRecursion}
use Rattle.image.specs.Below.{Boolean, Fields, FixedArray, Form, is_length, Kind, Label, most_frame_bytes}
use Rattle.image.specs.Below.{most_parameters, most_steps, most_words, MutableArray, P1, P2, Public, result_end}
use Rattle.image.specs.Below.{ResultSlot, Secret, SingleWord, Slot, slot_end, slots_end, Uint16, Uint32, Uint8}
use Rattle.image.specs.declared.fault.ImageRule.{ImageRule}
use Rattle.image.specs.declared.fault.ImageRule.TheVariants.{Magic, Version, Profile, FieldOutOfRange}
use Rattle.image.specs.declared.field.Field.{Field as ImageField}
use Rattle.image.specs.declared.field.Field.TheVariants as fields
use Rattle.image.specs.declared.fault.ImageFault.{ImageFault}
use Rattle.image.specs.declared.fault.ImageFault.TheVariants.{Field, Memory}
use Rattle.image.specs.Limits.{magic_number, format_version}
use Rattle.word.specs.declared.profile.Profile as observer
use Rattle.image.specs.Format.{Format, ends, field, read_by}

-- profiles by their numbers, 1 and 2
abbrev pub numbered_profile : ℕ → observer.Profile
numbered_profile zero = P1
numbered_profile (suc zero) = P1
numbered_profile (suc (suc n)) = P2

abbrev pub is_profile : ℕ → Bool
is_profile n = nat_le 1 n && nat_le n 2

-- the number of a profile is 1 or 2, and the code of a kind, a label or a form its place in its list, from 0 on
abbrev pub kinds : List Kind
kinds = Boolean ∷ Uint8 ∷ Uint16 ∷ Uint32 ∷ []

abbrev pub labels : List Label
labels = Public ∷ Secret ∷ []

abbrev pub forms : List Form
forms = SingleWord ∷ FixedArray ∷ MutableArray ∷ []

abbrev pub coded_kind : ℕ → Kind
coded_kind code = get_or kinds code Boolean

abbrev pub coded_label : ℕ → Label
coded_label code = get_or labels code Public

abbrev pub coded_form : ℕ → Form
coded_form code = get_or forms code SingleWord

-- a slot begins at a multiple of 4, and not below the end of the slot before it
abbrev pub is_offset : ℕ → ℕ → Bool
is_offset low n = (n % 4 == 0) && nat_le low n

abbrev pub is_frame_size : ℕ → ℕ → Bool
is_frame_size low n = (n % 4 == 0) && (nat_le n most_frame_bytes && nat_le low n)

abbrev pub is_step_limit : ℕ → Bool
is_step_limit n = nat_le 1 n && nat_le n most_steps

abbrev pub is_word_count : ℕ → Bool
is_word_count n = nat_le 1 n && nat_le n most_words

-- what a field that holds another number breaks, how many bytes it has, and which numbers it may hold
pub record FieldRow : Type 0 where
  pub rule : ImageRule
  pub size : ℕ
  pub allowed : ℕ → Bool

abbrev pub row : ImageField → FieldRow
row fields.Magic = record { rule = Magic; size = 4; allowed = λ n. n == magic_number }
row fields.Version = record { rule = Version; size = 2; allowed = λ n. n == format_version }
row fields.Profile = record { rule = Profile; size = 2; allowed = is_profile }
row fields.ParameterCount = record { rule = FieldOutOfRange; size = 2; allowed = λ n. nat_le n most_parameters }
row fields.Kind = record { rule = FieldOutOfRange; size = 1; allowed = λ n. nat_lt n 4 }
row fields.Label = record { rule = FieldOutOfRange; size = 1; allowed = λ n. nat_lt n 2 }
row fields.Form = record { rule = FieldOutOfRange; size = 1; allowed = λ n. nat_lt n 3 }
row (fields.Length form) = record { rule = FieldOutOfRange; size = 2; allowed = is_length form }
row (fields.Offset low) = record { rule = FieldOutOfRange; size = 4; allowed = is_offset low }
row fields.HasResult = record { rule = FieldOutOfRange; size = 1; allowed = λ n. nat_lt n 2 }
row (fields.FrameBytes low) = record { rule = FieldOutOfRange; size = 4; allowed = is_frame_size low }
row fields.MaxSteps = record { rule = FieldOutOfRange; size = 8; allowed = is_step_limit }
row fields.WordCount = record { rule = FieldOutOfRange; size = 4; allowed = is_word_count }
row fields.Word = record { rule = FieldOutOfRange; size = 4; allowed = λ n. true }

-- a field, and what follows it
abbrev pub one : ImageField → (ℕ → Format) → Format
one kind next = field (row kind).rule (row kind).size (row kind).allowed next

-- a parameter's slot, the one before it ending at `low`
unfoldable pub slot_format : ℕ → (Slot → Format) → Format
slot_format low next =
    one fields.Kind (λ kind.
    one fields.Label (λ label.
    one fields.Form (λ form.
    one (fields.Length (coded_form form)) (λ count.
    one (fields.Offset low) (λ offset.
    next (record {
      param = record {
        kind = coded_kind kind;
        label = coded_label label;
        form = coded_form form;
        length = count;
      };
      offset = offset;
    }))))))

-- so many slots
unfoldable pub slots_format : ℕ → ℕ → (List Slot → Format) → Format
slots_format zero low next = next []
slots_format (suc n) low next =
    slot_format low (λ slot. slots_format n (slot_end slot) (λ slots. next (slot ∷ slots)))

-- whether there is a result, 1 or 0, and its slot where there is one
abbrev pub flagged_format : ℕ → ℕ → (Option ResultSlot → Format) → Format
flagged_format low zero next = next None
flagged_format low (suc n) next =
    one fields.Kind (λ kind.
    one fields.Label (λ label.
    one (fields.Offset low) (λ offset.
    next (Some (record { kind = coded_kind kind; label = coded_label label; offset = offset })))))

unfoldable pub result_format : ℕ → (Option ResultSlot → Format) → Format
result_format low next = one fields.HasResult (λ flag. flagged_format low flag next)

-- so many code words
unfoldable pub words_format : ℕ → (List ℕ → Format) → Format
words_format zero next = next []
words_format (suc n) next = one fields.Word (λ word. words_format n (λ words. next (word ∷ words)))

-- where the last slot ends, the parameters' ending at `low`
abbrev pub layout_end : ℕ → Option ResultSlot → ℕ
layout_end low None = low
layout_end low (Some slot) = result_end slot

-- from the first field to the last
unfoldable pub image_format : Format
image_format =
    one fields.Magic (λ magic.
    one fields.Version (λ version.
    one fields.Profile (λ profile.
    one fields.ParameterCount (λ count.
    slots_format count 0 (λ slots.
    result_format (slots_end 0 slots) (λ returned.
    one (fields.FrameBytes (layout_end (slots_end 0 slots) returned)) (λ frame.
    one fields.MaxSteps (λ steps.
    one fields.WordCount (λ count.
    words_format count (λ words.
    ends (record {
      profile = numbered_profile profile;
      slots = slots;
      returned = returned;
      frame_bytes = frame;
      max_steps = steps;
      words = words;
    })))))))))))

-- the fields that the bytes spell, or the first fault and the offset of its field
abbrev pub reading : List ℕ → Result Fields ImageFault
reading bytes = read_by (length bytes) image_format bytes

-- numbers that are bytes
abbrev pub AreBytes : List ℕ → Type 0
AreBytes = AllByRecursion (λ byte. byte < 256)

-- the bytes, all of them, spell the fields
abbrev pub Spells : List ℕ → Fields → Type 0
Spells bytes fields = reading bytes ≡ Ok fields

-- what was read is what should be, unless memory ran out
abbrev pub IsUnlessMemory : {A : Type 0} → Result A ImageFault → Result A ImageFault → Type 0
IsUnlessMemory (Ok value) expected = expected ≡ Ok value
IsUnlessMemory (Err Memory) expected = Unit {0}
IsUnlessMemory (Err (Field rule offset)) expected = expected ≡ Err (Field rule offset)
