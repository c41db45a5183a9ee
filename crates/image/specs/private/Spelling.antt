-- The bytes of an image, as the writer puts them: its fields in order, each number with its lowest byte first.
use Rattle.std.specs.Prelude.{ℕ, List, ◌++◌, length, Option, Some, None}
use Rattle.std.specs.List.{flat_map}
use Rattle.byteorder.specs.Endian.{little_bytes}
use Rattle.image.specs.Limits.{magic_number, format_version}
use Rattle.image.specs.Reading.{row}
use Rattle.image.specs.declared.field.Field.{Field}
use Rattle.image.specs.declared.field.Field.TheVariants as fields
use Rattle.image.specs.Below.{Boolean, Fields, FixedArray, Form, Kind, Label, MutableArray, P1, P2, Profile, Public}
use Rattle.image.specs.Below.{ResultSlot, Secret, SingleWord, Slot, Uint16, Uint32, Uint8}

abbrev pub profile_number : Profile → ℕ
profile_number P1 = 1
profile_number P2 = 2

abbrev pub kind_code : Kind → ℕ
kind_code Boolean = 0
kind_code Uint8 = 1
kind_code Uint16 = 2
kind_code Uint32 = 3

abbrev pub label_code : Label → ℕ
label_code Public = 0
label_code Secret = 1

abbrev pub form_code : Form → ℕ
form_code SingleWord = 0
form_code FixedArray = 1
form_code MutableArray = 2

-- the bytes of a field with a number
abbrev pub spelled : Field → ℕ → List ℕ
spelled kind n = little_bytes (row kind).size n

abbrev pub spelled_slot : Slot → List ℕ
spelled_slot slot =
    spelled fields.Kind (kind_code slot.param.kind)
    ++ (spelled fields.Label (label_code slot.param.label)
    ++ (spelled fields.Form (form_code slot.param.form)
    ++ (spelled (fields.Length slot.param.form) slot.param.length ++ spelled (fields.Offset 0) slot.offset)))

-- whether there is a result, and the result's slot where there is one
abbrev pub spelled_result : Option ResultSlot → List ℕ
spelled_result None = spelled fields.HasResult 0
spelled_result (Some slot) =
    spelled fields.HasResult 1
    ++ (spelled fields.Kind (kind_code slot.kind)
    ++ (spelled fields.Label (label_code slot.label) ++ spelled (fields.Offset 0) slot.offset))

-- from the first field to the last
abbrev pub spelling : Fields → List ℕ
spelling image =
    spelled fields.Magic magic_number
    ++ (spelled fields.Version format_version
    ++ (spelled fields.Profile (profile_number image.profile)
    ++ (spelled fields.ParameterCount (length image.slots)
    ++ (flat_map spelled_slot image.slots
    ++ (spelled_result image.returned
    ++ (spelled (fields.FrameBytes 0) image.frame_bytes
    ++ (spelled fields.MaxSteps image.max_steps
    ++ (spelled fields.WordCount (length image.words) ++ flat_map (spelled fields.Word) image.words))))))))
