-- Where an address lies among the arguments of an image.
use Rattle.std.specs.Prelude.{ℕ, ◌+◌, ◌-◌, ◌/◌, ◌&&◌, List, [], ◌∷◌, ◌++◌, codes, nat_le, nat_lt, Option, Some, None}
use Rattle.std.specs.Prelude.{if◌then◌else◌}
use Rattle.std.specs.Fmt.{decimal}
use Rattle.image_reports.specs.Below.{element_bytes, FixedArray, Form, Kind, MutableArray, Param, SingleWord, Slot}
use Rattle.image_reports.specs.certificates.KnownImage.{argument_bytes}

-- how many bytes behind the first of an argument an address is, by the argument's slot; none where it is not in it
abbrev pub distance_in : ℕ → Slot → ℕ → Option ℕ
distance_in frame slot a =
    if nat_le (frame + slot.offset) a
    && nat_lt (a - (frame + slot.offset)) (argument_bytes slot.param.form slot.param.kind slot.param.length)
    then Some (a - (frame + slot.offset)) else None

-- an element of an argument, both counted from 0
abbrev pub element_text : ℕ → ℕ → List ℕ
element_text index element = codes ", argument " ++ decimal index ++ codes ", element " ++ decimal element

-- which argument it is in and, of an array, which element
abbrev pub text_by_form : ℕ → Form → Kind → ℕ → List ℕ
text_by_form index SingleWord kind distance = codes ", argument " ++ decimal index
text_by_form index FixedArray kind distance = element_text index (distance / element_bytes kind)
text_by_form index MutableArray kind distance = element_text index (distance / element_bytes kind)

abbrev pub argument_text : ℕ → Param → ℕ → List ℕ
argument_text index param distance = text_by_form index param.form param.kind distance

abbrev pub place_in_text : ℕ → Param → Option ℕ → List ℕ → List ℕ
place_in_text index param (Some distance) others = argument_text index param distance
place_in_text index param None others = others

-- the first argument that it is in, of slots from this index on; nothing where it is in none
abbrev pub place_text : ℕ → ℕ → List Slot → ℕ → List ℕ
place_text frame index [] a = []
place_text frame index (slot ∷ slots) a =
    place_in_text index slot.param (distance_in frame slot a) (place_text frame (index + 1) slots a)
