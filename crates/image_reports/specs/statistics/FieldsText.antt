-- The fields of an image as lines.
use Rattle.std.specs.Prelude.{ℕ, ◌+◌, List, [], ◌∷◌, ◌++◌, length, codes, Option, None, Some}
use Rattle.std.specs.Fmt.{decimal}
use Rattle.image_reports.specs.Below.{Fields, Profile, Slot}
use Rattle.expression_code.specs.declared.image_fields.slot.ResultSlot.{ResultSlot}
use Rattle.image_reports.specs.statistics.TypeText.{kind_text, label_text, param_text}
use Rattle.word.specs.declared.profile.Profile.TheVariants.{P1, P2}

abbrev pub profile_number : Profile → ℕ
profile_number P1 = 1
profile_number P2 = 2

-- the line of a parameter
abbrev pub slot_line : ℕ → Slot → List ℕ
slot_line number slot =
    codes "parameter " ++ decimal number ++ codes " at " ++ decimal slot.offset ++ codes ": " ++ param_text slot.param
    ++ codes "\n"

-- a line for each parameter, which are numbered from here on
abbrev pub slot_lines : ℕ → List Slot → List ℕ
slot_lines number [] = []
slot_lines number (slot ∷ slots) = slot_line number slot ++ slot_lines (number + 1) slots

-- the line of the result, where there is one
abbrev pub returned_line : Option ResultSlot → List ℕ
returned_line None = []
returned_line (Some slot) = codes "result at " ++ decimal slot.offset ++ codes ": " ++ label_text slot.label
    ++ kind_text slot.kind ++ codes "\n"

-- the observer, the words of code, the bytes of the frame, and the most steps of a run
abbrev pub sizes_text : ℕ → ℕ → ℕ → ℕ → List ℕ
sizes_text profile words frame steps =
    codes "profile "
    ++ (decimal profile
    ++ (codes "\nwords "
    ++ (decimal words
    ++ (codes "\nframe_bytes "
    ++ (decimal frame ++ (codes "\nmax_steps " ++ (decimal steps ++ codes "\n")))))))

-- these, and where parameters and result lie
abbrev pub fields_text : Fields → List ℕ
fields_text fields =
    sizes_text (profile_number fields.profile) (length fields.words) fields.frame_bytes fields.max_steps
    ++ (slot_lines 0 fields.slots ++ returned_line fields.returned)
