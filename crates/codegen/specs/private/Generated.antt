-- The image that is generated for straight code.
use Rattle.std.specs.Prelude.{ℕ, ◌+◌, ◌*◌, List, [], ◌∷◌, ◌++◌, Option, None, Some, length, map, nat_le}
use Rattle.std.specs.Prelude.{slice_get}
use Rattle.std.specs.Prelude.{if◌then◌else◌}
use Rattle.std.specs.Option.{option_map}
use Rattle.codegen.specs.Below.{depth_in_all, Ecall, FlatVariable, Instr, program_height, StraightProgram, TermTree}
use Rattle.codegen.specs.Below.{word_of, WordType}
use Rattle.expression_code.specs.image_fields.Fields.{Fields}
use Rattle.expression_code.specs.declared.image_fields.slot.ResultSlot.{ResultSlot}
use Rattle.codegen.specs.private.Emitted.{block_code, assign_code}
use Rattle.codegen.specs.private.Fresh.{homes_but, starts_fresh}
use Rattle.codegen.specs.private.Homes.{is_no_array}
use Rattle.expression_code.specs.Allocation.{Allocation, home_of, slots_to}
use Rattle.expression_code.specs.declared.allocation.Mirror.{Mirror}
use Rattle.expression_code.specs.Layout.{Frame, slots_from, result_offset, slotted, temporaries_offset}
use Rattle.expression_code.specs.Layout.{word_offset}
use Rattle.expression_code.specs.TermCode.{constant_code, load_code, mirror_by}

-- the value into the result's slot, where there is one
abbrev pub result_code : Frame → Option TermTree → List Instr
result_code layout None = []
result_code layout (Some value) = assign_code layout value (result_offset layout.declared)

-- a program's variables as they are laid out: those that have homes and are no parameters take no words
abbrev pub laid_out : Allocation → StraightProgram → List FlatVariable
laid_out a p = slotted (length p.parameters) a.homes p.declared

-- how a program is laid out
abbrev pub frame_of : Allocation → StraightProgram → Frame
frame_of a p = record { declared = laid_out a p; controls = p.controls; depths = depth_in_all p.body; allocation = a }

-- what the home of the word x gets first: what lies in its slot, and 0 where it has none
abbrev pub first_code : List FlatVariable → ℕ → ℕ → List Instr
first_code laid x home =
    if is_no_array (slice_get laid x) then load_code home (word_offset laid x) else constant_code home 0

-- the same of all that have homes, the word x and those behind it
abbrev pub entry_code : List FlatVariable → ℕ → List (Option ℕ) → List Instr
entry_code laid x [] = []
entry_code laid x (None ∷ homes) = entry_code laid (x + 1) homes
entry_code laid x (Some home ∷ homes) = first_code laid x home ++ entry_code laid (x + 1) homes

-- what the mirror of the word x gets, and those behind it, where words have these homes
abbrev pub mirrors_code : List (Option ℕ) → ℕ → List (Option Mirror) → List Instr
mirrors_code homes x [] = []
mirrors_code homes x (mirror ∷ mirrors) = mirror_by (home_of homes x) mirror ++ mirrors_code homes (x + 1) mirrors

abbrev pub mirror_count : List (Option Mirror) → ℕ
mirror_count [] = 0
mirror_count (None ∷ mirrors) = mirror_count mirrors
mirror_count (Some mirror ∷ mirrors) = 1 + mirror_count mirrors

abbrev pub home_count : List (Option ℕ) → ℕ
home_count [] = 0
home_count (None ∷ homes) = home_count homes
home_count (Some home ∷ homes) = 1 + home_count homes

-- the homes and mirrors but those of words that start fresh, the statements and the result
abbrev pub body_of : Allocation → StraightProgram → List Instr
body_of a p =
    (entry_code (laid_out a p) 0 (homes_but (starts_fresh p) 0 a.homes)
    ++ mirrors_code (homes_but (starts_fresh p) 0 a.homes) 0 a.mirrors)
    ++ (block_code (frame_of a p) 0 p.body ++ result_code (frame_of a p) p.value)

-- and the end
abbrev pub program_code : Allocation → StraightProgram → List Instr
program_code a p = body_of a p ++ Ecall ∷ []

-- how many slots they take
abbrev pub program_slots : Allocation → StraightProgram → ℕ
program_slots a p = slots_to a.count (program_height p)

-- the result's slot, behind the variables
abbrev pub result_slot : List FlatVariable → WordType → ResultSlot
result_slot laid word = record { kind = word.kind; label = word.label; offset = result_offset laid }

-- how many words an image may have, by the nodes of the source
abbrev pub most_words : ℕ → ℕ
most_words nodes = 32 * nodes + 64

-- how many instructions a run may take, by the work
abbrev pub step_limit : ℕ → ℕ
step_limit work = 32 * work + 64

abbrev pub image_of : Allocation → StraightProgram → Fields
image_of a p = record {
  profile = p.profile;
  slots = slots_from 0 p.parameters;
  returned = option_map (result_slot (laid_out a p)) p.returned;
  frame_bytes = temporaries_offset (frame_of a p) + 4 * program_slots a p;
  max_steps = step_limit p.work;
  words = map word_of (program_code a p);
}

-- the same where it has no more words than it may have
abbrev pub image_within : Allocation → StraightProgram → Option Fields
image_within a p =
    if nat_le (length (image_of a p).words) (most_words p.nodes) then Some (image_of a p) else None
