-- Straight code within the limits has room in a frame and in an image, and the fields of its image are allowed.
use Rattle.std.proofs.Common.{◌≡◌, ℕ, suc, ◌+◌, ◌*◌, ◌%◌, ◌^◌, ◌<◌, ◌≤◌, true, List, [], ◌∷◌, length, map, Option}
use Rattle.std.proofs.Common.{None, Some, IfSome, refl, sym, ap, subst, ◌∙◌, arith, length-append, take, Bool}
use Rattle.std.proofs.Common.{if◌then◌else◌}
use Rattle.codegen.proofs.Logic.{eq-eqb, le-leb, and_from, length-map, option_map, parameter_words}
use Rattle.codegen.proofs.Logic.{load_length, none-some, typed_among, same_Some}
use Rattle.std.specs.List.{AllByRecursion}
use Rattle.codegen.proofs.Machine.{word_of, IsImage, AreSlots, IsResultSlot, is_length, slot_end, result_end, slots_end}
use Rattle.codegen.proofs.Machine.{Frame, temporaries_offset}
use Rattle.codegen.proofs.Machine.{frame_of, program_code, program_slots, result_slot, image_of}
use Rattle.codegen.proofs.Machine.{image_within, most_words, Fields, result_code, slots_from, result_offset}
use Rattle.codegen.proofs.Machine.{HasRoom, Allocation, entry_code, HavePlaces, home_count, IsAmong}
use Rattle.codegen.proofs.Machine.{IsFitting, Instr, plain, word_offset}
use Rattle.codegen.proofs.FewerHomes.{homes_fewer}
use Rattle.codegen.proofs.Choices.{of_choice}
use Rattle.codegen.proofs.Slotted.{first_words, slotted_first, slotted_length, slotted_words}
use Rattle.codegen.proofs.Machine.{first_code, laid_out}
use Rattle.codegen.specs.private.Homes.{is_no_array}
use Rattle.std.proofs.Common.{slice_get}
use Rattle.codegen.specs.private.Fresh.{homes_but, starts_fresh}
use Rattle.codegen.specs.private.Generated.{mirror_count, mirrors_code}
use Rattle.codegen.proofs.Machine.{home_of, Mirror, mirror_by}
use Rattle.codegen.proofs.Mirroring.{mirror_length}
use Rattle.codegen.proofs.ReadControls.{plain_reads}
use Rattle.codegen.proofs.Language.{StraightProgram, most_elements, Form}
use Rattle.codegen.proofs.Language.{SingleWord, Kind, Boolean, Param, WordType, held_words, array_words, Profile}
use Rattle.codegen.proofs.Language.{FlatVariable, declaration_of, TermTree, HasLength, declared_words, value_nodes}
use Rattle.codegen.proofs.Language.{IsCounted, types_of, IsResult}
use Rattle.codegen.specs.Below.{IsStraight, words_of}
use Rattle.codegen.proofs.CodeLengths.{assign_length, block_length, blocks_placed}

-- The parameters' slots.

abbrev AreLengths : List Param → Type 0
AreLengths = AllByRecursion (λ (parameter : Param). HasLength parameter.form parameter.length)

-- how many words parameters take
abbrev words_in : List Param → ℕ
words_in ps = declared_words (map declaration_of ps)

pub length-slots_from : (low : ℕ) (ps : List Param) → length (slots_from low ps) ≡ length ps
length-slots_from low [] = refl
length-slots_from low (p ∷ ps) = ap suc (length-slots_from (low + 4 * words_of (declaration_of p)) ps)

length_allowed : (form : Form) (n : ℕ) → HasLength form n → is_length form n ≡ true
length_allowed SingleWord n is = eq-eqb n 1 is
length_allowed form n is = and_from _ _ (le-leb 1 n is.0) (le-leb n most_elements is.1)

some_words : (kind : Kind) (n : ℕ) → 1 ≤ n → 1 ≤ array_words kind n
some_words Boolean n some = omega (arith, some)
some_words kind n some = omega (arith, some)

-- a parameter takes a word at least
held_some : (form : Form) (kind : Kind) (n : ℕ) → HasLength form n → 1 ≤ held_words form kind n
held_some SingleWord kind n is = omega arith
held_some form kind n is = some_words kind n is.0

-- so there are no more of them than words
pub count_in_words : (ps : List Param) → AreLengths ps → length ps ≤ words_in ps
count_in_words [] lengths = omega arith
count_in_words (p ∷ ps) lengths =
    omega (arith, held_some p.form p.kind p.length lengths.0, parameter_words p, count_in_words ps lengths.1)

-- a slot ends where the next begins
ends_at : (low : ℕ) (p : Param) → slot_end (record { param = p; offset = low })
    ≡ low + 4 * words_of (declaration_of p)
ends_at low p = ap (λ n. low + 4 * n) (parameter_words p)

multiple : (low n : ℕ) → low % 4 ≡ 0 → (low + 4 * n) % 4 ≡ 0
multiple low n h = omega (arith, h)

pub slots_are : (low : ℕ) (ps : List Param) → AreLengths ps → low % 4 ≡ 0 → low + 4 * words_in ps < 2 ^ 32
    → AreSlots low (slots_from low ps)
slots_are low [] lengths aligned room = tt
slots_are low (p ∷ ps) lengths aligned room =
    let words = words_of (declaration_of p) in (
      record {
        length = length_allowed p.form p.length lengths.0;
        aligned = aligned;
        above = omega arith;
        fits = omega (arith, room);
      },
      subst (λ n. AreSlots n (slots_from (low + 4 * words) ps)) (sym (ends_at low p))
          (slots_are (low + 4 * words) ps lengths.1 (multiple low words aligned) (omega (arith, room))),
    )

pub slots_end-slots_from : (low : ℕ) (ps : List Param) → slots_end low (slots_from low ps) ≡ low + 4 * words_in ps
slots_end-slots_from low [] = omega arith
slots_end-slots_from low (p ∷ ps) =
    let words = words_of (declaration_of p) in
    ap (λ n. slots_end n (slots_from (low + 4 * words) ps)) (ends_at low p)
    ∙ (slots_end-slots_from (low + 4 * words) ps ∙ omega arith)

pub slots_inside : (low frame : ℕ) (ps : List Param) → low + 4 * words_in ps ≤ frame
    → AllByRecursion (λ slot. slot_end slot ≤ frame) (slots_from low ps)
slots_inside low frame [] room = tt
slots_inside low frame (p ∷ ps) room =
    let end = ends_at low p in
    (omega (arith, end, room), slots_inside (low + 4 * (words_of (declaration_of p))) frame ps (omega (arith, room)))

-- The result's slot, behind the variables.

returned_is : (declared : List FlatVariable) (low : ℕ) (word : Option WordType) → low ≤ result_offset declared
    → result_offset declared ≤ 40768
    → IfSome (option_map (result_slot declared) word) (λ slot. IsResultSlot low slot)
returned_is declared low None above few = tt
returned_is declared low (Some word) above few =
    record { aligned = omega arith; above = omega (arith, above); fits = omega (arith, few) }

returned_inside : (declared : List FlatVariable) (frame : ℕ) (word : Option WordType)
    → result_offset declared + 4 ≤ frame
    → IfSome (option_map (result_slot declared) word) (λ slot. result_end slot ≤ frame)
returned_inside declared frame None room = tt
returned_inside declared frame (Some word) room = omega (arith, room)

-- variables as they are laid out take no more words than as they are declared
pub laid_words : (a : Allocation) (p : StraightProgram) → declared_words (laid_out a p) ≤ declared_words p.declared
laid_words a p = slotted_words (length p.parameters) a.homes 0 p.declared

pub laid_length : (a : Allocation) (p : StraightProgram) → length (laid_out a p) ≡ length p.declared
laid_length a p = slotted_length (length p.parameters) a.homes 0 p.declared

-- the parameters are the first of them
pub first_laid : (a : Allocation) (p : StraightProgram) → HasRoom p
    → take (length p.parameters) (laid_out a p) ≡ map declaration_of p.parameters
first_laid a p room =
    slotted_first (length p.parameters) (length p.parameters) a.homes 0 p.declared (omega arith)
    ∙ room.typed.parameters

pub parameters_fit : (a : Allocation) (p : StraightProgram) → HasRoom p
    → words_in p.parameters ≤ declared_words (laid_out a p)
parameters_fit a p room =
    omega (arith, first_words (length p.parameters) (laid_out a p), ap declared_words (first_laid a p room))

-- the frame of a program with room
pub room_frame : (a : Allocation) (p : StraightProgram) → HasRoom p
    → temporaries_offset (frame_of a p) + 4 * program_slots a p ≤ 65536
room_frame a p room =
    omega (arith, room.declared, laid_words a p, room.nodes, room.frame)

-- How long its code is.

result_length : (layout : Frame) (value : Option TermTree)
    → length (result_code layout value) ≤ 32 * value_nodes value
result_length layout None = omega arith
result_length layout (Some value) =
    omega (arith, assign_length layout value (result_offset layout.declared))

first_length : (laid : List FlatVariable) (x home : ℕ) → length (first_code laid x home) ≤ 3
first_length laid x home =
    of_choice (λ (is : List Instr). length is ≤ 3) (is_no_array (slice_get laid x))
    (load_length home (word_offset laid x)) (omega arith)

entry_length : (laid : List FlatVariable) (x : ℕ) (homes : List (Option ℕ))
    → length (entry_code laid x homes) ≤ 3 * home_count homes
entry_length laid x [] = omega arith
entry_length laid x (None ∷ homes) = entry_length laid (x + 1) homes
entry_length laid x (Some home ∷ homes) =
    omega (
      arith,
      length-append (first_code laid x home) (entry_code laid (x + 1) homes),
      first_length laid x home,
      entry_length laid (x + 1) homes,
    )

none_length : (h : Option ℕ) → length (mirror_by h None) ≡ 0
none_length None = refl
none_length (Some home) = refl

mirrors_length : (homes : List (Option ℕ)) (x : ℕ) (mirrors : List (Option Mirror))
    → length (mirrors_code homes x mirrors) ≤ 2 * mirror_count mirrors
mirrors_length homes x [] = omega arith
mirrors_length homes x (None ∷ mirrors) =
    omega (
      arith,
      length-append (mirror_by (home_of homes x) None) (mirrors_code homes (x + 1) mirrors),
      none_length (home_of homes x),
      mirrors_length homes (x + 1) mirrors,
    )
mirrors_length homes x (Some mirror ∷ mirrors) =
    omega (
      arith,
      length-append (mirror_by (home_of homes x) (Some mirror)) (mirrors_code homes (x + 1) mirrors),
      mirror_length (home_of homes x) (Some mirror),
      mirrors_length homes (x + 1) mirrors,
    )

-- of a program of no more nodes than its source
pub program_length : (a : Allocation) (p : StraightProgram) → IsCounted p → IsFitting p a
    → length (program_code a p) ≤ most_words p.nodes
program_length a p counted fitting =
    let body = block_length (frame_of a p) 0 p.body in
    omega (
      arith,
      length-append {A = Instr},
      entry_length (laid_out a p) 0 (homes_but (starts_fresh p) 0 a.homes),
      (homes_fewer (starts_fresh p) 0 a.homes).0,
      mirrors_length (homes_but (starts_fresh p) 0 a.homes) 0 a.mirrors,
      body,
      result_length (frame_of a p) p.value,
      counted,
      fitting.few,
    )

-- the image of a program is there where its code is short enough
module _ (a : Allocation) (p : StraightProgram) where
  by_length : Bool → Option Fields
  by_length short = if short then Some (image_of a p) else None

  words_of_code : length (map word_of (program_code a p)) ≡ length (program_code a p)
  words_of_code = length-map {B = ℕ} (program_code a p) word_of

  pub image_there : length (program_code a p) ≤ most_words p.nodes → image_within a p ≡ Some (image_of a p)
  unfolding by_length
  image_there short =
      ap by_length (le-leb (length (map word_of (program_code a p))) (most_words p.nodes)
      (omega (arith, words_of_code, short)))

-- the fields that are generated for a program with room are allowed, whoever the observer is
pub image_allowed : (a : Allocation) (p : StraightProgram) (profile : Profile) → HasRoom p → IsFitting p a
    → length (program_code a p) ≤ most_words p.nodes
    → AllByRecursion (λ word. word < 2 ^ 32) (map word_of (program_code a p))
    → IsImage (record (image_of a p) { profile = profile })
image_allowed a p profile room fitting short fit =
    let few = parameters_fit a p room in
    let d : 4 * declared_words (laid_out a p) ≤ 40768 = omega (arith, room.declared, laid_words a p) in
    let end = slots_end-slots_from 0 p.parameters in
    record {
      count = omega (arith, length-slots_from 0 p.parameters, count_in_words p.parameters room.lengths, room.given);
      slots = slots_are 0 p.parameters room.lengths refl (omega (arith, few, d));
      returned = returned_is (laid_out a p) (slots_end 0 (slots_from 0 p.parameters)) p.returned
          (omega (arith, end, few)) d;
      frame_aligned = omega arith;
      frame_size = room_frame a p room;
      slots_inside = slots_inside 0 (temporaries_offset (frame_of a p) + 4 * program_slots a p) p.parameters
          (omega (arith, few));
      returned_inside = returned_inside (laid_out a p) (temporaries_offset (frame_of a p) + 4 * program_slots a p)
          p.returned (omega arith);
      some_step = omega arith;
      steps = omega (arith, room.work);
      some_word = simp (length-map, length-append) (omega arith);
      word_count = omega (arith, length-map {B = ℕ} (program_code a p) word_of, short, room.nodes);
      words = fit;
    }

-- Room.

pub has_room : (p : StraightProgram) → IsStraight p → HasRoom p
has_room p is = record {
  typed = is.typed;
  lengths = is.bounded.lengths;
  parameters =
      omega (arith, first_words (length p.parameters) p.declared, ap declared_words is.typed.parameters);
  given = is.bounded.parameters;
  declared = is.bounded.declared;
  nodes = is.bounded.nodes;
  work = is.bounded.work_fits;
  worked = is.bounded.worked;
  frame = is.bounded.framed;
}

-- what the result's expression names is declared
pub result_among : (profile : Profile) (declared : List FlatVariable) (returned : Option WordType)
    (value : Option TermTree) → IsResult (types_of profile declared) returned value
    → (e : TermTree) → value ≡ Some e → IsAmong (length declared) e
result_among profile declared None None typed e is = absurd (none-some e is)
result_among profile declared (Some word) (Some value) typed e is =
    subst (IsAmong (length declared)) (same_Some value e is) (typed_among profile declared typed.has_type)
result_among profile declared returned value typed e is = absurd typed

-- the statements have their places
pub body_placed : (a : Allocation) (p : StraightProgram) → HasRoom p
    → HavePlaces (frame_of a p) 0 p.body
body_placed a p room =
    let d : 4 * declared_words (laid_out a p) ≤ 40768 = omega (arith, room.declared, laid_words a p) in
    blocks_placed p.profile (frame_of a p) p.declared (laid_length a p) room.declared d 0 p.body room.typed.body
    (omega (arith, d, room.nodes, room.frame)) (omega arith)

-- no homes fit any program
pub plain_fits : (p : StraightProgram) → IsFitting p plain
plain_fits p = record {
  allocated = record {
    some = omega arith;
    few = omega arith;
    allowed = λ x home is. absurd (none-some home is);
    apart = λ x y home is. absurd (none-some home is);
    words = λ x d size known is. refl;
    mirrored = λ x mirror is. absurd (none-some mirror is);
    mirror_apart = λ x y home mirror is. absurd (none-some mirror is);
    mirrors_apart = λ x y one other is. absurd (none-some one is);
  };
  within = omega arith;
  few = omega arith;
  read = plain_reads p.body;
}
