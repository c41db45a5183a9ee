-- The code of a program, run: its body wherever its words stand, and the loaded image to its end. So the image is the
-- code's.
use Rattle.std.proofs.Common.{◌≡◌, ℕ, ◌+◌, ◌*◌, List, [], ◌∷◌, ◌++◌, length, map, Some, slice_index}
use Rattle.std.proofs.Common.{◌≤◌, length-append, is_some, refl, sym, ap, ap₂, ◌∙◌, subst, arith, None, Option}
use Rattle.codegen.proofs.Language.{AreWithin, StraightProgram, StraightState, after_all, path_along, outcome_of}
use Rattle.codegen.proofs.Language.{path_of, FlatVariable, types_of, Path, AreFine, seen, Arg, Profile, declaration_of}
use Rattle.codegen.proofs.Language.{Param, WordType}
use Rattle.codegen.proofs.Logic.{length-map, All-append, option_map, setting as pieces_of, bytes_of, place_of, Setting}
use Rattle.codegen.proofs.Logic.{seen_by, RunsAt, Steps, Runs, cheaper, All-one, Placed, Placed-left, Placed-right}
use Rattle.codegen.proofs.Logic.{Halts-after, ecall_halts}
use Rattle.expression_code.proofs.Frame.{frame_kept}
use Rattle.codegen.specs.Below.{start as start_of, words_of}
use Rattle.codegen.proofs.Machine.{body_words, Stand, IsPlaced, IsLoaded, RunsBehind, IsFollowedIn, loaded_at}
use Rattle.codegen.proofs.Machine.{results_in, code_at, depth_in_all, most_words, program_code, image_of, result_slot}
use Rattle.codegen.proofs.Machine.{HasRoom, variable_offset, slots_from, Instr, word_of, Observation, number_at, Halts}
use Rattle.codegen.proofs.Machine.{MachineCode, IsAt, IsInside, AreBases, Allocation, body_of, IsFitting, IsFollowed}
use Rattle.codegen.proofs.Machine.{IsGenerated, Ecall, type_in, Slot}
use Rattle.codegen.proofs.Arguments.{loaded, arrays_are, returned_is}
use Rattle.codegen.proofs.SetRuns.{steps_of_result}
use Rattle.codegen.proofs.Standing.{words_alone, body_words_before, placed_alone, leads_among, stand_placed, placed}
use Rattle.expression_code.proofs.program_logic_lemmas.StepLaws.{leads_alone, still_there}
use Rattle.expression_code.specs.program_logic.MachineSteps.{at_most, LeadsBy}
use Rattle.codegen.proofs.ProgramRuns.{ProgramEnded, program_runs}
use Rattle.codegen.specs.private.Fresh.{starts_fresh}
use Rattle.std.proofs.lemmas.Bool.{and_parts, ltb-true, not-true}
use Rattle.codegen.proofs.Slots.{Laid, laid_same}
use Rattle.rv_code.specs.declared.instructions.Instr.TheVariants as instr
use Rattle.rv_machine.specs.Machine as machine
use Rattle.codegen.proofs.ImageLemmas.{first_laid, parameters_fit, room_frame}
use Rattle.codegen.proofs.Slotted.{slotted_bare, slotted_length, slotted_there, slotted_was}
use Rattle.codegen.proofs.Machine.{laid_out}
use Rattle.codegen.proofs.Language.{numbers_in}
use Rattle.std.proofs.Common.{◌<◌, nat_lt}

-- the state that the value is taken in
abbrev last_state : StraightProgram → StraightState → StraightState
last_state p env = after_all env p.body

-- all but the end
pub body_code : Allocation → StraightProgram → List Instr
body_code a p = body_of a p

pub program_code-body : (a : Allocation) (p : StraightProgram) → program_code a p ≡ body_code a p ++ instr.Ecall ∷ []
unfolding body_code
program_code-body a p = refl

-- the words of an image's body are its code's
pub body_words-image : (a : Allocation) (p : StraightProgram)
    → body_words (image_of a p).words ≡ map word_of (body_code a p)
unfolding body_code
body_words-image a p = body_words_before (body_code a p) instr.Ecall

pub body_length : (a : Allocation) (p : StraightProgram)
    → length (body_words (image_of a p).words) ≡ length (body_code a p)
body_length a p = ap (λ (ws : List ℕ). length ws) (body_words-image a p) ∙ length-map {B = ℕ} (body_code a p) word_of

module _ (a : Allocation) (p : StraightProgram) (room : HasRoom p) (fitting : IsFitting p a)
    (short : length (program_code a p) ≤ most_words p.nodes) (code : MachineCode) (start frame : ℕ)
    (there : IsPlaced (image_of a p) code start frame) where
  -- as if the body's words stood alone
  abbrev setting : Setting
  setting = record {
    code = words_alone p.profile start (map word_of (body_code a p));
    frame = frame;
    size = (image_of a p).frame_bytes;
    counts = p.iterations;
    declared = p.declared;
    laid = laid_out a p;
    controls = p.controls;
    depths = depth_in_all p.body;
    allocation = a;
    allocated = fitting.allocated;
    as_many = slotted_length (length p.parameters) a.homes 0 p.declared;
    lies = λ x d is away. slotted_there (length p.parameters) a.homes p.declared x d is away;
    even = there.frame_aligned;
    ends = there.frame_ends;
    room = omega arith;
  }

  steps : Steps
  steps env = path_along env p.body ++ steps_of_result p.value (last_state p env)

  Finished : StraightState → machine.State → machine.State → Type 0
  Finished env s t = ProgramEnded setting p.value (last_state p env) t

  body_runs : Runs setting (60 + 32 * p.work) steps (body_code a p) (Laid setting) Finished
  unfolding body_code steps Finished
  body_runs =
      cheaper (omega (arith, room.worked, fitting.few))
      (program_runs setting p.returned p.value room.typed.result (omega arith) (starts_fresh p)
      (λ y on. omega (
        arith,
        ltb-true y (length p.declared) (and_parts _ _ (and_parts _ _ on).1).0,
        slotted_length (length p.parameters) a.homes 0 p.declared,
      ))
      (λ y home d on at known. slotted_bare (length p.parameters) a.homes p.declared y home d
      (not-true (nat_lt y (length p.parameters)) (and_parts _ _ on).0) known at)
      p.body (λ y on. (and_parts _ _ (and_parts _ _ on).1).1)
      (omega (arith, fitting.within, slotted_length (length p.parameters) a.homes 0 p.declared))
      room.typed.body fitting.read (omega arith) (omega arith)
      (omega (arith, length-append {A = Instr}, short, room.nodes)))

  standing : Stand code start (map word_of (body_code a p))
  standing = subst (λ (ws : List ℕ). Stand code start ws) (body_words-image a p) there.words

  straight : RunsAt at_most (pieces_of setting) start (60 + 32 * p.work) steps (body_code a p) (Laid setting) Finished
  straight = body_runs.placed_at start (placed_alone p.profile code start (body_code a p) standing)

  begins : (args : List Arg) (s : machine.State) → IsLoaded (image_of a p) frame args s → AreWithin p.parameters args
      → Laid setting (start_of p args) s
  begins args s laid within =
      let first = loaded_at 0 frame (image_of a p) args in
      let begun = loaded setting p.parameters args room.typed.parameters refl (parameters_fit a p room) within first
      refl refl in
      laid_same setting setting.size (omega arith) (start_of p args) first s begun
      (record {
        base = laid.base;
        data_there = λ o inside. ap is_some (laid.frame_there o inside)
            ∙ begun.held.data_there o inside;
      })
      laid.frame_there

  outcome : (args : List Arg) (s t : machine.State) → Finished (start_of p args) s t
      → results_in frame (image_of a p) t.bytes ≡ outcome_of p args
  unfolding Finished
  outcome args s t done =
      let m = (last_state p (start_of p args)).variables in
      ap₂ (λ r arrays. record { returned = r; arrays = arrays })
      (returned_is frame (laid_out a p) (types_of p.profile p.declared) p.returned p.value m t.bytes
      room.typed.result done.left)
      (arrays_are frame t.bytes m p.parameters (laid_out a p) 0 0 (first_laid a p room) room.lengths
      (λ y d size laid array some.
      let many : 0 < numbers_in d.elements =
      subst (λ (elements : Option ℕ). 0 < numbers_in elements) (sym array) some in
      let is = slotted_was (length p.parameters) a.homes p.declared y d laid many in
      let e : 0 + y ≡ y = omega arith in (
        ap (λ k. length (m k)) e ∙ (done.arrays_held y d size is array).count many,
        λ i below.
            let f : frame + (0 + variable_offset (laid_out a p) y) + bytes_of d * i
            ≡ frame + place_of (laid_out a p) y d i =
            omega arith in
            ap (λ a. number_at t.bytes (bytes_of d) a) f
            ∙ (done.arrays_there y d size i is array below
            ∙ ap (λ k. Some (slice_index (m k) i)) (sym e)),
      )))

  -- among the other words of the code
  among : {n : ℕ} {s t : machine.State} {seen : List Observation}
      → LeadsBy setting.code (pieces_of setting).Each n s seen t → LeadsBy code (pieces_of setting).Each n s seen t
  among {n} {s} {t} {seen} leads =
      let same : p.profile ≡ code.profile = sym there.observed in
      leads_among code start (map word_of (body_code a p)) standing
      (subst (λ (profile : Profile).
      LeadsBy (words_alone profile start (map word_of (body_code a p))) (pieces_of setting).Each n s seen t) same leads)

  runs_behind : (args : List Arg) (s : machine.State) → s.pc ≡ start → IsLoaded (image_of a p) frame args s
      → AreWithin p.parameters args → AreFine p.iterations (path_of p args)
      → RunsBehind p (image_of a p) code start frame args s
      ((straight.leak (seen_by setting (path_of p args) ++ [])).0)
  unfolding steps Finished
  runs_behind args s at laid within fine =
      let done = straight.runs (start_of p args) s [] at fine (begins args s laid within) in
      let all = among done.leads in
      let kept = frame_kept setting done.leads in
      let same : (straight.leak (seen_by setting (path_of p args) ++ [])).0 ≡ done.seen =
      ap (λ (r : List Observation × Path). r.0) done.shown in
      subst (λ (seen : List Observation). RunsBehind p (image_of a p) code start frame args s seen) (sym same)
      (record {
        run = record {
          step_count = done.step_count;
          end = done.end;
          leads = leads_alone all;
          at_base = still_there frame (λ t event u each. each.0.regs 2 (omega arith)) laid.base all;
          within_steps = omega (arith, done.within);
          within_frame = kept.1;
          behind = done.at ∙ ap (λ n. start + 4 * n) (sym (body_length a p));
          base = done.done.held.base;
          untouched = λ r is. kept.0.regs r (omega (arith, is));
          beside = kept.0.beside;
          frame_there = done.done.held.data_there;
        };
        outcome = outcome args s done.end done.done;
      })

-- the machine follows the body's code, wherever it stands
pub followed_in : (a : Allocation) (p : StraightProgram) → HasRoom p → IsFitting p a
    → length (program_code a p) ≤ most_words p.nodes → (code : MachineCode) (start frame : ℕ)
    → IsPlaced (image_of a p) code start frame → IsFollowedIn p (image_of a p) code start frame
followed_in a p room fitting short code start frame there = record {
  shown = λ path. ((straight a p room fitting short code start frame there).leak (path ++ [])).0;
  runs = λ args s at laid within fine.
      runs_behind a p room fitting short code start frame there args s at laid within fine;
}

-- The whole image: its body, and then the end.

module _ (a : Allocation) (p : StraightProgram) (code frame : ℕ) (bases : AreBases (image_of a p) code frame) where
  abbrev whole : MachineCode
  whole = code_at code (image_of a p)

  all_placed : Placed whole code (body_code a p ++ instr.Ecall ∷ [])
  all_placed =
      subst (λ (is : List Instr). Placed whole code is) (program_code-body a p)
      (placed p.profile code (image_of a p).words [] (program_code a p) code bases.code_aligned bases.code_ends refl
      (omega arith))

  -- the body stands in its image
  pub stands_there : IsPlaced (image_of a p) whole code frame
  stands_there = record {
    observed = refl;
    words = subst (λ (ws : List ℕ). Stand whole code ws) (sym (body_words-image a p))
        (stand_placed whole code (body_code a p)
        (Placed-left whole code (body_code a p) (instr.Ecall ∷ []) all_placed));
    frame_aligned = bases.frame_aligned;
    frame_ends = bases.frame_ends;
  }

  last : ℕ
  last = code + 4 * length (body_words (image_of a p).words)

  end_shown : List Observation
  end_shown = record { pc = last; event = None } ∷ []

  ends_there : (s : machine.State) → s.pc ≡ last → Halts whole 1 s end_shown Ecall s
  unfolding last end_shown
  ends_there s at =
      let there = Placed-right whole code (body_code a p) (instr.Ecall ∷ []) all_placed in
      let stands = subst (λ q. IsAt whole q instr.Ecall) (sym (at ∙ ap (λ n. code + 4 * n) (body_length a p)))
      (record { aligned = there.0; word = there.2; in_range = tt }) in
      subst (λ q. Halts whole 1 s (record { pc = q; event = None } ∷ []) Ecall s) at (ecall_halts whole s stands)

  -- the machine follows the code where it follows the body
  pub followed_whole : IsFollowedIn p (image_of a p) whole code frame → IsFollowed p (image_of a p) code frame
  unfolding last end_shown
  followed_whole body = record {
    shown = λ path. body.shown path ++ end_shown;
    runs = λ args within fine.
        let s = loaded_at code frame (image_of a p) args in
        let follows = body.runs args s refl (record { base = refl; frame_there = λ o inside. refl }) within fine in
        let run = follows.run in
        let Inside = λ (o : Observation). IsInside frame (image_of a p).frame_bytes o.event in
        record {
          step_count = run.step_count + 1;
          end = run.end;
          halts = Halts-after run.leads (ends_there run.end run.behind);
          within_steps = omega (arith, run.within_steps);
          within_frame = All-append Inside (body.shown (seen p.profile (path_of p args))) end_shown run.within_frame
              (All-one Inside (record { pc = last; event = None }) tt);
          outcome = follows.outcome;
        };
  }

-- What is generated.

-- the slots have the parameters
pub slot_params : (low : ℕ) (ps : List Param) → map (λ (slot : Slot). slot.param) (slots_from low ps) ≡ ps
slot_params low [] = refl
slot_params low (p ∷ ps) =
    ap (λ (rest : List Param). p ∷ rest) (slot_params (low + 4 * words_of (declaration_of p)) ps)

-- the result's slot has the type of the result
slot_type : (declared : List FlatVariable) (returned : Option WordType)
    → option_map type_in (option_map (result_slot declared) returned) ≡ returned
slot_type declared None = refl
slot_type declared (Some word) = refl

pub is_generated : (a : Allocation) (p : StraightProgram) → HasRoom p → IsFitting p a
    → length (program_code a p) ≤ most_words p.nodes → IsGenerated p (image_of a p)
is_generated a p room fitting short =
    let words : length (map word_of (program_code a p)) ≡ length (program_code a p) =
    length-map {B = ℕ} (program_code a p) word_of in
    record {
      profile = refl;
      parameters = slot_params 0 p.parameters;
      returned = slot_type (laid_out a p) p.returned;
      max_steps = refl;
      frame_size = room_frame a p room;
      word_count = omega (arith, short, words);
      follows = λ code frame bases. followed_whole a p code frame bases
          (followed_in a p room fitting short (code_at code (image_of a p)) code frame
          (stands_there a p code frame bases));
      anywhere = λ code start frame there. followed_in a p room fitting short code start frame there;
    }
