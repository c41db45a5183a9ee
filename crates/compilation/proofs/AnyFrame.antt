-- The machine follows straight code from a frame that holds whatever it held, but for the arguments and the words that
-- have to be zeros: the code sets each other variable before it reads it, so what that holds at first makes no
-- difference.
use Rattle.std.proofs.Common.{◌≡◌, ℕ, ◌+◌, ◌*◌, ◌<◌, nat_lt, Bool, true, false, if◌then◌else◌, List, [], ◌∷◌, ◌++◌, length}
use Rattle.std.proofs.Common.{map, ◌≤◌, Some, None, Option, length-append, slice_index, refl, sym, ap, ap₂, ◌∙◌, subst, arith}
use Rattle.codegen.proofs.Language.{AreWithin, StraightProgram, StraightState, after_all, path_along, outcome_of}
use Rattle.codegen.proofs.Language.{path_of, types_of, Path, AreFine, seen, Arg, Profile, Values}
use Rattle.codegen.proofs.Logic.{length-map, setting as pieces_of, bytes_of, place_of, Setting, seen_by, RunsAt, Steps, Runs, cheaper}
use Rattle.expression_code.proofs.Frame.{frame_kept}
use Rattle.codegen.proofs.Machine.{IsPlaced, RunsBehind, Stand, depth_in_all, most_words, program_code, image_of}
use Rattle.codegen.proofs.Machine.{HasRoom, variable_offset, Instr, word_of, Observation, number_at, results_in}
use Rattle.codegen.proofs.Machine.{MachineCode, Allocation, body_of, body_words, IsFitting}
use Rattle.rv_code.specs.declared.instructions.Instr.TheVariants as instr
use Rattle.codegen.proofs.Arguments.{arrays_are, returned_is}
use Rattle.codegen.proofs.BodyRuns.{followed_in, slot_params}
use Rattle.codegen.proofs.SetRuns.{steps_of_result}
use Rattle.codegen.specs.Below.{start as start_of}
use Rattle.codegen.proofs.Standing.{words_alone, body_words_before, placed_alone, leads_among}
use Rattle.expression_code.proofs.program_logic_lemmas.StepLaws.{leads_alone, still_there}
use Rattle.expression_code.specs.program_logic.MachineSteps.{at_most, LeadsBy}
use Rattle.codegen.proofs.ProgramRuns.{ProgramEnded, program_runs}
use Rattle.codegen.specs.private.Fresh.{starts_fresh}
use Rattle.std.proofs.lemmas.Bool.{and_parts, ltb-true, not-true}
use Rattle.codegen.proofs.Slots.{Laid}
use Rattle.codegen.proofs.Slotted.{slotted_bare, slotted_length, slotted_there, slotted_was}
use Rattle.codegen.proofs.ImageLemmas.{first_laid}
use Rattle.codegen.proofs.Machine.{laid_out}
use Rattle.codegen.proofs.Language.{numbers_in}
use Rattle.rv_machine.specs.Machine as machine
use Rattle.compilation.specs.Below.{IsLoaded, with_arguments, zeros}
use Rattle.compilation.specs.Blank.{Blank, blank_from, words_from}
use Rattle.compilation.specs.Needs.{Needs, needs_of}
use Rattle.compilation.specs.Begun.{FollowsAnywhere, IsBegun, IsFollowedFrom}
use Rattle.compilation.proofs.FrameValues.{frame_values, given_first, laid_any}
use Rattle.compilation.proofs.PutArguments.{with_arguments_agree}
use Rattle.codegen.proofs.Numbers.{zero_byte}
use Rattle.variable_room.specs.set_first.Order.{program_sets_first}
use Rattle.variable_room.specs.set_first.Starts.{AgreeOnParameters, outcome_from, path_from, started}
use Rattle.variable_room.proofs.set_first_lemmas.Alike.{only_parameters}
use Rattle.codegen.proofs.Machine.{control_offset}
use Rattle.codegen.proofs.Language.{Param}
use Rattle.variable_room.proofs.set_whole_lemmas.Arguments.{do_not_matter}
use Rattle.variable_room.specs.set_whole.Whole.{set_whole_of}

-- the state that the value is taken in
abbrev last_state : StraightProgram → StraightState → StraightState
last_state p env = after_all env p.body

-- all but the end
body_code : Allocation → StraightProgram → List Instr
body_code a p = body_of a p

-- the words of an image's body are its code's
body_words-image : (a : Allocation) (p : StraightProgram)
    → body_words (image_of a p).words ≡ map word_of (body_code a p)
unfolding body_code
body_words-image a p = body_words_before (body_code a p) instr.Ecall

body_length : (a : Allocation) (p : StraightProgram)
    → length (body_words (image_of a p).words) ≡ length (body_code a p)
body_length a p = ap (λ (ws : List ℕ). length ws) (body_words-image a p) ∙ length-map {B = ℕ} (body_code a p) word_of

module _ (a : Allocation) (p : StraightProgram) (room : HasRoom p) (fitting : IsFitting p a)
    (short : length (program_code a p) ≤ most_words p.nodes) (code : MachineCode) (start frame : ℕ)
    (there : IsPlaced (image_of a p) code start frame) where
  -- as if the body's words stood alone
  abbrev setting : Setting
  setting = record {
    code = words_alone p.profile start (map word_of (body_code a p));
    frame = frame;
    size = (image_of a p).frame_bytes;
    counts = p.iterations;
    declared = p.declared;
    laid = laid_out a p;
    controls = p.controls;
    depths = depth_in_all p.body;
    allocation = a;
    allocated = fitting.allocated;
    as_many = slotted_length (length p.parameters) a.homes 0 p.declared;
    lies = λ x d is away. slotted_there (length p.parameters) a.homes p.declared x d is away;
    even = there.frame_aligned;
    ends = there.frame_ends;
    room = omega arith;
  }

  steps : Steps
  steps env = path_along env p.body ++ steps_of_result p.value (last_state p env)

  Finished : StraightState → machine.State → machine.State → Type 0
  Finished env s t = ProgramEnded setting p.value (last_state p env) t

  body_runs : Runs setting (60 + 32 * p.work) steps (body_code a p) (Laid setting) Finished
  unfolding body_code steps Finished
  body_runs =
      cheaper (omega (arith, room.worked, fitting.few))
      (program_runs setting p.returned p.value room.typed.result (omega arith) (starts_fresh p)
      (λ y on. omega (
        arith,
        ltb-true y (length p.declared) (and_parts _ _ (and_parts _ _ on).1).0,
        slotted_length (length p.parameters) a.homes 0 p.declared,
      ))
      (λ y home d on at known. slotted_bare (length p.parameters) a.homes p.declared y home d
      (not-true (nat_lt y (length p.parameters)) (and_parts _ _ on).0) known at)
      p.body (λ y on. (and_parts _ _ (and_parts _ _ on).1).1)
      (omega (arith, fitting.within, slotted_length (length p.parameters) a.homes 0 p.declared))
      room.typed.body fitting.read (omega arith) (omega arith)
      (omega (arith, length-append {A = Instr}, short, room.nodes)))

  standing : Stand code start (map word_of (body_code a p))
  standing = subst (λ (ws : List ℕ). Stand code start ws) (body_words-image a p) there.words

  straight : RunsAt at_most (pieces_of setting) start (60 + 32 * p.work) steps (body_code a p) (Laid setting) Finished
  straight = body_runs.placed_at start (placed_alone p.profile code start (body_code a p) standing)

  outcome : (values : Values) (s t : machine.State) → Finished (started values) s t
      → results_in frame (image_of a p) t.bytes ≡ outcome_from p values
  unfolding Finished
  outcome values s t done =
      let m = (last_state p (started values)).variables in
      ap₂ (λ r arrays. record { returned = r; arrays = arrays })
      (returned_is frame (laid_out a p) (types_of p.profile p.declared) p.returned p.value m t.bytes
      room.typed.result done.left)
      (arrays_are frame t.bytes m p.parameters (laid_out a p) 0 0 (first_laid a p room) room.lengths
      (λ y d size laid array some.
      let many : 0 < numbers_in d.elements =
      subst (λ (elements : Option ℕ). 0 < numbers_in elements) (sym array) some in
      let is = slotted_was (length p.parameters) a.homes p.declared y d laid many in
      let e : 0 + y ≡ y = omega arith in (
        ap (λ k. length (m k)) e ∙ (done.arrays_held y d size is array).count many,
        λ i below.
            let f : frame + (0 + variable_offset (laid_out a p) y) + bytes_of d * i
            ≡ frame + place_of (laid_out a p) y d i =
            omega arith in
            ap (λ a. number_at t.bytes (bytes_of d) a) f
            ∙ (done.arrays_there y d size i is array below
            ∙ ap (λ k. Some (slice_index (m k) i)) (sym e)),
      )))

  -- among the other words of the code
  among : {n : ℕ} {s t : machine.State} {seen : List Observation}
      → LeadsBy setting.code (pieces_of setting).Each n s seen t → LeadsBy code (pieces_of setting).Each n s seen t
  among {n} {s} {t} {seen} leads =
      let same : p.profile ≡ code.profile = sym there.observed in
      leads_among code start (map word_of (body_code a p)) standing
      (subst (λ (profile : Profile).
      LeadsBy (words_alone profile start (map word_of (body_code a p))) (pieces_of setting).Each n s seen t) same leads)

  abbrev shown_by : Path → List Observation
  shown_by path = (straight.leak (path ++ [])).0

  -- from whatever values the variables hold, where those lead to the same as the arguments
  runs_from : (values : Values) (args : List Arg) (s : machine.State) → s.pc ≡ start
      → s.regs 2 ≡ frame → Laid setting (started values) s
      → outcome_from p values ≡ outcome_of p args → path_from p values ≡ path_of p args
      → AreFine p.iterations (path_of p args)
      → RunsBehind p (image_of a p) code start frame args s (shown_by (seen p.profile (path_of p args)))
  unfolding steps Finished
  runs_from values args s at base laid same_outcome same_path fine =
      let done = straight.runs (started values) s [] at (subst (AreFine p.iterations) (sym same_path) fine) laid in
      let all = among done.leads in
      let kept = frame_kept setting done.leads in
      let same : shown_by (seen p.profile (path_of p args)) ≡ done.seen =
      ap (λ (path : Path). shown_by (seen p.profile path)) (sym same_path)
      ∙ ap (λ (r : List Observation × Path). r.0) done.shown in
      subst (λ (seen : List Observation). RunsBehind p (image_of a p) code start frame args s seen) (sym same)
      (record {
        run = record {
          step_count = done.step_count;
          end = done.end;
          leads = leads_alone all;
          at_base = still_there frame (λ t event u each. each.0.regs 2 (omega arith)) base all;
          within_steps = omega (arith, done.within);
          within_frame = kept.1;
          behind = done.at ∙ ap (λ n. start + 4 * n) (sym (body_length a p));
          base = done.done.held.base;
          untouched = λ r is. kept.0.regs r (omega (arith, is));
          beside = kept.0.beside;
          frame_there = done.done.held.data_there;
        };
        outcome = outcome values s done.end done.done ∙ same_outcome;
      })

  abbrev some_blank : Blank
  some_blank =
      Some (blank_from (length p.parameters) 0 (laid_out a p) ++ words_from (control_offset (laid_out a p) 0) p.controls)

  -- what is needed where those words are zeros
  abbrev needs_with : Blank → Needs
  needs_with blank = record { blank = blank; spared = set_whole_of p }

  -- what was put into the slots is within the parameters' types, and leads to the same as the arguments
  module _ (blank : Blank) (args : List Arg) (s : machine.State)
      (begun : IsBegun (image_of a p) (needs_with blank) frame args s) (within : AreWithin p.parameters args) where
    put_within : AreWithin p.parameters begun.put
    put_within = subst (λ (ps : List Param). AreWithin ps begun.put) (slot_params 0 p.parameters) begun.put_within

    same : (outcome_of p args ≡ outcome_of p begun.put) × (path_of p args ≡ path_of p begun.put)
    same = do_not_matter p args begun.put room.typed within put_within begun.put_agree

  -- where the words of variables with few values, and of control values, are zeros
  followed_some : program_sets_first p ≡ true
      → IsFollowedFrom p (image_of a p) (needs_with some_blank) code start frame
  followed_some sets = record {
    shown = shown_by;
    runs = λ args s at begun within fine.
        let put = begun.put in
        let fits = put_within some_blank args s begun within in
        let values = frame_values setting p.parameters put room.typed.parameters refl fits begun.before begun.are_bytes
        begun.blank_before s begun.base begun.frame_there in
        let agree : AgreeOnParameters p values (start_of p put).variables = λ x less.
        given_first setting p.parameters put room.typed.parameters refl fits begun.before begun.are_bytes
        begun.blank_before s begun.base begun.frame_there x less in
        let law = only_parameters p values (start_of p put).variables sets agree in
        let alike = same some_blank args s begun within in
        runs_from values args s at begun.base
        (laid_any setting p.parameters put room.typed.parameters refl fits begun.before begun.are_bytes
        begun.blank_before s begun.base begun.frame_there) (law.0 ∙ sym alike.0) (law.1 ∙ sym alike.1) fine;
  }

  -- where all words are zeros, the frame is as that of a loaded image
  followed_none : IsFollowedFrom p (image_of a p) (needs_with None) code start frame
  followed_none =
      let followed = followed_in a p room fitting short code start frame there in
      record {
        shown = λ path. followed.shown path;
        runs = λ args s at begun within fine.
            let alike = same None args s begun within in
            let run = followed.runs begun.put s at (record {
              base = begun.base;
              frame_there = λ o inside. begun.frame_there o inside
                  ∙ with_arguments_agree frame begun.before (zeros frame (image_of a p).frame_bytes)
                  (image_of a p).slots begun.put (frame + o)
                  (begun.blank_before o inside
                  ∙ sym (zero_byte frame (image_of a p).frame_bytes (frame + o) (omega arith) (omega (arith, inside))));
            }) (put_within None args s begun within) (subst (AreFine p.iterations) alike.1 fine) in
            subst (λ (path : Path). RunsBehind p (image_of a p) code start frame args s
            (followed.shown (seen p.profile path))) (sym alike.1)
            (record { run = run.run; outcome = run.outcome ∙ sym alike.0 });
      }

  followed_by : (b : Bool) → program_sets_first p ≡ b
      → IsFollowedFrom p (image_of a p) (needs_with (if b then some_blank else None)) code start frame
  followed_by true sets = followed_some sets
  followed_by false sets = followed_none

pub follows_anywhere : (a : Allocation) (p : StraightProgram) → HasRoom p → IsFitting p a
    → length (program_code a p) ≤ most_words p.nodes → FollowsAnywhere p (image_of a p) (needs_of (laid_out a p) p)
follows_anywhere a p room fitting short code start frame there =
    followed_by a p room fitting short code start frame there (program_sets_first p) refl
