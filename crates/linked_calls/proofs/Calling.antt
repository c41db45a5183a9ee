-- The whole call: the code before the body, the body, and the code behind it, one after another.
use Rattle.compilation.specs.Begun.{IsBegun}
use Rattle.compilation.specs.Needs.{Needs}
use Rattle.std.specs.Prelude.{sum, is_some}
use Rattle.std.proofs.Common.{◌≡◌, ℕ, suc, ◌+◌, ◌-◌, ◌<◌, ◌≤◌, true, List, ◌++◌, map, Option, Some, None, inl}
use Rattle.std.proofs.Common.{inr, ⊎_elim, refl, sym, ap, ◌∙◌, subst, arith}
use Rattle.std.proofs.lemmas.Bool.{cases_lt}
use Rattle.std.proofs.lemmas.List.{map-append}
use Rattle.std.proofs.lemmas.List.Sums.{sum_by-append}
use Rattle.linked_calls.proofs.Below.{AreData, Arg, arguments_end, arguments_of, around_steps, body_words, both_within}
use Rattle.linked_calls.proofs.Below.{kept_of, MachineCode}
use Rattle.linked_calls.proofs.Below.{enter_sections, Event, Fields, IsCalled, IsInside, IsLeft, IsLinked, IsOfCall}
use Rattle.linked_calls.proofs.Below.{IsSite, LeadsBy-append, leave_sections, Observation, ProcedureTree}
use Rattle.linked_calls.proofs.Below.{ProgramTree, Results, results_in, room_base, RunsLinked, saved_registers}
use Rattle.linked_calls.proofs.Below.{section_steps, CallSite, State}
use Rattle.linked_calls.specs.Below.{BodyRun, IsBeside, IsPlaced, Load, Store}
use Rattle.linked_calls.specs.Callable.{CallReturns, IsCallable, CallsAreLinked}
use Rattle.linked_calls.proofs.Between.{IsOutsideRoom, body_at, saved_at, enter_steps, leave_steps, Enters}
use Rattle.linked_calls.proofs.Between.{EntersFrom, EnteringLeads, CanLeave, Leaves, LeavesFrom, LeavesEverywhere}
use Rattle.linked_calls.proofs.Between.{untouched_registers}
use Rattle.linked_calls.proofs.Bytes.{SameData}
use Rattle.linked_calls.proofs.KeptRegisters.{left_of, left_same, left_then}
use Rattle.linked_calls.proofs.SameRegisters.{same_then}
use Rattle.linked_calls.proofs.SavedRegisters.{saved_same}
use Rattle.linked_calls.proofs.Standing.{body_stands}
use Rattle.linked_calls.proofs.StayingBytes.{bytes_stay}
use Rattle.linked_calls.proofs.Unwritten.{alone, alone_writes_none, IsPartOf, part_of, stands_alone, steps_in}
use Rattle.linked_calls.proofs.Unwritten.{steps_keep}
use Rattle.linked_calls.proofs.Staying.{arrays_agree, stay_ready}
use Rattle.linked_calls.proofs.WithinParameters.{arguments_within}
use Rattle.linked_calls.specs.declared.pace.Pace.{Pace}

-- Places.

-- the body's words alone
abbrev body_alone : Fields → Needs → Pace → MachineCode → CallSite → MachineCode
body_alone image needs pace code site = alone code (body_at image needs pace site) (body_words image.words)

is_placed : (image : Fields) {needs : Needs} {pace : Pace} (code : MachineCode) (site : CallSite) → IsSite image needs pace code site
    → IsPlaced image (body_alone image needs pace code site) (body_at image needs pace site) (room_base image site)
is_placed image {needs = needs} {pace = pace} code site is = record {
  observed = is.observed;
  words = stands_alone code (body_at image needs pace site) (body_words image.words) (body_stands image code site is);
  frame_aligned = omega arith;
  frame_ends = omega arith;
}

-- they are a part of the code
body_part : (image : Fields) {needs : Needs} {pace : Pace} (code : MachineCode) (site : CallSite) → IsSite image needs pace code site
    → IsPartOf (body_alone image needs pace code site) code
body_part image {needs = needs} {pace = pace} code site is =
    part_of code (body_at image needs pace site) (body_words image.words) (body_stands image code site is)

-- Accesses.

-- the body's, with x2 at the frame's base
inside_is_of_call : (image : Fields) {needs : Needs} {pace : Pace} (code : MachineCode) (site : CallSite) → IsSite image needs pace code site
    → (sp : ℕ) (event : Option Event) → sp ≡ room_base image site
    → IsInside (room_base image site) image.frame_bytes event → IsOfCall image site sp event
inside_is_of_call image code site is sp None at inside = tt
inside_is_of_call image code site is sp (Some (Load a size)) at inside =
    inl ((inside.0, omega arith), omega (arith, at, inside.0))
inside_is_of_call image code site is sp (Some (Store a size)) at inside =
    inl ((inside.0, omega arith), omega (arith, at, inside.0))
inside_is_of_call image code site is sp (Some event) at inside = tt

-- Steps.

steps_around : (image : Fields) (needs : Needs) (pace : Pace) (pointers : ℕ → ℕ)
    → around_steps image needs pace pointers ≡ enter_steps image needs pace pointers + leave_steps image pace pointers
steps_around image needs pace pointers =
    let both =
    ap sum (map-append (section_steps image pace pointers) (enter_sections image needs pace) (leave_sections image pace))
    ∙ sum_by-append (λ x. x) (map (section_steps image pace pointers) (enter_sections image needs pace))
    (map (section_steps image pace pointers) (leave_sections image pace)) in
    omega (arith, both)

steps_counted : (enter body leave around : ℕ) (rest : ℕ) → around ≡ enter + leave → suc rest ≡ leave
    → suc (enter + (body + rest)) ≡ around + body
steps_counted enter body leave around rest e counted = omega arith

-- The body, between the two.

module _ (image : Fields) {needs : Needs} {pace : Pace} (code : MachineCode) (site : CallSite) (is : IsSite image needs pace code site)
    (s : State)
    (called : IsCalled image site s)
    (before : List Observation) (entered : EntersFrom image needs pace code site before s)
    (list : List Observation)
    (run : BodyRun image (body_alone image needs pace code site) (body_at image needs pace site) (room_base image site) entered.end list) where
  same_above : (x : ℕ) → saved_at image site ≤ x → run.end.bytes x ≡ entered.end.bytes x
  same_above x above = run.beside x (inr (omega arith))

  beside_room : (x : ℕ) → IsOutsideRoom image site x → IsBeside image (room_base image site) x
  beside_room x (inl low) = inl low
  beside_room x (inr high) = inr (omega arith)

  -- what lies outside the room is as it was at the call
  same_outside : (x : ℕ) → IsOutsideRoom image site x → run.end.bytes x ≡ s.bytes x
  same_outside x out = run.beside x (beside_room x out) ∙ entered.entered.outside x out

  -- what is data is so behind it
  in_frame : (x : ℕ) → room_base image site ≤ x → x < room_base image site + image.frame_bytes
      → is_some (run.end.bytes x) ≡ true
  in_frame x low high =
      let e : room_base image site + (x - room_base image site) ≡ x = omega arith in
      subst (λ a. is_some (run.end.bytes a) ≡ true) e
      (run.frame_there (x - room_base image site) (omega arith))

  data_same : SameData entered.end.bytes run.end.bytes
  data_same x =
      ⊎_elim (λ (e : x < room_base image site). ap is_some (run.beside x (inl e)))
      (λ (low : room_base image site ≤ x).
      ⊎_elim
      (λ (high : x < room_base image site + image.frame_bytes).
      in_frame x low high ∙ sym (entered.entered.there x low (omega arith)))
      (λ (above : room_base image site + image.frame_bytes ≤ x). ap is_some (run.beside x (inr above)))
      (cases_lt x (room_base image site + image.frame_bytes)))
      (cases_lt x (room_base image site))

  all_there : AreData (room_base image site) (arguments_end image site) run.end.bytes
  all_there x low high =
      ⊎_elim
      (λ (below : x < site.stack). data_same x ∙ entered.entered.there x low below)
      (λ (above : site.stack ≤ x). ap is_some (same_outside x (inr above)) ∙ called.there x low high)
      (cases_lt x site.stack)

  can_leave : CanLeave image needs pace site s.regs run.end
  can_leave = record {
    at_leave = run.behind;
    base = run.base;
    stack = called.stack;
    untouched = same_then run.end.regs entered.end.regs s.regs untouched_registers
        (run.untouched 1 (inl refl), (run.untouched 3 (inr (inl refl)), (run.untouched 4 (inr (inr refl)), tt)))
        entered.entered.untouched;
    words = called.words;
    saved = saved_same entered.end.bytes run.end.bytes s.regs (saved_at image site) (kept_of image)
        (λ x low high. same_above x low) entered.entered.saved;
    left = left_then (body_words image.words) saved_registers run.end.regs entered.end.regs s.regs
        (left_of (body_words image.words) saved_registers run.end.regs entered.end.regs
        (λ r none. steps_keep r
        (alone_writes_none r code (body_at image needs pace site) (body_words image.words) none) run.at_base))
        (left_same (body_words image.words) saved_registers entered.end.regs s.regs entered.entered.still);
    bytes = bytes_stay (bytes_stay called.bytes entered.leads) run.at_base;
    there = all_there;
    ready = stay_ready image site entered.end.bytes run.end.bytes (λ x low high. same_above x low) data_same 0
        image.slots entered.entered.ready;
  }

  -- so what is left of the bytes behind the body is left of those at the call
  is_left : (results : Results) (t : State) → IsLeft image site s.regs run.end.bytes results t
      → IsLeft image site s.regs s.bytes results t
  is_left results t left = record {
    result = left.result;
    kept = left.kept;
    cleared = left.cleared;
    memory = record {
      inside = left.memory.inside;
      outside = λ x out. left.memory.outside x out
          ∙ arrays_agree site x run.end.bytes s.bytes 0 image.slots results.arrays (same_outside x out);
    };
  }

-- The call.

module _ (program : ProgramTree) (p : ProcedureTree) (image : Fields) (needs : Needs) (pace : Pace) (code : MachineCode)
    (site : CallSite) (is : IsSite image needs pace code site)
    (enters : Enters image needs pace code site)
    (linked : IsLinked program p image (IsBegun image needs (room_base image site)) (body_alone image needs pace code site) (body_at image needs pace site) (room_base image site))
    (leaves : Leaves image needs pace code site) where
  abbrev shown_on : List Arg → List Observation
  shown_on args = enters.shown ++ (linked.shown args ++ leaves.shown)

  returns_by : (s : State) (called : IsCalled image site s) (entered : EntersFrom image needs pace code site enters.shown s)
      (body : RunsLinked program image (body_alone image needs pace code site) (body_at image needs pace site) (room_base image site) (arguments_of image site s)
      entered.end (linked.shown (arguments_of image site s)))
      → LeavesFrom image needs pace code site leaves.shown s.regs body.run.end
      → CallReturns program image needs pace code site s (shown_on (arguments_of image site s))
  returns_by s called entered body left =
      let args = arguments_of image site s in
      let run = body.run in
      let body_within = both_within (λ t event u. inside_is_of_call image code site is (t.regs 2) event) run.at_base
      run.within_frame in
      record {
        results = results_in (room_base image site) image run.end.bytes;
        means = body.outcome;
        step_count = enter_steps image needs pace site.pointers + (run.step_count + left.step_count);
        end = left.end;
        leads = LeadsBy-append entered.leads (LeadsBy-append (steps_in (body_part image code site is) body_within) left.leads);
        body_steps = run.step_count;
        within_steps = run.within_steps;
        counted = steps_counted (enter_steps image needs pace site.pointers) run.step_count (leave_steps image pace site.pointers)
            (around_steps image needs pace site.pointers) left.step_count (steps_around image needs pace site.pointers) left.counted;
        at_last = left.at_last;
        left = is_left image code site is s called enters.shown entered (linked.shown args) run _ left.end left.left;
        goes_back = left.goes_back;
      }

  returns : (s : State) → IsCalled image site s
      → CallReturns program image needs pace code site s (shown_on (arguments_of image site s))
  returns s called =
      let args = arguments_of image site s in
      let entered = enters.runs s called in
      let body = linked.runs args entered.end entered.entered.at_body entered.entered.begun
      (arguments_within image site s) in
      returns_by s called entered body
      (leaves.runs s.regs body.run.end
      (can_leave image code site is s called enters.shown entered (linked.shown args) body.run))

  is_callable : IsCallable program p image needs pace code site
  is_callable = record {
    shown = shown_on;
    runs = returns;
    equal_leakage = λ args args' agree. ap (λ (body : List Observation). enters.shown ++ (body ++ leaves.shown))
        (linked.equal_leakage args args' agree);
    public_results = linked.public_results;
  }

pub calls_are_linked_from : EnteringLeads → LeavesEverywhere → CallsAreLinked
calls_are_linked_from entering leaving program before p image needs pace compiled starts fields code site is =
    is_callable program p image needs pace code site is (entering image needs pace code site fields is)
    (starts (body_alone image needs pace code site) (body_at image needs pace site) (room_base image site) (is_placed image code site is))
    (leaving image needs pace code site fields is)
