-- What is answered for a compiled image at the standard bases.
use Rattle.std.proofs.Common.{◌≡◌, ◌≢◌, ◌↔◌, inl, inr, ℕ, Bool, true, List, [], length, slice_get, None, Result, Ok}
use Rattle.std.proofs.Common.{eq-eqb, refl, sym, ap, subst, ◌∙◌, arith}
use Rattle.hepurita.specs.Below.{Agree, AgreeInPublic, AreBases, AreWithin, Arg, code_at, Compares, Differ, Ecall}
use Rattle.hepurita.specs.Below.{entries_of, Entry, fault_of, Fields, kept, loaded_at, Observation, OneAnswer, Pairing}
use Rattle.hepurita.specs.Below.{Param, params_of, ProcedureTree, Profile, ProgramTree, Ran, RecorderRefused, Results}
use Rattle.hepurita.specs.Below.{results_in, Same, Spells, State, Stop}
use Rattle.hepurita.proofs.Below.{Ran-halts}
use Rattle.hepurita.specs.Bases.{code_base, frame_base}
use Rattle.hepurita.specs.Compiled.{IsCompiled, Means, RunsTo, TwoRuns}
use Rattle.hepurita.specs.declared.fault.RunFault.{RunFault}
use Rattle.hepurita.specs.Answers.{Builds, IsTheOutcome, IsSame}
use Rattle.hepurita.specs.Executed.{Executed, answer_at, refused, out_of_memory, ran}
use Rattle.hepurita.specs.Paired.{Paired, Observed, pair_fault}
use Rattle.hepurita.specs.Paired as pairs
use Rattle.compilation.specs.declared.optimised.Optimisation.{Optimisation}
use Rattle.hepurita.proofs.JudgementLemmas.{one_export}

-- ---- the laws of the layers below

abbrev pub Faultless : Type 0
Faultless = (params : List Param) (args : List Arg) → (fault_of params args ≡ None) ↔ AreWithin params args

abbrev pub OneForEach : Type 0
OneForEach = (params : List Param) (args : List Arg) → AreWithin params args → length args ≡ length params

-- ---- the image of an accepted source

-- it is the export, compiled, and may lie at the standard bases
pub record IsExportImage (program : ProgramTree) (before : List ProcedureTree) (export : ProcedureTree)
    (image : Fields) :
    Type 0 where
  pub compiled : IsCompiled program before export image
  pub bases : AreBases image code_base frame_base

pub same_fields : (bytes : List ℕ) (f g : Fields) → Spells bytes f → Spells bytes g → f ≡ g
same_fields bytes f g one other =
    let both = sym one ∙ other in
    cc

pub fits : OneAnswer → (optimisation : Optimisation) (profile : Profile) (source bytes : List ℕ) (program : ProgramTree)
    (before : List ProcedureTree) (export : ProcedureTree) (image : Fields)
    → Builds optimisation profile source bytes program before export image → IsExportImage program before export image
fits one optimisation profile source bytes program before export image is =
    let built = is.built in
    let found = built.compilation in
    let same = one_export profile one source built.program program built.before before built.export export found.judged
    is.judged in
    let images : built.image ≡ image = same_fields bytes built.image image built.spelled is.spelled in
    record {
      compiled = rw (same.0, same.1, same.2, images) at found.compiled;
      bases = subst (λ (f : Fields). AreBases f code_base frame_base) images (found.bases 0 (omega arith));
    }

module _ {program : ProgramTree} {before : List ProcedureTree} {export : ProcedureTree} {image : Fields}
    (is : IsExportImage program before export image) where
  -- the run on arguments
  pub run_on : (args : List Arg) → AreWithin (params_of image) args → RunsTo program image code_base frame_base args
  run_on args within = is.compiled.results code_base frame_base args is.bases within

  -- a run that no recorder cuts short is that one
  pub is_run : (args : List Arg) (within : AreWithin (params_of image) args) (keeps : Bool)
      (list after : List Observation) (stop : Stop) (end : State)
      → Ran (code_at code_base image) keeps image.max_steps (loaded_at code_base frame_base image args) list stop end
      after → stop ≢ RecorderRefused → (stop ≡ Ecall) × (end ≡ (run_on args within).run.end)
      × (after ≡ kept keeps list (run_on args within).run.seen)
  is_run args within keeps list after stop end run calm =
      let to = run_on args within in
      Ran-halts keeps list to.run.halts to.within_steps run calm

  -- ---- execute

  -- a run leaves the outcome, or the recorder refused
  outcome_at : (args : List Arg) → AreWithin (params_of image) args
      → (keeps : Bool) (list after : List Observation) (end : State) (stop : Stop)
      → Ran (code_at code_base image) keeps image.max_steps (loaded_at code_base frame_base image args) list stop end
      after → IsTheOutcome program args (answer_at frame_base image stop end.bytes)
  outcome_at args within keeps list after end RecorderRefused run = inr refl
  outcome_at args within keeps list after end Ecall run =
      let ended = is_run args within keeps list after Ecall end run (λ h. cc) in
      subst (λ (t : State). Means program args (results_in frame_base image t.bytes)) (sym ended.1)
      (run_on args within).outcome
  outcome_at args within keeps list after end stop run =
      let ended = (is_run args within keeps list after stop end run (λ h. cc)).0 in
      cc

  pub the_outcome : Faultless
      → (args : List Arg) (keeps : Bool) (list after : List Observation) (answer : Result Results RunFault)
      → AreWithin (params_of image) args → Executed image args keeps list answer after
      → IsTheOutcome program args answer
  the_outcome faultless args keeps list after answer within (refused first) =
      let none = (faultless (params_of image) args).1 within in
      cc
  the_outcome faultless args keeps list after answer within (out_of_memory none) = inl refl
  the_outcome faultless args keeps list after answer within (ran {stop} {end} none run answered) =
      subst (λ (r : Result Results RunFault). IsTheOutcome program args r) (sym answered)
      (outcome_at args within keeps list after end stop run)

  -- the results of a run that ends by ECALL, and what it showed
  left_at : (args : List Arg) (within : AreWithin (params_of image) args) (keeps : Bool)
      (list after : List Observation) (end : State) (outcome : Results) (stop : Stop)
      → Ran (code_at code_base image) keeps image.max_steps (loaded_at code_base frame_base image args) list stop end
      after → Ok outcome ≡ answer_at frame_base image stop end.bytes
      → (outcome ≡ results_in frame_base image (run_on args within).run.end.bytes)
      × (after ≡ kept keeps list (run_on args within).run.seen)
  left_at args within keeps list after end outcome Ecall run answered =
      let ended = is_run args within keeps list after Ecall end run (λ h. cc) in
      let there : outcome ≡ results_in frame_base image end.bytes = cc in
      (there ∙ ap (λ (t : State). results_in frame_base image t.bytes) ended.1, ended.2)
  left_at args within keeps list after end outcome stop run answered = cc

  pub left : (args : List Arg) (keeps : Bool) (list after : List Observation) (outcome : Results)
      (within : AreWithin (params_of image) args) → Executed image args keeps list (Ok outcome) after
      → (outcome ≡ results_in frame_base image (run_on args within).run.end.bytes)
      × (after ≡ kept keeps list (run_on args within).run.seen)
  left args keeps list after outcome within (ran {stop} {end} none run answered) =
      left_at args within keeps list after end outcome stop run answered

  -- ---- two lists of arguments

  module _ (one other : List Arg) (agree : Agree (params_of image) one other) where
    -- the runs on both
    abbrev both_runs : TwoRuns image
    both_runs = record {
      code = code_base;
      frame = frame_base;
      bases = is.bases;
      args = one;
      args' = other;
      agree = agree;
      one = (run_on one agree.one_within).run;
      other = (run_on other agree.other_within).run;
    }

    pub same_shown : (run_on one agree.one_within).run.seen ≡ (run_on other agree.other_within).run.seen
    same_shown = is.compiled.equal_leakage both_runs

    pub one_list : (keeps : Bool) (list after after' : List Observation) (a b : Results)
        → Executed image one keeps list (Ok a) after → Executed image other keeps list (Ok b) after' → after ≡ after'
    one_list keeps list after after' a b first second =
        (left one keeps list after a agree.one_within first).1
        ∙ ap (kept keeps list) same_shown
        ∙ sym (left other keeps list after' b agree.other_within second).1

    pub public_results : (keeps : Bool) (list after after' : List Observation) (x y : Results)
        → Executed image one keeps list (Ok x) after → Executed image other keeps list (Ok y) after'
        → AgreeInPublic (params_of image) export.result x y
    public_results keeps list after after' x y first second =
        rw (
          (left one keeps list after x agree.one_within first).0,
          (left other keeps list after' y agree.other_within second).0,
        )
        (is.compiled.public_results both_runs)

    -- what is observed of a run is what it shows
    seen_of : (args : List Arg) (within : AreWithin (params_of image) args) (list : List Observation)
        → Observed image args list → list ≡ (run_on args within).run.seen
    seen_of args within list (stop, (end, (run, calm))) =
        (is_run args within true [] list stop end (list, run, refl) calm).2

    -- nothing differs from itself
    compares_same : (list list' : List Entry) (pairing : Pairing) → list ≡ list' → Compares list list' pairing
        → pairing ≡ Same
    compares_same list list' Same e h = refl
    compares_same list list' (Differ place) e h = absurd (h.there (ap (λ (l : List Entry). slice_get l place) e))

    no_pair_fault : Faultless → OneForEach → pair_fault (params_of image) one other ≡ None
    no_pair_fault faultless count =
        let params = params_of image in
        rw (
          (faultless params one).1 agree.one_within,
          (faultless params other).1 agree.other_within,
          eq-eqb (length one) (length params) (count params one agree.one_within),
          eq-eqb (length other) (length params) (count params other agree.other_within),
        )

    pub the_same : Faultless → OneForEach → (answer : Result Pairing RunFault) → Paired image one other answer
        → IsSame answer
    the_same faultless count answer (pairs.refused first) =
        let none = no_pair_fault faultless count in
        cc
    the_same faultless count answer (pairs.out_of_memory none) = refl
    the_same faultless count answer (pairs.compared {seen} {seen'} {pairing} none a b compares) =
        let shown : seen ≡ seen' = seen_of one agree.one_within seen a ∙ same_shown
        ∙ sym (seen_of other agree.other_within seen' b) in
        compares_same (entries_of seen) (entries_of seen') pairing (ap entries_of shown) compares
