-- The compiler's theorem, from what each pass promises.
use Rattle.std.proofs.Common.{◌≡◌, ℕ, ◌+◌, ◌*◌, ◌≤◌, List, length, map, sym, ap, ◌∙◌, subst}
use Rattle.hepurita.specs.Below.{Agree, AgreeInPublic, AreBases, AreWithin, Arg, MachineCode, Fields, flattened, gives}
use Rattle.hepurita.specs.Below.{IsGenerated, IsLoaded, IsPlaced, IsRemoved, outcome_of as outcome_of_flat, Param}
use Rattle.hepurita.specs.Below.{param_of, params_of, ProcedureTree, Profile, ProgramTree, ranged, Results, results_in}
use Rattle.hepurita.specs.Below.{AreFine, Observation, RunsAs, RunsBehind, State, StraightProgram, work_of}
use Rattle.hepurita.specs.source_work.SourceWork.{source_work}
use Rattle.branch_removal.specs.StraightMeaning.{outcome_of, path_of}
use Rattle.inline.specs.Path.{Path, seen as seen_of}
use Rattle.hepurita.proofs.Below.{Halts-determined}
use Rattle.hepurita.specs.Compiled.{Means, WholeRun, RunsTo, TwoRuns, IsCompiled}
use Rattle.compilation.specs.Begun.{FollowsAnywhere, IsBegun}
use Rattle.compilation.specs.Needs.{Needs}
use Rattle.hepurita.specs.Linked.{IsLinked, StartsAnywhere}

-- a procedure, the program's export, means what its body with numbered variables means
abbrev pub MeansFlat : Profile → ProgramTree → List ProcedureTree → ProcedureTree → Type 0
MeansFlat profile program before p = (args : List Arg) → AreWithin (map param_of p.parameters) args
    → Means program args (outcome_of_flat (flattened profile before p) args)

module _ (profile : Profile) (program : ProgramTree) (before : List ProcedureTree) (p : ProcedureTree)
    (straight : StraightProgram) (image : Fields) (means : MeansFlat profile program before p)
    (same_source : source_work before p ≡ work_of (flattened profile before p))
    (removed : IsRemoved (ranged (flattened profile before p)) straight)
    (generated : IsGenerated straight image) where
  -- what is seen of the path on arguments
  abbrev path_on : List Arg → Path
  path_on args = seen_of straight.profile (path_of straight args)

  same_params : params_of image ≡ map param_of p.parameters
  same_params = generated.parameters ∙ removed.parameters

  -- the parameters of the straight code are those of the image
  within : (args : List Arg) → AreWithin (params_of image) args → AreWithin straight.parameters args
  within args fits = subst (λ (params : List Param). AreWithin params args) generated.parameters fits

  agreeing : (one other : List Arg) → Agree (params_of image) one other → Agree straight.parameters one other
  agreeing one other agree = subst (λ (params : List Param). Agree params one other) generated.parameters agree

  -- the source means the outcome of the straight code
  meant : (args : List Arg) → AreWithin (params_of image) args → Means program args (outcome_of straight args)
  meant args fits =
      subst (λ (results : Results). Means program args results) (sym (removed.outcome args (within args fits)))
      (means args (subst (λ (params : List Param). AreWithin params args) same_params fits))

  -- results that are those of the straight code agree in public
  in_public : (one other : List Arg) (x y : Results) → Agree (params_of image) one other → x ≡ outcome_of straight one
      → y ≡ outcome_of straight other → AgreeInPublic (params_of image) p.result x y
  in_public one other x y agree here there =
      rw (here, there, generated.parameters, sym removed.returned) (removed.public one other (agreeing one other agree))

  -- ---- the image at its bases

  run_of : (code frame : ℕ) (args : List Arg) (bases : AreBases image code frame) → AreWithin (params_of image) args
      → RunsAs straight image code frame args ((generated.follows code frame bases).shown (path_on args))
  run_of code frame args bases fits =
      (generated.follows code frame bases).runs args (within args fits) (removed.fine args (within args fits))

  runs_to : (code frame : ℕ) (args : List Arg) → AreBases image code frame → AreWithin (params_of image) args
      → RunsTo program image code frame args
  runs_to code frame args bases fits =
      let run = run_of code frame args bases fits in
      record {
        run = record {
          step_count = run.step_count;
          seen = (generated.follows code frame bases).shown (path_on args);
          end = run.end;
          halts = run.halts;
        };
        within_steps = run.within_steps;
        within_frame = run.within_frame;
        outcome = subst (λ (results : Results). Means program args results) (sym run.outcome) (meant args fits);
      }

  -- each whole run shows the one list of its path, and leaves the one outcome
  one_list : (code frame : ℕ) (args : List Arg) (whole : WholeRun image code frame args)
      (bases : AreBases image code frame) → AreWithin (params_of image) args →
      (whole.seen ≡ (generated.follows code frame bases).shown (path_on args))
      × (results_in frame image whole.end.bytes ≡ outcome_of straight args)
  one_list code frame args whole bases fits =
      let run = run_of code frame args bases fits in
      let same = Halts-determined whole.halts run.halts in
      (same.1, ap (λ (t : State). results_in frame image t.bytes) same.3 ∙ run.outcome)

  module _ (runs : TwoRuns image) where
    here : (runs.one.seen ≡ (generated.follows runs.code runs.frame runs.bases).shown (path_on runs.args))
        × (results_in runs.frame image runs.one.end.bytes ≡ outcome_of straight runs.args)
    here = one_list runs.code runs.frame runs.args runs.one runs.bases runs.agree.one_within

    there : (runs.other.seen ≡ (generated.follows runs.code runs.frame runs.bases).shown (path_on runs.args'))
        × (results_in runs.frame image runs.other.end.bytes ≡ outcome_of straight runs.args')
    there = one_list runs.code runs.frame runs.args' runs.other runs.bases runs.agree.other_within

    same_list : runs.one.seen ≡ runs.other.seen
    same_list =
        here.0
        ∙ ap (generated.follows runs.code runs.frame runs.bases).shown
        (removed.paths runs.args runs.args' (agreeing runs.args runs.args' runs.agree))
        ∙ sym there.0

  -- ---- the body, wherever its words stand

  -- what the source means is the outcome of the straight code
  one_meaning : (args : List Arg) (results : Results) → AreWithin (params_of image) args → Means program args results
      → results ≡ outcome_of straight args
  one_meaning args results fits known =
      let same : gives results ≡ gives (outcome_of straight args) =
      (meant args fits).alone (gives results) known.given in
      cc

  -- where the machine follows the straight code from states in which the body begins so
  linked_by : (Begins : List Arg → State → Type 0) (code : MachineCode) (start frame : ℕ)
      (shown : Path → List Observation)
      → ((args : List Arg) (s : State) → s.pc ≡ start → Begins args s → AreWithin straight.parameters args
      → AreFine straight.iterations (path_of straight args)
      → RunsBehind straight image code start frame args s (shown (path_on args)))
      → IsLinked program p image Begins code start frame
  linked_by Begins code start frame shown runs = record {
    shown = λ args. shown (path_on args);
    runs = λ args s at begun fits.
        let inner = within args fits in
        let follows = runs args s at begun inner (removed.fine args inner) in
        record {
          run = follows.run;
          outcome = subst (λ (results : Results). Means program args results) (sym follows.outcome) (meant args fits);
        };
    equal_leakage = λ args args' agree. ap shown (removed.paths args args' (agreeing args args' agree));
    public_results = λ args args' results results' agree known known'.
        in_public args args' results results' agree (one_meaning args results agree.one_within known)
        (one_meaning args' results' agree.other_within known');
  }

  linked : (code : MachineCode) (start frame : ℕ) → IsPlaced image code start frame
      → IsLinked program p image (IsLoaded image frame) code start frame
  linked code start frame at =
      let followed = generated.anywhere code start frame at in
      linked_by (IsLoaded image frame) code start frame followed.shown followed.runs

  -- from frames of any bytes
  pub started : (needs : Needs) → FollowsAnywhere straight image needs → StartsAnywhere program p image needs
  started needs follows code start frame at =
      let followed = follows code start frame at in
      linked_by (IsBegun image needs frame) code start frame followed.shown followed.runs

  -- the image is the procedure, compiled
  pub compiled : IsCompiled program before p image
  compiled = record {
    params = same_params;
    result = generated.returned ∙ removed.returned;
    max_steps = generated.max_steps ∙ ap (λ (n : ℕ). 32 * n + 64) (removed.work ∙ sym same_source);
    frame_size = generated.frame_size;
    word_count = subst (λ (n : ℕ). length image.words ≤ 32 * n + 64) removed.nodes generated.word_count;
    results = runs_to;
    equal_leakage = same_list;
    public_results = λ runs. in_public runs.args runs.args' (results_in runs.frame image runs.one.end.bytes)
        (results_in runs.frame image runs.other.end.bytes) runs.agree (here runs).1 (there runs).1;
    linked = linked;
  }
