-- What all passes accept is answered by its outcome, with a budget that the most work fits.
use Rattle.std.proofs.Common.{◌≡◌, ℕ, ◌≤◌, nat_lt, false, List, [], length, map, Some, Ok}
use Rattle.std.proofs.Common.{subst, arith}
use Rattle.std.proofs.lemmas.Bool.Decides.{nat_tests}
use Rattle.std.specs.List.{AllByRecursion}
use Rattle.hepurita.specs.Below.{AreWithin, Arg, bodies_of, exported, extents_of, flattened, Gives, gives}
use Rattle.hepurita.specs.Below.{IsGrammatical, IsTypedFlat, most_bodies, most_work, outcome_of, param_of}
use Rattle.hepurita.specs.Below.{ProcedureTree, Profile, program_run, ProgramTree, range_violations, Run, run_answer}
use Rattle.hepurita.specs.Below.{iterations_of, violations, work_of}
use Rattle.hepurita.proofs.run_bounds_lemmas.Below.{flat_keeps_meaning, safe_runs_are_within_work, accepted_is_safe}
use Rattle.hepurita.proofs.run_bounds_lemmas.Below.{safe_runs_meet_no_fault, program_opens, worked-out}
use Rattle.language.specs.Results.{Results}
use Rattle.hepurita.proofs.run_bounds_lemmas.Programs.{program_spends}

not_above : (a b : ℕ) → b ≤ a → nat_lt a b ≡ false
not_above a b h = grind (arith, nat_tests)

-- a run within the budget
within_budget : (r : Run Results) (budget : ℕ) (outcome : Results) → r.nodes ≤ budget → r.bodies ≤ 64
    → r.ends ≡ gives outcome → run_answer r budget ≡ Ok outcome
within_budget r budget outcome few shallow is =
    simp (not_above budget r.nodes few, not_above 64 r.bodies shallow, is)

pub answered : (profile : Profile) (program : ProgramTree) (before : List ProcedureTree) (p : ProcedureTree)
    (args : List Arg) (budget : ℕ) → length (violations profile program) ≡ 0
    → exported [] program.procedures ≡ Some (before, p)
    → AllByRecursion IsGrammatical before → IsGrammatical p → IsTypedFlat (flattened profile before p)
    → bodies_of (extents_of before) p ≤ most_bodies → length (range_violations (flattened profile before p)) ≡ 0
    → work_of (flattened profile before p) ≤ most_work
    → AreWithin (map param_of p.parameters) args → most_work ≤ budget
    → run_answer (program_run program args) budget ≡ Ok (outcome_of (flattened profile before p) args)
answered profile program before p args budget h is grammatical plain typed shallow in_range worked within enough =
    let flat = flattened profile before p in
    let safe = accepted_is_safe flat typed in_range in
    let spent = program_spends profile program before p args h is grammatical plain within in
    let few = safe_runs_are_within_work flat (iterations_of flat) args safe within in
    let opened = program_opens program args before p is in
    let meant = subst (Gives program args) (safe_runs_meet_no_fault flat (iterations_of flat) args safe within)
    (flat_keeps_meaning profile program before p args h is grammatical plain within) in
    within_budget (program_run program args) budget (outcome_of flat args) (omega (arith, spent, few, worked, enough))
    (omega (arith, opened, shallow)) (worked-out program args (gives (outcome_of flat args)) meant)
