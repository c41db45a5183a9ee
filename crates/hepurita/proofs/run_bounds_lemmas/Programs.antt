-- A program that violates no rule evaluates no more nodes than are counted for the one body that it becomes.
use Rattle.std.proofs.Common.{◌≡◌, ◌≤◌, List, [], ◌++◌, length, map, Some, arith}
use Rattle.std.specs.List.{AllByRecursion}
use Rattle.hepurita.specs.Below.{AreWithin, Arg, callables, declared_in_all, evaluated_by, export_run, exported}
use Rattle.hepurita.specs.Below.{flattened, given, holding, IsGrammatical, names_after_all, param_of}
use Rattle.hepurita.specs.Below.{parameter_names, parameter_types, ProcedureTree, Profile, program_run, ProgramTree}
use Rattle.hepurita.specs.Below.{Scope, violations, with_procedure}
use Rattle.hepurita.proofs.run_bounds_lemmas.Below.{IsKept, begins, behaves, shows_arguments, all_own}
use Rattle.hepurita.proofs.run_bounds_lemmas.Below.{linked_parameters, Stand, IsCallee, callable_parameters}
use Rattle.hepurita.proofs.run_bounds_lemmas.Below.{callable_within, own_typing, variables_within}
use Rattle.language.specs.WellTyped as rules
use Rattle.hepurita.proofs.run_bounds_lemmas.Counts.{RunIsWithin, fits, none, then_within, inside_within, return_spends}
use Rattle.hepurita.proofs.run_bounds_lemmas.Spending.{Spends, HasBound, block_spends}

module _ (before : List ProcedureTree) (scope : Scope) (p : ProcedureTree) (stand : Stand HasBound before scope)
    (typed : rules.IsProcedure before scope p) (plain : IsGrammatical p) where
  -- what stands for the meaning alone
  meant : Stand IsKept before scope
  meant = record {
    variables = stand.variables;
    below = stand.below;
    new = stand.new;
    callable = λ text c q is there.
        let known = stand.callable text c q is there in
        record {
          before = known.before;
          at = known.at;
          observed = known.observed;
          is = known.is;
          quiet = known.quiet;
          good = known.good.behaves;
        };
  }

  abbrev body_spends : Spends scope.profile before p
  body_spends = record {
    behaves = behaves before scope p meant typed plain;
    spends = λ names types n s m linked shows.
        let ready = begins before scope p meant typed plain names types n linked in
        then_within (block_spends before typed.body names n ready
        (callable_parameters before (IsCallee HasBound before) p.parameters
        (with_procedure scope (length before) p)
        (callable_within HasBound before scope stand p typed.is_new)) plain.body s m shows)
        (λ t is. return_spends t p.returned (names_after_all (callables before) names n p.body));
  }

-- The program.
export_spends : (profile : Profile) (program : ProgramTree) (before : List ProcedureTree) (p : ProcedureTree)
    (args : List Arg) → length (violations profile program) ≡ 0 → exported [] program.procedures ≡ Some (before, p)
    → AllByRecursion IsGrammatical before → IsGrammatical p → AreWithin (map param_of p.parameters) args
    → RunIsWithin (export_run before p args) (evaluated_by (flattened profile before p) args)
export_spends profile program before p args h is grammatical plain within =
    let e = own_typing HasBound IsGrammatical body_spends profile program before p h is grammatical in
    let known = callables before in
    let scope = with_procedure e.scope (length before) p in
    let variables = variables_within HasBound before e.scope e.stand p e.typed.is_new in
    let n = length p.parameters in
    let names = parameter_names p in
    let from = given (all_own p.parameters ++ declared_in_all known p.body) args in
    let linked = linked_parameters profile scope e.observed variables p.parameters e.typed.parameters in
    let spent = (body_spends before e.scope p e.stand e.typed plain).spends names
    (parameter_types profile (map param_of p.parameters)) n (holding p.parameters args) from linked
    (shows_arguments p.parameters (declared_in_all known p.body) args within) in
    fits (then_within (inside_within spent) (λ r is'. none)) (omega arith)

pub program_spends : (profile : Profile) (program : ProgramTree) (before : List ProcedureTree) (p : ProcedureTree)
    (args : List Arg) → length (violations profile program) ≡ 0 → exported [] program.procedures ≡ Some (before, p)
    → AllByRecursion IsGrammatical before → IsGrammatical p → AreWithin (map param_of p.parameters) args
    → (program_run program args).nodes ≤ evaluated_by (flattened profile before p) args
program_spends profile program before p args h is grammatical plain within =
    rw is (export_spends profile program before p args h is grammatical plain within).nodes
