-- A program that violates no rule comes to what the flat program comes to.
use Rattle.std.proofs.Common.{◌≡◌, ℕ, List, [], ◌++◌, length, map, Option, None, Some, refl, ap, ap₂, ◌∙◌}
use Rattle.std.specs.List.{AllByRecursion}
use Rattle.std.specs.Option.{option_map}
use Rattle.inline.specs.Below.{AreWithin, Arg, Bodies, body_scope, ends_well, exported, final_arrays, Gives, gives}
use Rattle.inline.specs.Below.{holding, IsGrammatical, IsSmallReturn, meets_fault, Place, ProcedureTree, Profile}
use Rattle.inline.specs.Below.{ProgramTree, Results, return_faults, returns, returns_nothing, ReturnTree, RunsAll}
use Rattle.inline.specs.Below.{Scope, State, statements_fault, violations, with_procedure, WordType}
use Rattle.inline.specs.Flat.{TermTree}
use Rattle.inline.specs.FlatMeaning.{Values, given, value_in, path_along, path_of_result, after_all, outcome_of}
use Rattle.inline.specs.FlatMeaning.{ending_by, ending_of}
use Rattle.inline.specs.FlatTyping.{Types, parameter_types}
use Rattle.inline.specs.Numbering.{Numbers, param_of, callables, parameter_names, names_after_all, value_of}
use Rattle.inline.specs.Numbering.{flattened, block, term, declared_in_all}
use Rattle.inline.specs.Path.{first_fault}
use Rattle.language.specs.State.{Word}
use Rattle.language.specs.WellTyped as rules
use Rattle.inline.proofs.Called.{Agrees, ResultAgrees, nothing_given, a_word, Behaves, BodyComes, IsKept}
use Rattle.inline.proofs.Called.{StatementReady, ready_after_all}
use Rattle.inline.proofs.Comes.{Comes, well, fails, then_comes, also, across}
use Rattle.inline.proofs.FlatEnds.{same_ends}
use Rattle.inline.proofs.Kept.{block_keeps}
use Rattle.inline.proofs.Linked.{Linked}
use Rattle.inline.proofs.Parameters.{shows_arguments, arrays_same, all_own, where_begun, linked_parameters}
use Rattle.inline.proofs.Passing.{kind_suits}
use Rattle.inline.proofs.Procedures.{Stand, IsCallee, callable_parameters, callable_within, own_typing}
use Rattle.inline.proofs.Procedures.{variables_within}
use Rattle.inline.proofs.States.{shows_before}
use Rattle.inline.proofs.Terms.{Shows, means}

-- Procedures.

-- a result, where there is one
pub no_result : {scope : Scope} {result : Option WordType} {o : Option ReturnTree} → rules.Returns scope result o
    → result ≡ None → o ≡ None
no_result rules.nothing_returned none = refl
no_result (rules.value_returned has suit) none = absurd cc

-- the end of a body, with its result
result_comes : {before : List ProcedureTree} {p : ProcedureTree} {start end : State} {scope : Scope} {names : Numbers}
    {types : Types} {n : ℕ} (m : Values) → Linked scope names types n → Shows names end m
    → RunsAll before start p.body (gives end) → {result : Option WordType} {o : Option ReturnTree}
    → rules.Returns scope result o → p.returned ≡ o → IsSmallReturn o
    → Comes (Bodies before p start) (Agrees names m result (value_of names o))
    (first_fault (path_of_result m (value_of names o)))
result_comes {end = end} m linked shows run rules.nothing_returned is small =
    well (record { word = None; state = end }) (returns_nothing run is)
    (record { word = nothing_given; shows = shows })
result_comes {end = end} {names = names} m linked shows run (rules.value_returned {r = r} has suit) is small =
    let v = value_in m (term names r.value) in
    also ((means linked has small).value end m shows)
    (λ w gives same. (
      record { word = Some w; state = end },
      returns run is gives,
      record { word = a_word (same ∙ ap (λ k. record { kind = k; value = v }) (kind_suits suit)); shows = shows },
    ))
    (λ at fails. return_faults run is fails)

module _ (before : List ProcedureTree) (scope : Scope) (p : ProcedureTree) (stand : Stand IsKept before scope)
    (typed : rules.IsProcedure before scope p) (plain : IsGrammatical p) where
  module _ (names : Numbers) (types : Types) (n : ℕ)
      (linked : Linked (body_scope scope (length before) p) names types n) where
    pub begins : StatementReady before (body_scope scope (length before) p) names n
    begins = record {
      types = types;
      linked = linked;
      calls = callable_parameters before (IsCallee IsKept before)
          p.parameters (with_procedure scope (length before) p)
          (callable_within IsKept before scope stand p typed.is_new);
    }

    pub body_comes : (s : State) (m : Values) → Shows names s m → BodyComes before p names n s m
    body_comes s m shows =
        let known = callables before in
        let end = after_all m (block known names n p.body) in
        then_comes (same_ends typed.body begins plain.body s m shows)
        (λ t run good.
        also (result_comes end (ready_after_all typed.body begins).linked good run typed.returns refl plain.returned)
        (λ r is agrees. (
          r,
          is,
          record { word = agrees.word; shows = shows_before known p.body names n r.state end agrees.shows },
        ))
        (λ at is. is))
        (λ at run. statements_fault run)

  abbrev pub behaves : Behaves scope.profile before p
  behaves = record {
    scope = with_procedure scope (length before) p;
    observed = refl;
    procedures = variables_within IsKept before scope stand p typed.is_new;
    parameters = typed.parameters;
    returns = no_result typed.returns;
    comes = λ names types n s m linked. body_comes names types n linked s m;
    keeps = λ names types n linked x. block_keeps typed.body (begins names types n linked);
  }

-- The program.

-- a word as a result
word_same : {m : Values} {result : Option WordType} {value : Option TermTree} {word : Option Word}
    → ResultAgrees m result value word → option_map (λ (w : Word). w.value) word ≡ option_map (value_in m) value
word_same nothing_given = refl
word_same (a_word same) = ap (λ (w : Word). Some w.value) same

-- the end of the whole
ended : (program : ProgramTree) (args : List Arg) (before : List ProcedureTree) (p : ProcedureTree)
    (outcome : Results)
    (fault : Option Place) → exported [] program.procedures ≡ Some (before, p)
    → Comes (Bodies before p (holding p.parameters args))
    (λ r. record {
      returned = option_map (λ (w : Word). w.value) r.word;
      arrays = final_arrays r.state
          p.parameters;
    } ≡ outcome) fault
    → Gives program args (ending_by fault outcome)
ended program args before p outcome fault is (well r body same) =
    rw (← same) (ends_well is body)
ended program args before p outcome fault is (fails at body) = meets_fault is body

pub flat_keeps_meaning : (profile : Profile) (program : ProgramTree) (before : List ProcedureTree) (p : ProcedureTree)
    (args : List Arg) → length (violations profile program) ≡ 0 → exported [] program.procedures ≡ Some (before, p)
    → AllByRecursion IsGrammatical before → IsGrammatical p → AreWithin (map param_of p.parameters) args
    → Gives program args (ending_of (flattened profile before p) args)
flat_keeps_meaning profile program before p args h is grammatical plain within =
    let e = own_typing IsKept IsGrammatical behaves profile program before p h is grammatical in
    let known = callables before in
    let scope = with_procedure e.scope (length before) p in
    let variables = variables_within IsKept before e.scope e.stand p e.typed.is_new in
    let n = length p.parameters in
    let names = parameter_names p in
    let body = block known names n p.body in
    let start = holding p.parameters args in
    let from = given (all_own p.parameters ++ declared_in_all known p.body) args in
    let m = after_all from body in
    let value = value_of (names_after_all known names n p.body) p.returned in
    let linked = linked_parameters profile scope e.observed variables p.parameters e.typed.parameters in
    let named = (where_begun profile scope e.observed variables p.parameters e.typed.parameters).named in
    ended program args before p (outcome_of (flattened profile before p) args)
    (first_fault (path_along from body ++ path_of_result m value)) is
    (rw (across (path_along from body) (path_of_result m value))
    (also (body_comes before e.scope p e.stand e.typed plain names
    (parameter_types profile (map param_of p.parameters))
    n linked start from (shows_arguments p.parameters (declared_in_all known p.body) args within))
    (λ r bodies agrees. (
      r,
      bodies,
      ap₂ (λ o arrays. record { returned = o; arrays = arrays }) (word_same agrees.word)
          (arrays_same p.parameters names 0 r.state m named agrees.shows),
    ))
    (λ at bodies. bodies)))
