-- The export of a program that violates no rule is a well-typed flat program.
use Rattle.std.proofs.Common.{◌≡◌, ℕ, false, List, [], ◌++◌, length, map, take, Option, Some, refl, sym, ap, ◌∙◌}
use Rattle.std.proofs.Math.Seq.{take-append_seam}
use Rattle.std.proofs.lemmas.Bool.{or_parts}
use Rattle.std.proofs.lemmas.List.{length-map}
use Rattle.std.specs.List.{AllByRecursion}
use Rattle.inline.specs.Below.{assigns_public, block_assigns, body_scope, exported, IsGrammatical, IsProcedure}
use Rattle.inline.specs.Below.{IsSmallReturn, joined, Label, nothing_returned, parameters_assign, ParameterTree}
use Rattle.inline.specs.Below.{ProcedureTree, Profile, ProgramTree, Public, Returns, ReturnTree, Scope, Secret}
use Rattle.inline.specs.Below.{value_returned, violations, with_procedure, WordType}
use Rattle.inline.specs.Flat.{declaration_of}
use Rattle.inline.specs.FlatTyping.{Types, IsTypedFlat, IsResult, parameter_types}
use Rattle.inline.specs.Numbering.{Numbers, param_of, parameter_names, flattened, callables, declared_in_all}
use Rattle.inline.specs.Numbering.{value_of}
use Rattle.inline.proofs.CallTypes.{TypedBody}
use Rattle.inline.proofs.FlatTypes.{IsHushed, typed_block}
use Rattle.inline.proofs.Hiding.{hides_none, hides_parameters}
use Rattle.inline.proofs.Linked.{Linked}
use Rattle.inline.proofs.Listed.{lists_end, block_takes, all_counted, linked_after_all}
use Rattle.inline.proofs.Parameters.{linked_parameters, all_own}
use Rattle.inline.proofs.Procedures.{Stand, Exported, IsAt, IsWithin, own_typing, variables_within, earlier_within}
use Rattle.inline.proofs.Procedures.{callable_parameters}
use Rattle.inline.proofs.Terms.{means, suits_there}

-- a value is returned exactly where there is a result
result_typed : {scope : Scope} {names : Numbers} {types : Types} {n : ℕ} → Linked scope names types n
    → {result : Option WordType} {returned : Option ReturnTree} → Returns scope result returned
    → IsSmallReturn returned → IsResult types result (value_of names returned)
result_typed linked nothing_returned small = tt
result_typed linked (value_returned has suit) small = suits_there (means linked has small) suit

joined-public : (label : Label) → joined label Public ≡ label
joined-public Public = refl
joined-public Secret = refl

-- One procedure behind those that it may call.

module _ (before : List ProcedureTree) (at : Scope) (p : ProcedureTree) (stand : Stand TypedBody before at)
    (typed : IsProcedure before at p) (plain : IsGrammatical p) where
  abbrev inside : Scope
  inside = body_scope at (length before) p

  -- where secret control is around it
  hushed : (outer : Label) → (outer ≡ Secret → assigns_public at p ≡ false)
      → IsHushed outer inside (block_assigns at p.body)
  hushed outer quiet e =
      let split = or_parts (parameters_assign p.parameters) (block_assigns at p.body) (quiet e) in (
        hides_parameters typed.parameters
            (hides_none (with_procedure at (length before) p)
            (variables_within TypedBody before at stand p typed.is_new))
            split.0,
        split.1,
      )

  within : IsWithin before at inside
  within = callable_parameters before (IsAt at) p.parameters (with_procedure at (length before) p)
      (earlier_within TypedBody before at stand p typed.is_new)

  pub typed_one : TypedBody before at p
  typed_one = record {
    variables = variables_within TypedBody before at stand p typed.is_new;
    parameters = typed.parameters;
    typed = λ all control names types n linked quiet lists. rw (joined-public control) at (typed_block before at stand
        all control typed.body within (hushed control quiet) linked plain.body lists);
    result = λ names types n linked.
        result_typed (linked_after_all before typed.body linked) typed.returns plain.returned;
  }

-- The program.

-- the procedures that the export may call are well typed
pub export_typed : (profile : Profile) (program : ProgramTree) (before : List ProcedureTree) (p : ProcedureTree)
    → length (violations profile program) ≡ 0 → exported [] program.procedures ≡ Some (before, p)
    → AllByRecursion IsGrammatical before → Exported TypedBody profile before p
export_typed profile program before p h is plain = own_typing TypedBody IsGrammatical
    (λ before at p stand typed plain. typed_one before at p stand typed plain) profile program before p h is plain

-- each parameter has a number
own_count : (ps : List ParameterTree) → length (all_own ps) ≡ length ps
own_count ps = length-map (map param_of ps) declaration_of ∙ length-map ps param_of

pub flat_is_typed : (profile : Profile) (program : ProgramTree) (before : List ProcedureTree) (p : ProcedureTree)
    → length (violations profile program) ≡ 0 → exported [] program.procedures ≡ Some (before, p)
    → AllByRecursion IsGrammatical before → IsGrammatical p
    → IsTypedFlat (flattened profile before p)
flat_is_typed profile program before p h is earlier plain =
    let e = export_typed profile program before p h is earlier in
    let one = typed_one before e.scope p e.stand e.typed plain in
    let types = parameter_types profile (map param_of p.parameters) in
    let n = length p.parameters in
    let front = all_own p.parameters in
    let back = declared_in_all (callables before) p.body in
    let many = length-map p.parameters param_of in
    let linked = linked_parameters profile (with_procedure e.scope (length before) p) e.observed one.variables
    p.parameters e.typed.parameters in
    record {
      parameters = ap (λ k. take k (front ++ back)) (many ∙ sym (own_count p.parameters))
          ∙ take-append_seam front back;
      numbered = rw many (block_takes (callables before) (all_counted before) (parameter_names p) n p.body).numbered;
      body = one.typed (front ++ back) Public (parameter_names p) types n linked (λ e. absurd (public_not_secret e))
          (rw (own_count p.parameters) at (lists_end front back));
      result = one.result (parameter_names p) types n linked;
    }
  where
    public_not_secret : Public ≡ Secret → ⊥
    public_not_secret e = cc
