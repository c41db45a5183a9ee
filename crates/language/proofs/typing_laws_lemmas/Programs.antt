-- Procedures and programs.
use Rattle.std.proofs.Common.{◌≡◌, List, [], ◌∷◌, ◌++◌, length, Option, Some, None, refl}
use Rattle.word.specs.declared.place.Place.{Place}
use Rattle.language.specs.declared.rule.Rule.TheVariants.{ReturnMismatch}
use Rattle.language.specs.declared.typing.WordType.{WordType}
use Rattle.language.specs.declared.why.Why.TheVariants.{Returned}
use Rattle.language.specs.Tree.{ParameterTree, ReturnTree, ProcedureTree}
use Rattle.language.specs.Types.{Scope, empty, found, declared}
use Rattle.language.specs.Typing.{parameter_as, parameter_violations, missing_violations, return_violations}
use Rattle.language.specs.Typing.{with_procedure, body_scope, scope_after_all, procedure_violations}
use Rattle.language.specs.Typing.{procedures_violations, exports, export_violations}
use Rattle.language.specs.WellTyped.{AreNew, no_parameter, one_is_new, Returns, nothing_returned}
use Rattle.language.specs.WellTyped.{value_returned, IsProcedure, AreProcedures, no_procedure, one_procedure}
use Rattle.language.specs.typing_laws.ByRules.{BlocksByRules, ProgramsByRules}
use Rattle.language.proofs.typing_laws_lemmas.Expressions.{known, is_typed}
use Rattle.language.proofs.typing_laws_lemmas.NoRules.{none_of_two, none_of_five, no_rules}
use Rattle.language.proofs.typing_laws_lemmas.Statements.{is_new, block_typed, block_none}
use Rattle.language.proofs.typing_laws_lemmas.Values.{is_suited, suited}

-- Parameters.

are_new : (scope : Scope) (ps : List ParameterTree) → parameter_violations scope ps ≡ [] → AreNew scope ps
are_new scope [] h = no_parameter
are_new scope (p ∷ ps) h =
    let none = none_of_two h in
    one_is_new (is_new (found scope p.name) (no_rules _ p.place none.0))
    (are_new (declared scope p.place p.name (parameter_as p)) ps none.1)

new_parameters : {scope : Scope} {ps : List ParameterTree} → AreNew scope ps → parameter_violations scope ps ≡ []
new_parameters no_parameter = refl
new_parameters (one_is_new new more) = rw (new_parameters more, new)

-- Returns.

module _ (scope : Scope) where
  returns : (place : Place) (result : Option WordType) (returned : Option ReturnTree)
      → missing_violations place result returned ≡ [] → return_violations scope result returned ≡ []
      → Returns scope result returned
  returns place None None missing h = nothing_returned
  returns place (Some wanted) None missing h = cc
  returns place None (Some r) missing h =
      let none = none_of_two h in
      let x = known scope r.value none.0 in
      let wrong : ReturnMismatch ∷ [] ≡ [] = no_rules (λ rule. Returned x.type) r.place
      (rw x.is at none.1) in cc
  returns place (Some wanted) (Some r) missing h =
      let none = none_of_two h in
      let x = known scope r.value none.0 in
      let w = is_suited wanted x.type (no_rules _ r.place (rw x.is at none.1)) in
      value_returned (rw w.1 at x.has) w.2

  returned_well : (place : Place) {result : Option WordType} {returned : Option ReturnTree}
      → Returns scope result returned
      → (missing_violations place result returned ≡ []) × (return_violations scope result returned ≡ [])
  returned_well place nothing_returned = (refl, refl)
  returned_well place (value_returned has suit) =
      let x = is_typed scope has in (refl, rw (x.none, x.is, suited suit))

-- Procedures.

module _ (earlier : List ProcedureTree) (scope : Scope) (p : ProcedureTree) where
  is_procedure : procedure_violations earlier scope p ≡ [] → IsProcedure earlier scope p
  is_procedure h =
      let inner = body_scope scope (length earlier) p in
      let none = none_of_five h in
      record {
        is_new = is_new (found scope p.name) (no_rules _ p.place none.0);
        parameters = are_new (with_procedure scope (length earlier) p) p.parameters none.2;
        body = block_typed p.body earlier inner None none.3;
        returns = returns (scope_after_all inner p.body) p.place p.result p.returned none.1 none.4;
      }

  procedure_none : IsProcedure earlier scope p → procedure_violations earlier scope p ≡ []
  procedure_none is =
      let back = returned_well (scope_after_all (body_scope scope (length earlier) p) p.body) p.place is.returns in
      rw (new_parameters is.parameters, block_none p.body None is.body, back.1, back.0, is.is_new)

are_procedures : (earlier : List ProcedureTree) (scope : Scope) (ps : List ProcedureTree)
    → procedures_violations earlier scope ps ≡ [] → AreProcedures earlier scope ps
are_procedures earlier scope [] h = no_procedure
are_procedures earlier scope (p ∷ ps) h =
    let none = none_of_two h in
    one_procedure (is_procedure earlier scope p none.0)
    (are_procedures (earlier ++ p ∷ []) (with_procedure scope (length earlier) p) ps none.1)

procedures_none : {earlier : List ProcedureTree} {scope : Scope} {ps : List ProcedureTree}
    → AreProcedures earlier scope ps → procedures_violations earlier scope ps ≡ []
procedures_none no_procedure = refl
procedures_none (one_procedure {earlier = earlier} {scope = scope} {p = p} here more) =
    rw (procedure_none earlier scope p here, procedures_none more)

-- Programs.

one_export : (places : List Place) → export_violations places ≡ [] → (place : Place) × (places ≡ place ∷ [])
one_export [] h = cc
one_export (place ∷ []) h = (place, refl)
one_export (place ∷ further ∷ places) h = cc

pub blocks : BlocksByRules
blocks earlier scope control block = (block_typed block earlier scope control, block_none block control)

pub programs : ProgramsByRules
programs profile program = (
  λ h.
      let none = none_of_two h in
      let one = one_export (exports program.procedures) none.0 in
      record {
        export = one.0;
        exported = one.1;
        procedures = are_procedures [] (empty profile) program.procedures none.1;
      },
  λ is. rw (is.exported, procedures_none is.procedures),
)
