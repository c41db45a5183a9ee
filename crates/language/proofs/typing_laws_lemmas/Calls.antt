-- Calls and right sides.
use Rattle.std.proofs.Common.{◌≡◌, Bool, false, ◌&&◌, List, [], slice_get, Option, Some, None, is_some, refl, sym, ap}
use Rattle.std.proofs.Common.{◌∙◌}
use Rattle.std.specs.Option.{option_map}
use Rattle.language.specs.declared.signature.Label.TheVariants.{Secret}
use Rattle.language.specs.declared.typing.Callee.{Callee}
use Rattle.language.specs.declared.typing.Declared.{Declared}
use Rattle.language.specs.declared.typing.Declared.TheVariants.{Procedure, Variable}
use Rattle.language.specs.declared.typing.ValueType.{ValueType}
use Rattle.language.specs.declared.why.SecretControl.{SecretControl}
use Rattle.language.specs.declared.why.Typed.{Typed}
use Rattle.language.specs.Tree.{CallTree, RightTree, called, computed, ProcedureTree}
use Rattle.language.specs.Types.{Scope, found, callee, label_under, typed_as}
use Rattle.language.specs.Typing.{called_one, with_tree, known_call_violations}
use Rattle.language.specs.Typing.{call_type, call_violations, result_value, right_secret, right_literal}
use Rattle.language.specs.Typing.{right_type, right_typed, right_violations}
use Rattle.language.specs.WellTyped.{IsCall, of_procedure, RightHasType, of_call, of_value}
use Rattle.language.proofs.typing_laws_lemmas.Arguments.{have_types, all_typed, are_passed, passed_none}
use Rattle.language.proofs.typing_laws_lemmas.Expressions.{known, is_typed}
use Rattle.language.proofs.typing_laws_lemmas.NoRules.{none_of_two, no_rules, not_when}

-- a call that violates no rule is of an earlier procedure
record IsEarlier (earlier : List ProcedureTree) (o : Option Declared) : Type 0 where
  callee : Callee
  procedure : ProcedureTree
  found_is : o ≡ Some (Procedure callee)
  there : slice_get earlier callee.number ≡ Some procedure

is_earlier : (earlier : List ProcedureTree) (scope : Scope) (control : Option SecretControl) (call : CallTree)
    (ts : List Typed) (o : Option Declared)
    → known_call_violations scope control call (called_one earlier (callee o)) ts ≡ [] → IsEarlier earlier o
is_earlier earlier scope control call ts (Some (Procedure c)) h = by (slice_get earlier c.number) refl h
  where
    by : (q : Option ProcedureTree) → slice_get earlier c.number ≡ q
        → known_call_violations scope control call (with_tree c q) ts ≡ [] → IsEarlier earlier (Some (Procedure c))
    by (Some p) e h = record { callee = c; procedure = p; found_is = refl; there = e }
    by None e h = cc
is_earlier earlier scope control call ts (Some (Variable v)) h = cc
is_earlier earlier scope control call ts None h = cc

-- what is called
called_is : (earlier : List ProcedureTree) (o : Option Declared) (c : Callee) (p : ProcedureTree)
    → o ≡ Some (Procedure c) → slice_get earlier c.number ≡ Some p → called_one earlier (callee o) ≡ Some (c, p)
called_is earlier o c p is there = rw (is, there)

allowed : (control : Option SecretControl) (assigns : Bool) → (is_some control && assigns) ≡ false
    → label_under control ≡ Secret → assigns ≡ false
allowed (Some c) assigns h e = h
allowed None assigns h e = cc

free : (control : Option SecretControl) (assigns : Bool) → (label_under control ≡ Secret → assigns ≡ false)
    → (is_some control && assigns) ≡ false
free (Some c) assigns h = h refl
free None assigns h = refl

module _ (earlier : List ProcedureTree) (scope : Scope) (control : Option SecretControl) where
  pub record CallKnown (c : CallTree) : Type 0 where
    pub type : ValueType
    pub is_call : IsCall earlier scope (label_under control) c type
    pub is : call_type earlier scope control c ≡ Some type

  pub call_none : {c : CallTree} {type : ValueType} → IsCall earlier scope (label_under control) c type
      → (call_violations earlier scope control c ≡ []) × (call_type earlier scope control c ≡ Some type)
  call_none (of_procedure {c = c} {callee = k} {p = p} is there passed may) =
      let x = passed_none scope c.place p passed in
      let all = all_typed scope x.have in
      let same = called_is earlier (found scope c.name) k p is there in
      let control_is = free control k.assigns_public may in (
        rw (all.0, all.1, same, x.none, control_is),
        rw (all.1, same, x.none, control_is),
      )

  pub call_known : (c : CallTree) → call_violations earlier scope control c ≡ [] → CallKnown c
  call_known c h =
      let none = none_of_two h in
      let types = have_types scope c.arguments none.0 in
      let ts = types.0 in
      let rules : known_call_violations scope control c (called_one earlier (callee (found scope c.name))) ts ≡ [] =
      rw (all_typed scope types.1).1 at none.1 in
      let e = is_earlier earlier scope control c ts (found scope c.name) rules in
      let same = called_is earlier (found scope c.name) e.callee e.procedure e.found_is e.there in
      let known : known_call_violations scope control c (Some (e.callee, e.procedure)) ts ≡ [] =
      ap (λ o. known_call_violations scope control c o ts) (sym same) ∙ rules in
      let each = none_of_two known in
      let is_call = of_procedure {callee = e.callee} {p = e.procedure} e.found_is e.there
      (are_passed scope c.place e.procedure ts c.arguments types.1 each.0)
      (allowed control e.callee.assigns_public (not_when _ (no_rules _ c.place each.1))) in
      record { type = result_value e.procedure.result; is_call = is_call; is = (call_none is_call).1 }

  -- Right sides.

  pub record RightKnown (right : RightTree) : Type 0 where
    pub type : ValueType
    pub given : RightHasType earlier scope (label_under control) right type
    pub told : right_typed earlier scope control right
        ≡ Some (typed_as (right_secret scope right) (right_literal right) type)

  pub right_known : (right : RightTree) → right_violations earlier scope control right ≡ [] → RightKnown right
  right_known (called c) h =
      let x = call_known c h in
      record { type = x.type; given = of_call x.is_call; told = ap (option_map (typed_as None None)) x.is }
  right_known (computed e) h =
      let x = known scope e h in record { type = x.type; given = of_value x.has; told = x.told }

  pub right_none : {right : RightTree} {type : ValueType} → RightHasType earlier scope (label_under control) right type
      → (right_violations earlier scope control right ≡ []) × (right_type earlier scope control right ≡ Some type)
  right_none (of_call is) = call_none is
  right_none (of_value has) = let x = is_typed scope has in (x.none, x.is)
