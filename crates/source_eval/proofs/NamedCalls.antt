-- In a program that violates no rule each call is of an earlier procedure, and one procedure is exported.
use Rattle.std.proofs.Common.{◌≡◌, ℕ, true, if◌then◌else◌, List, [], ◌∷◌, ◌++◌, length, slice_get}
use Rattle.std.proofs.Common.{Option, Some, None, is_some, inl, inr, refl, ap, arith}
use Rattle.std.proofs.lemmas.Bool.{cases_Bool}
use Rattle.std.proofs.lemmas.Option.{none-some, slice_get_within}
use Rattle.std.specs.Str.{bytes_eq}
use Rattle.source_eval.specs.Below.{array, assigns_public, BlockTree, CallTree, declaration, export_place, exported}
use Rattle.source_eval.specs.Below.{exports, named, parameter_as, ParameterTree, Place, ProcedureTree, Profile}
use Rattle.source_eval.specs.Below.{ProgramTree, RightTree, scope_after, StatementTree, with_parameters, with_procedure}
use Rattle.language.specs.declared.signature.Label.{Label}
use Rattle.language.specs.declared.typing.Callee.{Callee}
use Rattle.language.specs.declared.typing.Declared.TheVariants.{Procedure, Variable}
use Rattle.language.specs.declared.typing.ValueType.{ValueType}
use Rattle.language.specs.declared.typing.VariableType.{VariableType}
use Rattle.language.specs.Types.{Scope, found, declared, callee}
use Rattle.language.specs.WellTyped.{IsCall, of_procedure, RightHasType, of_call, of_value, IsWellTyped, declares}
use Rattle.language.specs.WellTyped.{declares_array, assigns, assigns_element, calls, chooses, repeats, AreWellTyped}
use Rattle.language.specs.WellTyped.{no_statement, one_more, AreProcedures, no_procedure, one_procedure}
use Rattle.language.specs.WellTyped.{IsTypedProgram}
use Rattle.source_eval.proofs.Below.{Found, found-split}
use Rattle.source_eval.proofs.EarlierCalls.{IsNamed, RightKnown, StatementKnown, BlockKnown, CallEarlier}

-- there is a value
abbrev pub IsThere : {A : Type 0} → Option A → Type 0
IsThere {A} o = (a : A) × (o ≡ Some a)

-- Procedures and their names.

-- a procedure's name in scope is one of these
abbrev AreNamed : List ProcedureTree → Scope → Type 0
AreNamed earlier scope = (text : List ℕ) (c : Callee) → found scope text ≡ Some (Procedure c) → IsNamed earlier text

-- so is one that may be called
abbrev AreCallable : List ProcedureTree → Scope → Type 0
AreCallable earlier scope = (text : List ℕ) (c : Callee) (p : ProcedureTree) → found scope text ≡ Some (Procedure c)
    → slice_get earlier c.number ≡ Some p → IsNamed earlier text

callable-after : (earlier : List ProcedureTree) (scope : Scope) (place : Place) (name : List ℕ) (v : VariableType)
    → AreCallable earlier scope → AreCallable earlier (declared scope place name (Variable v))
callable-after earlier scope place name v are text c p is there =
    elim (found-split scope.names name (Variable v) text (Procedure c) is) [
      | inl old ↦ are text c p old there
      | inr new ↦ (let wrong : Variable v ≡ Procedure c = new.1 in cc)
    ]

-- what stands in scope for a procedure
abbrev as_callee : Scope → ℕ → ProcedureTree → Callee
as_callee scope number p = record { number = number; assigns_public = assigns_public scope p }

-- a procedure may not call itself
callable-within : (earlier : List ProcedureTree) (scope : Scope) (q : ProcedureTree) → AreNamed earlier scope
    → AreCallable earlier (with_procedure scope (length earlier) q)
callable-within earlier scope q are text c p is there =
    let this = as_callee scope (length earlier) q in
    elim (found-split scope.names q.name (Procedure this) text (Procedure c) is) [
      | inl old ↦ are text c old
      | inr new ↦ (let low = slice_get_within earlier c.number p there in
          let declared_is : Procedure this ≡ Procedure c = new.1 in
          let same : this ≡ c = cc in
          absurd (omega (arith, low, ap (λ (d : Callee). d.number) same)))
    ]

-- one more procedure
named-kept : (before ps : List ProcedureTree) (p : ProcedureTree) (text : List ℕ) (old : Found)
    → named before ps text ≡ Some old → (new : Found) × (named before (ps ++ p ∷ []) text ≡ Some new)
named-kept before [] p text old is = absurd (none-some old is)
named-kept before (q ∷ ps) p text old is = elim (cases_Bool (bytes_eq text q.name)) [
  | inl here ↦ ((before, q), rw here)
  | inr other ↦ rw other (named-kept (before ++ q ∷ []) ps p text old (rw other at is))
]

named-last : (before ps : List ProcedureTree) (p : ProcedureTree) (text : List ℕ) → bytes_eq text p.name ≡ true
    → (new : Found) × (named before (ps ++ p ∷ []) text ≡ Some new)
named-last before [] p text same = ((before, p), rw same)
named-last before (q ∷ ps) p text same = elim (cases_Bool (bytes_eq text q.name)) [
  | inl here ↦ ((before, q), rw here)
  | inr other ↦ rw other (named-last (before ++ q ∷ []) ps p text same)
]

named-after : (earlier : List ProcedureTree) (scope : Scope) (number : ℕ) (p : ProcedureTree) → AreNamed earlier scope
    → AreNamed (earlier ++ p ∷ []) (with_procedure scope number p)
named-after earlier scope number p are text c is =
    elim (found-split scope.names p.name (Procedure (as_callee scope number p)) text (Procedure c) is) [
      | inl old ↦ (let there = are text c old in named-kept [] earlier p text there.0 there.1)
      | inr new ↦ named-last [] earlier p text new.0
    ]

-- Calls, statements and procedures.

module _ (earlier : List ProcedureTree) where
  call-named : {scope : Scope} {control : Label} {c : CallTree} {type : ValueType} → AreCallable earlier scope
      → IsCall earlier scope control c type → IsNamed earlier c.name
  call-named are (of_procedure {c = c} {callee = callee} {p = p} is there passed may) = are c.name callee p is there

  right-named : {scope : Scope} {control : Label} {right : RightTree} {type : ValueType} → AreCallable earlier scope
      → RightHasType earlier scope control right type → RightKnown earlier right
  right-named are (of_call is) = call-named are is
  right-named are (of_value has) = tt

  scope-callable : (scope : Scope) (statement : StatementTree) → AreCallable earlier scope
      → AreCallable earlier (scope_after scope statement)
  scope-callable scope (declaration place label mutable kind text right) are =
      callable-after earlier scope place text _ are
  scope-callable scope (array place label mutable kind size text values) are =
      callable-after earlier scope place text _ are
  scope-callable scope _ are = are

mutual
  statement-named : {earlier : List ProcedureTree} {scope : Scope} {control : Label} {statement : StatementTree}
      → AreCallable earlier scope → IsWellTyped earlier scope control statement → StatementKnown earlier statement
  statement-named {earlier = earlier} are (declares new has suit flow) = right-named earlier are has
  statement-named are (declares_array new all count flow) = tt
  statement-named {earlier = earlier} are (assigns is has suit flow) = right-named earlier are has
  statement-named {earlier = earlier} are (assigns_element is has value suit flow) = right-named earlier are value
  statement-named {earlier = earlier} are (calls is) = call-named earlier are is
  statement-named are (chooses has one other) = (block-named are one, block-named are other)
  statement-named {earlier = earlier} are (repeats {scope = scope} {counter = counter} {text = text} low high new inner) =
      block-named (callable-after earlier scope counter text _ are) inner

  block-named : {earlier : List ProcedureTree} {scope : Scope} {control : Label} {block : BlockTree}
      → AreCallable earlier scope → AreWellTyped earlier scope control block → BlockKnown earlier block
  block-named are no_statement = tt
  block-named {earlier = earlier} are (one_more {scope = scope} {statement = statement} here there) =
      (statement-named are here, block-named (scope-callable earlier scope statement are) there)

parameters-callable : (earlier : List ProcedureTree) (scope : Scope) (ps : List ParameterTree)
    → AreCallable earlier scope → AreCallable earlier (with_parameters scope ps)
parameters-callable earlier scope [] are = are
parameters-callable earlier scope (p ∷ ps) are =
    parameters-callable earlier (declared scope p.place p.name (parameter_as p)) ps
    (callable-after earlier scope p.place p.name _ are)

calls-earlier : {earlier : List ProcedureTree} {scope : Scope} {ps : List ProcedureTree} → AreNamed earlier scope
    → AreProcedures earlier scope ps → CallEarlier earlier ps
calls-earlier are no_procedure = tt
calls-earlier are (one_procedure {earlier = earlier} {scope = scope} {p = p} this later) = (
  block-named (parameters-callable earlier (with_procedure scope (length earlier) p) p.parameters
      (callable-within earlier scope p are)) this.body,
  calls-earlier (named-after earlier scope (length earlier) p are) later,
)

-- The program.

first-exported : (before ps : List ProcedureTree) (place : Place) (places : List Place) → exports ps ≡ place ∷ places
    → IsThere (exported before ps)
first-exported before [] place places is = cc
first-exported before (p ∷ ps) place places is =
    by_export p.export is (first-exported (before ++ p ∷ []) ps place places)
  where
    by_export : (o : Option Place) → export_place o (exports ps) ≡ place ∷ places
        → (exports ps ≡ place ∷ places → IsThere (exported (before ++ p ∷ []) ps))
        → IsThere (if is_some o then Some (before, p) else exported (before ++ p ∷ []) ps)
    by_export (Some here) h later = ((before, p), refl)
    by_export None h later = later h

pub one-exported : {profile : Profile} (program : ProgramTree) → IsTypedProgram profile program
    → IsThere (exported [] program.procedures)
one-exported program typed = first-exported [] program.procedures typed.export [] typed.exported

pub all-call-earlier : {profile : Profile} (program : ProgramTree) → IsTypedProgram profile program
    → CallEarlier [] program.procedures
all-call-earlier program typed = calls-earlier (λ text c is. absurd (none-some (Procedure c) is)) typed.procedures
