-- What is known of procedures that may be called, and of the names where they are.
use Rattle.std.proofs.Common.{◌≡◌, ℕ, ◌+◌, ◌<◌, ◌≤◌, true, List, Option, Some, None, arith, length-append}
use Rattle.inline.specs.Below.{AreNew, AreWellTyped, BlockTree, Bodies, declared, found, IsWellTyped, Label}
use Rattle.inline.specs.Below.{no_statement, one_more, Place, ProcedureTree, Profile, Returned, Scope, scope_after}
use Rattle.inline.specs.Below.{scope_after_all, State, StatementTree, Variable, with_parameters, WordType}
use Rattle.inline.specs.declared.flat.FlatVariable.{FlatVariable}
use Rattle.inline.specs.declared.numbering.Numbered.{Numbered}
use Rattle.inline.specs.Flat.{TermTree}
use Rattle.inline.specs.FlatMeaning.{Values, value_in, after_all, path_along, path_of_result}
use Rattle.inline.specs.FlatTyping.{Types, with_type, types_after_all}
use Rattle.inline.specs.Numbering.{Numbers, callables, naming, statement, block, names_after, names_after_all}
use Rattle.inline.specs.Numbering.{value_of, declared_in, declared_in_all, numbers_taken, numbers_taken_all}
use Rattle.inline.specs.Path.{either, first_fault}
use Rattle.language.specs.State.{Word}
use Rattle.inline.proofs.Comes.{Comes}
use Rattle.inline.proofs.Linked.{Linked, later, linked_declared, variable_as}
use Rattle.inline.proofs.Listed.{linked_after}
use Rattle.inline.proofs.Parameters.{NoVariables}
use Rattle.inline.proofs.Procedures.{EachCallable, IsCallee, callable_after, callable_declared}
use Rattle.inline.proofs.Terms.{Shows, word_at}

-- a result that is the flat one's value, where there is one
pub data ResultAgrees (m : Values) : Option WordType → Option TermTree → Option Word → Type 0 where
  nothing_given : ResultAgrees m None None None
  a_word : {word : WordType} {value : TermTree} {w : Word} → w ≡ word_at word.kind (value_in m value)
      → ResultAgrees m (Some word) (Some value) (Some w)

-- what a body or a call came to is what the flat one came to
pub record Agrees (names : Numbers) (m : Values) (result : Option WordType) (value : Option TermTree) (r : Returned) :
    Type 0 where
  pub word : ResultAgrees m result value r.word
  pub shows : Shows names r.state m

-- A number that a body changes nowhere, where n is the next number: it is none of its own, and none of a mutable
-- name.
pub record Spares (names : Numbers) (n x : ℕ) : Type 0 where
  pub below : x < n
  pub spared : (text : List ℕ) (y : Numbered) → found names text ≡ Some y → y.declaration.mutable ≡ true
      → y.number ≡ x → ⊥

-- a body in these names, in a state that they show
abbrev pub BodyComes : List ProcedureTree → ProcedureTree → Numbers → ℕ → State → Values → Type 0
BodyComes before p names n s m =
    let known = callables before in
    let body = block known names n p.body in
    let value = value_of (names_after_all known names n p.body) p.returned in
    let end = after_all m body in
    Comes (Bodies before p s) (Agrees names end p.result value)
    (either (first_fault (path_along m body)) (first_fault (path_of_result end value)))

-- a procedure behind those that it may call means the same once its names are numbers
pub record Behaves (profile : Profile) (before : List ProcedureTree) (p : ProcedureTree) : Type 0 where
  pub scope : Scope
  pub observed : scope.profile ≡ profile
  pub procedures : NoVariables scope
  pub parameters : AreNew scope p.parameters
  pub returns : p.result ≡ None → p.returned ≡ None
  pub comes : (names : Numbers) (types : Types) (n : ℕ) (s : State) (m : Values)
      → Linked (with_parameters scope p.parameters) names types n → Shows names s m → BodyComes before p names n s m
  pub keeps : (names : Numbers) (types : Types) (n : ℕ) → Linked (with_parameters scope p.parameters) names types n
      → (x : ℕ) → Spares names n x → (m : Values)
      → after_all m (block (callables before) names n p.body) x ≡ m x

-- the statement that each procedure meets, in the scope of those before it
abbrev pub IsKept : List ProcedureTree → Scope → ProcedureTree → Type 0
IsKept before scope p = Behaves scope.profile before p

-- where a statement begins: its names go together with numbers, of which the next is n, and with types
pub record StatementReady (earlier : List ProcedureTree) (scope : Scope) (names : Numbers) (n : ℕ) : Type 0 where
  pub types : Types
  pub linked : Linked scope names types n
  pub calls : EachCallable earlier (IsCallee IsKept earlier) scope

module _ {earlier : List ProcedureTree} where
  pub ready_later : {scope : Scope} {names : Numbers} {n m : ℕ} → n ≤ m → StatementReady earlier scope names n
      → StatementReady earlier scope names m
  ready_later more ready = record { types = ready.types; linked = later more ready.linked; calls = ready.calls }

  -- after a declaration
  pub ready_declared : {scope : Scope} {names : Numbers} {n : ℕ} → StatementReady earlier scope names n
      → (place : Place) (text : List ℕ) (own : FlatVariable) → found scope.names text ≡ None
      → StatementReady earlier (declared scope place text (Variable (variable_as own))) (naming names text n own)
      (n + 1)
  ready_declared {scope = scope} {n = n} ready place text own new = record {
    types = with_type ready.types n own;
    linked = linked_declared ready.linked place text own new;
    calls = callable_declared earlier (IsCallee IsKept earlier) scope place text (variable_as own) ready.calls;
  }

  pub ready_after : {scope : Scope} {control : Label} {s : StatementTree} → IsWellTyped earlier scope control s
      → {names : Numbers} {n : ℕ} → StatementReady earlier scope names n
      → StatementReady earlier (scope_after scope s) (names_after (callables earlier) names n s)
      (n + numbers_taken (callables earlier) s)
  ready_after {s = s} here {names = names} {n = n} ready = record {
    types = types_after_all ready.types (statement (callables earlier) names n s);
    linked = linked_after earlier here ready.linked;
    calls = callable_after earlier (IsCallee IsKept earlier) here ready.calls;
  }

  pub ready_after_all : {scope : Scope} {control : Label} {b : BlockTree} → AreWellTyped earlier scope control b
      → {names : Numbers} {n : ℕ} → StatementReady earlier scope names n
      → StatementReady earlier (scope_after_all scope b) (names_after_all (callables earlier) names n b)
      (n + numbers_taken_all (callables earlier) b)
  ready_after_all no_statement ready = ready_later (omega arith) ready
  ready_after_all (one_more {statement = s} {rest = rest} here there) ready =
      ready_later
      (omega (arith, length-append (declared_in (callables earlier) s) (declared_in_all (callables earlier) rest)))
      (ready_after_all there (ready_after here ready))
