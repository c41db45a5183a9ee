-- Statements.
use Rattle.std.proofs.Common.{◌≡◌, ℕ, Bool, ◌==◌, true, List, [], ◌∷◌, length, Option, Some, None, is_some, refl, ap, sym, ◌∙◌}
use Rattle.std.proofs.Common.{subst, arith}
use Rattle.std.proofs.lemmas.Bool.Decides.{nat_tests}
use Rattle.std.proofs.lemmas.Bool.{and_parts, or_parts, eqb-true}
use Rattle.word.specs.declared.place.Place.{Place}
use Rattle.language.specs.declared.rule.Rule.TheVariants.{NameDeclaredTwice}
use Rattle.language.specs.declared.signature.Kind.{Kind}
use Rattle.language.specs.declared.signature.Kind.TheVariants.{Uint32}
use Rattle.language.specs.declared.signature.Label.{Label}
use Rattle.language.specs.declared.signature.Label.TheVariants.{Public}
use Rattle.language.specs.declared.typing.Declared.{Declared}
use Rattle.language.specs.declared.typing.ArrayType.{ArrayType}
use Rattle.language.specs.declared.typing.Declared.TheVariants.{Variable}
use Rattle.language.specs.declared.typing.VariableType.{VariableType}
use Rattle.language.specs.declared.typing.ValueType.{ValueType}
use Rattle.language.specs.declared.typing.ValueType.TheVariants.{Word, Array, Nothing}
use Rattle.language.specs.declared.typing.WordType.{WordType}
use Rattle.language.specs.Tree.{ExprTree, element, StatementTree, declaration, array, assignment}
use Rattle.language.specs.Tree.{element_assignment, call, conditional, loop, BlockTree, nothing, first, ProcedureTree}
use Rattle.language.specs.Tree.{written}
use Rattle.language.specs.declared.why.SecretControl.{SecretControl}
use Rattle.language.specs.declared.why.Typed.{Typed}
use Rattle.language.specs.ExprTyping.{typed_of}
use Rattle.language.specs.Reasons.{secret_in, literal_in, condition_why, bounds_why, control_under, unknown_why}
use Rattle.language.specs.Types.{Scope, found, declared_at, variable, declared, word, is_numeric, is_narrow, is_hidden}
use Rattle.language.specs.Types.{kind_of, label_of, label_under, joined, when, of_one, typed_as}
use Rattle.language.specs.Typing.{value_rules, values_violations, count_violations, target_rules, bounds_rules}
use Rattle.language.specs.Typing.{condition_rules, counter_as, change_violations, declaration_violations}
use Rattle.language.specs.Typing.{declaration_control_violations, assignment_violations}
use Rattle.language.specs.Typing.{element_assignment_violations}
use Rattle.language.specs.Typing.{scope_after, statement_violations, block_violations}
use Rattle.language.specs.WellTyped.{labelled, IsVariable, HasType, of_element, Suits, AllSuit, none_wanted}
use Rattle.language.specs.WellTyped.{one_suits, HasCount}
use Rattle.language.specs.WellTyped.{all_zero, all_given, IsWellTyped, declares, declares_array, assigns}
use Rattle.language.specs.WellTyped.{assigns_element, calls, chooses, repeats, AreWellTyped, no_statement, one_more}
use Rattle.language.proofs.typing_laws_lemmas.Arguments.{told, HaveTypes, none_typed, one_typed, have_types, all_typed}
use Rattle.language.proofs.typing_laws_lemmas.Calls.{call_known, call_none, right_known, right_none}
use Rattle.language.proofs.typing_laws_lemmas.Expressions.{is_variable, known, is_typed, told_of}
use Rattle.language.proofs.typing_laws_lemmas.TypeTests.{bool_word}
use Rattle.language.proofs.typing_laws_lemmas.Nodes.{public_index}
use Rattle.language.proofs.typing_laws_lemmas.NoRules.{none_of_two, none_of_three, none_of_four, none_of_five, no_rules}
use Rattle.language.proofs.typing_laws_lemmas.NoRules.{no_rules_of_one, no_rules_of_two, not_when, is_met}
use Rattle.language.proofs.typing_laws_lemmas.Values.{is_suited, suited, is_changed, kept, is_declared, declared_under}
use Rattle.language.proofs.typing_laws_lemmas.Values.{under_joined}

pub is_new : (o : Option Declared) → when (is_some o) NameDeclaredTwice ≡ [] → o ≡ None
is_new None h = refl
is_new (Some d) h = cc

-- First values.

module _ (scope : Scope) (wanted : WordType) where
  all_suit : {es : List ExprTree} {ts : List Typed} (place : Place) → HaveTypes scope es ts
      → values_violations place wanted ts ≡ [] → AllSuit scope wanted es
  all_suit place none_typed h = none_wanted
  all_suit place (one_typed {t = t} has more) h =
      let none = none_of_two h in
      let w = is_suited wanted t (no_rules _ place none.0) in
      one_suits (rw w.1 at has) w.2 (all_suit place more none.1)

  suited_types : {es : List ExprTree} (place : Place) → AllSuit scope wanted es
      → (ts : List Typed) × HaveTypes scope es ts × (values_violations place wanted ts ≡ [])
  suited_types place none_wanted = ([], none_typed, refl)
  suited_types place (one_suits {e = e} {given = given} has suit more) =
      let rest = suited_types place more in
      (told scope e (Word given) ∷ rest.0, one_typed has rest.1, rw (suited suit, rest.2))

has_count : (place : Place) (size : ℕ) (values : Option (List ExprTree)) → count_violations place size values ≡ []
    → HasCount size values
has_count place size None h = all_zero
has_count place size (Some values) h = all_given (eqb-true (length values) size (is_met _ (no_rules _ place h)))

counted : {size : ℕ} {values : Option (List ExprTree)} (place : Place) → HasCount size values
    → count_violations place size values ≡ []
counted place all_zero = refl
counted {size = size} place (all_given {values = values} h) =
    let even : (length values == size) ≡ true = grind (arith, nat_tests) in rw even

-- Bounds.

are_bounds : (low high : ValueType) → bounds_rules low high ≡ []
    → (low ≡ word Uint32 Public) × (high ≡ word Uint32 Public)
are_bounds low high h =
    let none = none_of_three h in
    let even = or_parts (is_narrow low) (is_narrow high) (not_when _ none.0) in
    let numbers = and_parts (is_numeric low) (is_numeric high) (is_met _ none.1) in
    let public = or_parts (is_hidden low) (is_hidden high) (not_when _ none.2) in
    (public_index low even.0 numbers.0 public.0, public_index high even.1 numbers.1 public.1)

-- a target that violates no rule is a word, which the value suits
target_word : (target given : ValueType) → target_rules target given ≡ []
    → (wanted w : WordType) × (target ≡ Word wanted) × (given ≡ Word w) × Suits w wanted
target_word (Word wanted) given h = let w = is_suited wanted given h in (wanted, w.0, refl, w.1, w.2)
target_word (Array a) given h = cc
target_word Nothing given h = cc

-- what an assignment to a variable violates, where its value is well typed
assignment_none : (control : Option SecretControl) (place known_at : Place) {o : Option Declared}
    {p : Option Typed} {v : VariableType} {given : Typed} → o ≡ Some (Variable v) → p ≡ Some given
    → assignment_violations control place known_at (variable o) p ≡ []
    → (target_rules v.value given.value ≡ [])
    × (change_violations control place known_at v.mutable (label_of v.value) ≡ [])
assignment_none control place known_at is has h =
    let none = none_of_two (rw (is, has) at h) in (no_rules _ place none.0, none.1)

element_assignment_none : (control : Option SecretControl) (place known_at : Place) {o : Option Declared}
    {p : Option ValueType} {q : Option Typed} {v : VariableType} {s : ValueType} {t : Typed}
    → o ≡ Some (Variable v) → p ≡ Some s → q ≡ Some t
    → element_assignment_violations control place known_at (variable o) p q ≡ []
    → (value_rules (record { kind = kind_of s; label = label_of s }) t.value ≡ [])
    × (change_violations control place known_at v.mutable (label_of s) ≡ [])
element_assignment_none control place known_at is has given h =
    let none = none_of_two (rw (is, has, given) at h) in (no_rules _ place none.0, none.1)

-- what a declaration violates, where its value is well typed
declaration_none : (control : Option SecretControl) (place : Place) (taken : Bool) (label : Label) (mutable : Bool)
    (kind : Kind) {p : Option Typed} {given : Typed} → p ≡ Some given
    → of_one [] (declaration_violations control place taken label mutable kind) p ≡ []
    → (when taken NameDeclaredTwice ≡ []) × (value_rules (labelled kind label) given.value ≡ [])
    × (declaration_control_violations control place label mutable ≡ [])
declaration_none control place taken label mutable kind has h =
    let none = none_of_three (rw has at h) in (no_rules _ place none.0, no_rules _ place none.1, none.2)

-- an element is of an array
is_element : {scope : Scope} {place target : Place} {text : List ℕ} {index : ExprTree} {type : ValueType}
    → HasType scope (element place target text index) type
    → (a : ArrayType) × (mutable : Bool) × IsVariable scope text (Array a) mutable
    × HasType scope index (word Uint32 Public)
is_element (of_element {array = a} {mutable = mutable} is has) = (a, mutable, is, has)

-- From the table to the rules.

mutual
  pub statement_typed : (s : StatementTree) (earlier : List ProcedureTree) (scope : Scope)
      (control : Option SecretControl) → statement_violations earlier scope control s ≡ []
      → IsWellTyped earlier scope (label_under control) s
  statement_typed (declaration place label mutable kind text right) earlier scope control h =
      let none = none_of_two h in
      let x = right_known earlier scope control right none.0 in
      let rules = declaration_none control place (is_some (found scope text)) label mutable kind x.told none.1 in
      let w = is_suited (labelled kind label) x.type rules.1 in
      declares (is_new (found scope text) rules.0) (rw w.1 at x.given) w.2
      (is_declared control place label mutable rules.2)
  statement_typed (array place label mutable kind size text values) earlier scope control h =
      let none = none_of_two h in
      let types = have_types scope (written values) none.0 in
      let rules = none_of_four (rw (all_typed scope types.1).1 at none.1) in
      declares_array (is_new (found scope text) (no_rules _ place rules.0))
      (all_suit scope (labelled kind label) place types.1 rules.1) (has_count place size values rules.2)
      (is_declared control place label mutable rules.3)
  statement_typed (assignment place target text right) earlier scope control h =
      let none = none_of_three h in
      let v = is_variable (unknown_why scope text) target (found scope text) none.0 in
      let x = right_known earlier scope control right none.1 in
      let rules = assignment_none control place (declared_at scope text) v.2 x.told none.2 in
      let w = target_word v.0 x.type rules.0 in
      let free = is_changed control place (declared_at scope text) v.1 (label_of v.0) rules.1 in
      assigns (rw (free.0, w.2) at v.2) (rw w.3 at x.given) w.4 (rw w.2 at free.1)
  statement_typed (element_assignment place bracket target text index right) earlier scope control h =
      let none = none_of_three h in
      let e = is_element (known scope (element bracket target text index) none.0).has in
      let x = right_known earlier scope control right none.1 in
      let rules = element_assignment_none control place (declared_at scope text) e.2
      (is_typed scope (of_element {place = bracket} {target = target} e.2 e.3)).is x.told none.2 in
      let w = is_suited e.0.element x.type rules.0 in
      let free = is_changed control place (declared_at scope text) e.1 e.0.element.label rules.1 in
      assigns_element {array = e.0} (rw free.0 at e.2) e.3 (rw w.1 at x.given) w.2 free.1
  statement_typed (call c) earlier scope control h = calls (call_known earlier scope control c h).is_call
  statement_typed (conditional place condition accepted otherwise) earlier scope control h =
      let none = none_of_four h in
      let x = known scope condition none.0 in
      let w = bool_word x.type (is_met _ (no_rules_of_one condition_why place condition_rules x.told none.1)) in
      let inner = control_under place control (typed_of scope condition) in
      let told = typed_as (secret_in scope condition) (literal_in condition) in
      let under : label_under inner ≡ joined w.0 (label_under control) =
      under_joined place control (x.told ∙ ap (λ (t : ValueType). Some (told t)) w.1) in
      chooses {label = w.0} (rw w.1 at x.has)
      (subst (λ l. AreWellTyped earlier scope l accepted) under (block_typed accepted earlier scope inner none.2))
      (subst (λ l. AreWellTyped earlier scope l otherwise) under (block_typed otherwise earlier scope inner none.3))
  statement_typed (loop place counter text low high body) earlier scope control h =
      let none = none_of_five h in
      let x = known scope low none.0 in
      let y = known scope high none.1 in
      let bounds = are_bounds x.type y.type (no_rules_of_two bounds_why place bounds_rules x.told y.told none.2) in
      repeats (rw bounds.0 at x.has) (rw bounds.1 at y.has) (is_new (found scope text) (no_rules _ counter none.3))
      (block_typed body earlier (declared scope counter text counter_as) control none.4)

  pub block_typed : (b : BlockTree) (earlier : List ProcedureTree) (scope : Scope) (control : Option SecretControl)
      → block_violations earlier scope control b ≡ [] → AreWellTyped earlier scope (label_under control) b
  block_typed nothing earlier scope control h = no_statement
  block_typed (first s rest) earlier scope control h =
      let none = none_of_two h in
      one_more (statement_typed s earlier scope control none.0)
      (block_typed rest earlier (scope_after scope s) control none.1)

-- From the rules to the table.

mutual
  pub statement_none : (s : StatementTree) {earlier : List ProcedureTree} {scope : Scope}
      (control : Option SecretControl) → IsWellTyped earlier scope (label_under control) s
      → statement_violations earlier scope control s ≡ []
  statement_none (declaration place label mutable kind text right) {earlier} {scope} control
      (declares new has suit flow) =
      let x = right_none earlier scope control has in
      rw (x.0, x.1, new, suited suit, declared_under control place label mutable flow)
  statement_none (array place label mutable kind size text values) {earlier} {scope} control
      (declares_array new all count flow) =
      let x = suited_types scope (labelled kind label) place all in
      let types = all_typed scope x.1 in
      rw (types.0, types.1, new, x.2, counted place count, declared_under control place label mutable flow)
  statement_none (assignment place target text right) {earlier} {scope} control (assigns is has suit flow) =
      let x = right_none earlier scope control has in rw (is, x.0, x.1, suited suit, kept flow)
  statement_none (element_assignment place bracket target text index right) {earlier} {scope} control
      (assigns_element is has value suit flow) =
      let e = is_typed scope (of_element {place = bracket} {target = target} {text = text} is has) in
      let x = right_none earlier scope control value in
      rw (e.none, e.is, is, x.0, x.1, suited suit, kept flow)
  statement_none (call c) {earlier} {scope} control (calls is) = (call_none earlier scope control is).0
  statement_none (conditional place condition accepted otherwise) {earlier} {scope} control (chooses has one other) =
      let x = is_typed scope has in
      let inner = control_under place control (typed_of scope condition) in
      let under = under_joined place control (told_of scope condition x.is) in
      let ones : block_violations earlier scope inner accepted ≡ [] =
      block_none accepted inner (subst (λ l. AreWellTyped earlier scope l accepted) (sym under) one) in
      let others : block_violations earlier scope inner otherwise ≡ [] =
      block_none otherwise inner (subst (λ l. AreWellTyped earlier scope l otherwise) (sym under) other) in
      rw (x.none, ones, others, x.is)
  statement_none (loop place counter text low high body) {scope = scope} control (repeats one other new inner) =
      let x = is_typed scope one in
      let y = is_typed scope other in
      rw (x.none, y.none, x.is, y.is, block_none body control inner, new)

  pub block_none : (b : BlockTree) {earlier : List ProcedureTree} {scope : Scope} (control : Option SecretControl)
      → AreWellTyped earlier scope (label_under control) b → block_violations earlier scope control b ≡ []
  block_none nothing control no_statement = refl
  block_none (first s rest) control (one_more here there) =
      rw (statement_none s control here, block_none rest control there)
