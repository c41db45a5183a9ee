-- The trees of conditionals and loops, by the lists of their statements; and their names are gone after them.
use Rattle.std.proofs.lemmas.List.Sums.{fold-append}
use Rattle.std.proofs.Common.{◌≡◌, ℕ, Bool, Option, fold, true, false, List, [], ◌∷◌}
use Rattle.std.proofs.Common.{◌++◌, Vec, Global, length, is_some, cond, take, refl, sym, ap, ap₂, ◌∙◌}
use Rattle.std.proofs.lemmas.List.{append_assoc, append-nil}
use Rattle.std.proofs.Math.Seq.{take-append_seam}
use Rattle.labels.specs.Below.{array, asked_of_one, asked_of_two, at, block_tree, block_violations, BlockTree}
use Rattle.labels.specs.Below.{bounds_rules, bounds_why, condition_rules, condition_why, control_under, counter_as}
use Rattle.labels.specs.Below.{declaration, declared, declared_array, declared_as, Expr, expr_tree, expr_violations}
use Rattle.labels.specs.Below.{first, For, found, If, NameDeclaredTwice, nothing, parameter_as, ParameterTree, Place}
use Rattle.labels.specs.Below.{ProcedureTree, Scope, scope_after, scope_after_all, SecretControl, shortened, Noted, noted}
use Rattle.labels.specs.Below.{Statement, statement_tree, statement_violations, StatementTree, Typed, typed_of}
use Rattle.labels.specs.Below.{when, with_parameters}
use Rattle.language.specs.declared.tree.Counter.{Counter}
use Rattle.language.proofs.BlockLemmas.{conditional_tree, loop_tree}
use Rattle.language.specs.declared.typing.Declared.{Declared}
use Rattle.language.specs.names.Scope.{found as found_in}

-- names, and what they stand for; and where they are declared
abbrev Names : Type 0
Names = List (List ℕ × Declared)

abbrev Places : Type 0
Places = List (List ℕ × Place)

-- a scope with other names, and with more
abbrev with_names : Scope → Names → Places → Scope
with_names scope names places = record { profile = scope.profile; names = names; places = places }

abbrev extended : Scope → Names → Places → Scope
extended scope more places = with_names scope (scope.names ++ more) (scope.places ++ places)

-- the one with more names is the other
record IsLonger (scope whole : Scope) : Type 0 where
  more : Names
  places : Places
  is : whole ≡ extended scope more places

longer_none : (scope : Scope) → IsLonger scope scope
longer_none scope = record {
  more = [];
  places = [];
  is = ap₂ (with_names scope) (sym (append-nil scope.names)) (sym (append-nil scope.places));
}

longer_twice : {scope middle whole : Scope} → IsLonger scope middle → IsLonger middle whole → IsLonger scope whole
longer_twice {scope = scope} one other = record {
  more = one.more ++ other.more;
  places = one.places ++ other.places;
  is = other.is ∙ ap (λ (front : Scope). extended front other.more other.places) one.is
      ∙ ap₂ (with_names scope) (append_assoc scope.names one.more other.more)
      (append_assoc scope.places one.places other.places);
}

-- its earliest names are those that it had
shortened_longer : {scope whole : Scope} (n : ℕ) → n ≡ length scope.names → n ≡ length scope.places
    → IsLonger scope whole → shortened n whole ≡ scope
shortened_longer {scope = scope} n many even longer =
    ap (shortened n) longer.is
    ∙ ap₂ (with_names scope)
    (ap (λ m. take m (scope.names ++ longer.more)) many ∙ take-append_seam scope.names longer.more)
    (ap (λ m. take m (scope.places ++ longer.places)) even ∙ take-append_seam scope.places longer.places)

-- a declaration only appends
appended : {V : Type 0} (taken : Bool) (names : List (List ℕ × V)) (text : List ℕ) (what : V)
    → (more : List (List ℕ × V)) × (cond taken names (names ++ (text, what) ∷ []) ≡ names ++ more)
appended true names text what = ([], sym (append-nil names))
appended false names text what = ((text, what) ∷ [], refl)

declared_more : (scope : Scope) (place : Place) (text : List ℕ) (what : Declared)
    → IsLonger scope (declared scope place text what)
declared_more scope place text what =
    let names = appended (is_some (found_in scope.names text)) scope.names text what in
    let places = appended (is_some (found_in scope.places text)) scope.places text place in
    record { more = names.0; places = places.0; is = ap₂ (with_names scope) names.1 places.1 }

after_more : (scope : Scope) (s : StatementTree) → IsLonger scope (scope_after scope s)
after_more scope (declaration place label mutable kind text right) =
    declared_more scope place text (declared_as label mutable kind)
after_more scope (array place label mutable kind size text values) =
    declared_more scope place text (declared_array label mutable kind size)
after_more scope _ = longer_none scope

all_more : (b : BlockTree) (scope : Scope) → IsLonger scope (scope_after_all scope b)
all_more nothing scope = longer_none scope
all_more (first s rest) scope = longer_twice (after_more scope s) (all_more rest (scope_after scope s))

-- the names before a block are the earliest of those after it
pub scope_before : (n : ℕ) (scope : Scope) (b : BlockTree) → n ≡ length scope.names → n ≡ length scope.places
    → shortened n (scope_after_all scope b) ≡ scope
scope_before n scope b many even = shortened_longer n many even (all_more b scope)

-- so are those before a loop
pub scope_before_iterations : (n : ℕ) (scope : Scope) (place : Place) (text : List ℕ) (what : Declared) (b : BlockTree)
    → n ≡ length scope.names → n ≡ length scope.places
    → shortened n (scope_after_all (declared scope place text what) b) ≡ scope
scope_before_iterations n scope place text what b many even =
    shortened_longer n many even
    (longer_twice (declared_more scope place text what) (all_more b (declared scope place text what)))

-- parameters only append too
parameters_more : (ps : List ParameterTree) (scope : Scope) → IsLonger scope (with_parameters scope ps)
parameters_more [] scope = longer_none scope
parameters_more (p ∷ ps) scope =
    longer_twice (declared_more scope p.place p.name (parameter_as p))
    (parameters_more ps (declared scope p.place p.name (parameter_as p)))

-- so the names before the parameters are the earliest of those after the body
pub scope_before_body : (n : ℕ) (scope : Scope) (ps : List ParameterTree) (b : BlockTree)
    → n ≡ length scope.names → n ≡ length scope.places
    → shortened n (scope_after_all (with_parameters scope ps) b) ≡ scope
scope_before_body n scope ps b many even =
    shortened_longer n many even (longer_twice (parameters_more ps scope) (all_more b (with_parameters scope ps)))

-- what a conditional violates, by the lists of its arms
conditional_violations : (seen : Noted) (earlier : List ProcedureTree) (scope : Scope) (control : Option SecretControl)
    (statement : Statement) (place : Place) (condition : Expr) (accepted otherwise : Vec Statement Global)
    → statement ≡ If place condition accepted otherwise →
    fold noted seen (statement_violations earlier scope control (statement_tree statement))
    ≡ fold noted (fold noted (fold noted (fold noted seen (expr_violations scope (expr_tree condition)))
    (asked_of_one condition_why place condition_rules (typed_of scope (expr_tree condition))))
    (block_violations earlier scope (control_under place control (typed_of scope (expr_tree condition)))
    (block_tree accepted.items)))
    (block_violations earlier scope (control_under place control (typed_of scope (expr_tree condition)))
    (block_tree otherwise.items))
conditional_violations seen earlier scope control statement place condition accepted otherwise is =
    ap (λ s. fold noted seen (statement_violations earlier scope control s)) (ap statement_tree is
    ∙ conditional_tree place condition accepted otherwise) ∙ simp (fold-append noted)

-- the same, from what each part has noted: the condition, what is asked of it, and both arms
pub conditional_seen : (seen of_condition of_asked of_accepted of_both : Noted) (earlier : List ProcedureTree)
    (scope between : Scope) (control under : Option SecretControl) (type : Option Typed) (statement : Statement)
    (place : Place) (condition : Expr) (accepted otherwise : Vec Statement Global) (ones others : List Statement)
    → statement ≡ If place condition accepted otherwise → ones ≡ accepted.items → others ≡ otherwise.items →
    type ≡ typed_of scope (expr_tree condition) → under ≡ control_under place control type → between ≡ scope →
    of_condition ≡ fold noted seen (expr_violations scope (expr_tree condition))
    → of_asked ≡ fold noted of_condition (asked_of_one condition_why place condition_rules type) →
    of_accepted ≡ fold noted of_asked (block_violations earlier scope under (block_tree ones))
    → of_both ≡ fold noted of_accepted (block_violations earlier between under (block_tree others)) →
    of_both ≡ fold noted seen (statement_violations earlier scope control (statement_tree statement))
conditional_seen seen of_condition of_asked of_accepted of_both earlier scope between control under type statement place
    condition accepted otherwise ones others is first_arm second_arm typed label same e n a o =
    let whole = conditional_violations seen earlier scope control statement place condition accepted otherwise is in
    cc

-- what a loop violates, by the list of its body
loop_violations : (seen : Noted) (earlier : List ProcedureTree) (scope : Scope) (control : Option SecretControl)
    (statement : Statement) (place : Place) (counter : Counter) (low high : Expr) (body : Vec Statement Global)
    → statement ≡ For place counter low high body →
    fold noted seen (statement_violations earlier scope control (statement_tree statement))
    ≡ fold noted
    (fold noted (fold noted (fold noted seen (expr_violations scope (expr_tree low)))
    (expr_violations scope (expr_tree high)))
    (asked_of_two bounds_why place bounds_rules (typed_of scope (expr_tree low)) (typed_of scope (expr_tree high))))
    (at counter.place (when (is_some (found scope counter.name)) NameDeclaredTwice)
    ++ block_violations earlier (declared scope counter.place counter.name counter_as) control (block_tree body.items))
loop_violations seen earlier scope control statement place counter low high body is =
    ap (λ s. fold noted seen (statement_violations earlier scope control s)) (ap statement_tree is
    ∙ loop_tree place counter low high body) ∙ simp (fold-append noted)

-- the same, from what each part has noted: the bounds, what is asked of them, and the iterations
pub loop_seen : (seen of_low of_high of_asked of_iterations : Noted) (earlier : List ProcedureTree)
    (scope : Scope)
    (control : Option SecretControl) (lower upper : Option Typed) (statement : Statement) (place : Place) (counter : Counter)
    (low high : Expr) (body : Vec Statement Global) (ones : List Statement)
    → statement ≡ For place counter low high body → ones ≡ body.items →
    lower ≡ typed_of scope (expr_tree low) → upper ≡ typed_of scope (expr_tree high) →
    of_low ≡ fold noted seen (expr_violations scope (expr_tree low))
    → of_high ≡ fold noted of_low (expr_violations scope (expr_tree high)) →
    of_asked ≡ fold noted of_high (asked_of_two bounds_why place bounds_rules lower upper) →
    of_iterations ≡ fold noted of_asked (at counter.place (when (is_some (found scope counter.name)) NameDeclaredTwice)
    ++ block_violations earlier (declared scope counter.place counter.name counter_as) control (block_tree ones)) →
    of_iterations ≡ fold noted seen (statement_violations earlier scope control (statement_tree statement))
loop_seen seen of_low of_high of_asked of_iterations earlier scope control lower upper statement place counter low high
    body
    ones is items typed typed' l h n t =
    let whole = loop_violations seen earlier scope control statement place counter low high body is in cc
