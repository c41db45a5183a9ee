-- Where a body begins: the parameters have the first numbers, and hold the arguments.
use Rattle.std.proofs.Common.{◌≡◌, ◌≢◌, ℕ, suc, ◌+◌, ◌<◌, ◌≤◌, true, inl, inr, List, [], ◌∷◌, ◌++◌, length, map}
use Rattle.std.proofs.Common.{Option, Some, None, slice_get, refl, sym, ap, ◌∙◌, arith, append_assoc, append-nil}
use Rattle.std.proofs.Common.{length-append, zero}
use Rattle.std.proofs.lemmas.Bool.{cases_Bool}
use Rattle.std.proofs.lemmas.Option.{none-some, same_Some, slice_get_past}
use Rattle.std.specs.Str.{bytes_eq}
use Rattle.inline.specs.Below.{AreNew, AreWithin, Arg, argument_value, declared, final_array, final_arrays, Form, found}
use Rattle.inline.specs.Below.{HasShape, holding, is_mutable, Kind, MutableArray, one_is_new, parameter_as}
use Rattle.inline.specs.Below.{parameter_value, ParameterTree, Profile, Scope, SingleWord, State, Value, Variable}
use Rattle.inline.specs.Below.{VariableType, with_parameters, words_of}
use lib.Pointwise.{bytes_decides}
use Rattle.inline.specs.declared.flat.FlatVariable.{FlatVariable}
use Rattle.inline.specs.declared.numbering.Numbered.{Numbered}
use Rattle.inline.specs.Flat.{declaration_of, elements_by, numbers_in}
use Rattle.inline.specs.FlatMeaning.{Values, given, array_of, arrays_from}
use Rattle.inline.specs.FlatTyping.{Types, with_type, types_of}
use Rattle.inline.specs.Numbering as numbering
use Rattle.inline.specs.Numbering.{Numbers, param_of, naming}
use Rattle.language.specs.declared.values.Arg.TheVariants.{Word, Array}
use Rattle.inline.proofs.Below.{found-new, found-other, found-kept}
use Rattle.inline.proofs.Linked.{Linked, Serves, serves_itself, widened, later, entry, value_as, variable_as}
use Rattle.inline.proofs.Linked.{linked_beside, linked_named, not_named, with_type-same}
use Rattle.inline.proofs.Terms.{held, VariableHolds, Shows}

-- what a parameter is declared as
abbrev pub own : ParameterTree → FlatVariable
own p = declaration_of (param_of p)

abbrev pub all_own : List ParameterTree → List FlatVariable
all_own ps = map declaration_of (map param_of ps)

-- its name stands for that in the scope
value_same : (p : ParameterTree) (form : Form)
    → parameter_value p form ≡ value_as (own p).word (elements_by form p.length)
value_same p SingleWord = refl
value_same p form = refl

pub parameter_same : (p : ParameterTree) → Variable (variable_as (own p)) ≡ parameter_as p
parameter_same p = ap (λ v. Variable (record { value = v; mutable = is_mutable p.form })) (sym (value_same p p.form))

-- it has a number: one of its own, or that of a caller's array
pub linked_parameter : {scope : Scope} {names : Numbers} {types : Types} {n : ℕ} → Linked scope names types n
    → (p : ParameterTree) → found scope.names p.name ≡ None → (number : ℕ) → number < n
    → Serves (types.at number) (own p)
    → ((other : List ℕ) (x : Numbered) → found names other ≡ Some x → x.number ≡ number
    → (x.declaration.mutable ≡ true → ⊥) × ((own p).mutable ≡ true → ⊥))
    → Linked (declared scope p.place p.name (parameter_as p)) (naming names p.name number (own p)) types n
linked_parameter linked p new number low serves clear =
    rw (← parameter_same p) (linked_named linked p.place p.name new number (own p) low serves clear)

-- the next number, where the parameter is declared so
pub linked_own : {scope : Scope} {names : Numbers} {types : Types} {n : ℕ} → Linked scope names types n
    → (p : ParameterTree) → found scope.names p.name ≡ None → (d : FlatVariable) → d ≡ own p
    → Linked (declared scope p.place p.name (parameter_as p)) (naming names p.name n (own p)) (with_type types n d) (n + 1)
linked_own {types = types} {n = n} linked p new d same =
    linked_parameter (linked_beside linked d) p new n (omega arith)
    (serves_itself (with_type-same types n d ∙ ap Some same))
    (λ other x is equal. absurd (not_named linked other x is equal))

-- Numbers.

-- a list with one more element at its end
pub get_front : {A : Type 0} (xs : List A) (y : A) (i : ℕ) → i < length xs → slice_get (xs ++ y ∷ []) i ≡ slice_get xs i
get_front [] y i low = absurd (omega (arith, low))
get_front (x ∷ xs) y zero low = refl
get_front (x ∷ xs) y (suc i) low = get_front xs y i (omega (arith, low))

pub get_last : {A : Type 0} (xs : List A) (y : A) → slice_get (xs ++ y ∷ []) (length xs) ≡ Some y
get_last [] y = refl
get_last (x ∷ xs) y = get_last xs y

-- names of the one list keep what they stand for in a longer one
pub kept_parameters : (ps : List ParameterTree) (names : Numbers) (n : ℕ) (text : List ℕ) (x : Numbered)
    → found names text ≡ Some x → found (numbering.with_parameters names n ps) text ≡ Some x
kept_parameters [] names n text x is = is
kept_parameters (p ∷ ps) names n text x is = kept_parameters ps (naming names p.name n (own p)) (n + 1) text x
    (found-kept names p.name (entry n (own p)) text x is)

-- each parameter's name has its number
abbrev pub Named : Numbers → ℕ → List ParameterTree → Type 0
Named names n [] = Unit {0}
Named names n (p ∷ ps) = (found names p.name ≡ Some (entry n (own p))) × Named names (n + 1) ps

pub itself : (text : List ℕ) → bytes_eq text text ≡ true
itself text = (bytes_decides text text).1 refl

module _ (profile : Profile) where
  pub record ParametersBegin (scope : Scope) (names : Numbers) (ds : List FlatVariable) (n : ℕ)
      (ps : List ParameterTree) :
      Type 0 where
    pub linked : Linked (with_parameters scope ps) (numbering.with_parameters names n ps)
        (types_of profile (ds ++ all_own ps)) (n + length ps)
    pub named : Named (numbering.with_parameters names n ps) n ps

  begins : (ps : List ParameterTree) (scope : Scope) (names : Numbers) (ds : List FlatVariable) (n : ℕ)
      → n ≡ length ds → AreNew scope ps → Linked scope names (types_of profile ds) n
      → ParametersBegin scope names ds n ps
  begins [] scope names ds n many new linked =
      record { linked = rw append-nil (later (omega arith) linked); named = tt }
  begins (p ∷ ps) scope names ds n many (one_is_new here there) linked =
      let more = naming names p.name n (own p) in
      let all = ds ++ own p ∷ [] in
      let count = length-append ds (own p ∷ []) in
      let wider : Linked scope names (types_of profile all) (n + 1) = widened (omega arith) refl
      (λ x low. get_front ds (own p) x (omega arith)) (λ x high. slice_get_past all x (omega arith)) linked in
      let rest = begins ps _ more all (n + 1) (omega arith) there
      (linked_parameter wider p here n (omega arith)
      (serves_itself (ap (slice_get all) many ∙ get_last ds (own p)))
      (λ other x is equal. absurd (not_named linked other x is equal))) in
      record {
        linked = rw (← append_assoc ds (own p ∷ []) (all_own ps)) (later (omega arith) rest.linked);
        named = (
          kept_parameters ps more (n + 1) p.name (entry n (own p))
              (found-new names p.name (entry n (own p)) p.name (itself p.name) (linked.none p.name here)),
          rest.named,
        );
      }

-- no variable stands in a scope of procedures
abbrev pub NoVariables : Scope → Type 0
NoVariables scope = (text : List ℕ) (v : VariableType) → found scope.names text ≢ Some (Variable v)

-- before the first declaration
pub no_names : {scope : Scope} {types : Types} {n : ℕ} → NoVariables scope → types.profile ≡ scope.profile
    → ((x : ℕ) → n ≤ x → types.at x ≡ None) → Linked scope [] types n
no_names none observed fresh = record {
  observed = observed;
  known = λ text d is. absurd (none text (variable_as d) is);
  none = λ text is. refl;
  below = λ text x is. absurd (none-some x is);
  apart = λ a b x y is is' equal free. absurd (none-some x is);
  fresh = fresh;
}

-- where a body begins
pub where_begun : (profile : Profile) (scope : Scope) → scope.profile ≡ profile → NoVariables scope
    → (ps : List ParameterTree) → AreNew scope ps → ParametersBegin profile scope [] [] 0 ps
where_begun profile scope observed none ps new =
    begins profile ps scope [] [] 0 refl new (no_names none (sym observed) (λ x high. refl))

pub linked_parameters : (profile : Profile) (scope : Scope) → scope.profile ≡ profile → NoVariables scope
    → (ps : List ParameterTree) → AreNew scope ps
    → Linked (with_parameters scope ps) (numbering.with_parameters [] 0 ps) (types_of profile (all_own ps))
    (length ps)
linked_parameters profile scope observed none ps new =
    later (omega arith) (where_begun profile scope observed none ps new).linked

-- Arguments.

-- an argument within the type is what its variable holds
argument_held : (kind : Kind) (form : Form) (size : ℕ) (arg : Arg) → HasShape form size arg
    → Some (argument_value kind arg) ≡ Some (held kind (elements_by form size) (words_of arg))
argument_held kind SingleWord size (Word word) shape = refl
argument_held kind SingleWord size (Array words) shape = absurd shape
argument_held kind form size (Word word) shape = absurd shape
argument_held kind form size (Array words) shape = refl

pub argument_count : (form : Form) (size : ℕ) (arg : Arg) → HasShape form size arg
    → length (words_of arg) ≡ numbers_in (elements_by form size)
argument_count SingleWord size (Word word) shape = refl
argument_count SingleWord size (Array words) shape = absurd shape
argument_count form size (Word word) shape = absurd shape
argument_count form size (Array words) shape = shape

-- a name that is not among the earlier ones holds its argument, where the variables from n on do
passed : (ps : List ParameterTree) (names : Numbers) (n : ℕ) (rest : List FlatVariable) (args : List Arg) (m : Values)
    → AreWithin (map param_of ps) args → ((i : ℕ) → m (n + i) ≡ given (all_own ps ++ rest) args i)
    → (text : List ℕ) (x : Numbered) → found names text ≡ None
    → found (numbering.with_parameters names n ps) text ≡ Some x
    → VariableHolds x.declaration (holding ps args text) (m x.number)
passed [] names n rest args m within are text x none is = absurd (none-some x (sym none ∙ is))
passed (p ∷ ps) names n rest [] m within are text x none is = absurd within
passed (p ∷ ps) names n rest (arg ∷ args) m within are text x none is = elim (cases_Bool (bytes_eq text p.name)) [
  | inl e ↦ (
      let new = ap (found names) (sym ((bytes_decides text p.name).0 e)) ∙ none in
      let here = kept_parameters ps (naming names p.name n (own p)) (n + 1) text (entry n (own p))
      (found-new names p.name (entry n (own p)) text e new) in
      let words : m n ≡ words_of arg = ap m (omega arith) ∙ are 0 in
      rw (← same_Some (entry n (own p)) x (sym here ∙ is)) (record {
        is = rw (e, words) (argument_held p.kind p.form p.length arg within.0.shape);
        count = rw words (argument_count p.form p.length arg within.0.shape);
      }))
  | inr e ↦ rw e (passed ps (naming names p.name n (own p)) (n + 1) rest args m within.1
      (λ i. ap m (omega arith) ∙ are (suc i)) text x
      (found-other names p.name (entry n (own p)) text e ∙ none) is)
]

-- the parameters hold the arguments
pub shows_arguments : (ps : List ParameterTree) (rest : List FlatVariable) (args : List Arg)
    → AreWithin (map param_of ps) args → Shows (numbering.with_parameters [] 0 ps) (holding ps args)
    (given (all_own ps ++ rest) args)
shows_arguments ps rest args within text x is =
    let m = given (all_own ps ++ rest) args in
    passed ps [] 0 rest args m within (λ i. ap m (omega arith)) text x refl is

-- The `mut` arrays at the end.

array_same : (kind : Kind) (form : Form) (size : ℕ) (o : Option Value) (numbers : List ℕ)
    → o ≡ Some (held kind (elements_by form size) numbers) → final_array form o ≡ array_of form numbers
array_same kind MutableArray size o numbers is = ap (final_array MutableArray) is
array_same kind form size o numbers is = refl

pub arrays_same : (ps : List ParameterTree) (names : Numbers) (n : ℕ) (t : State) (m : Values) → Named names n ps
    → Shows names t m → final_arrays t ps ≡ arrays_from n (map param_of ps) m
arrays_same [] names n t m named shows = refl
arrays_same (p ∷ ps) names n t m named shows =
    rw (
      array_same p.kind p.form p.length (t p.name) (m n) (shows p.name (entry n (own p)) named.0).is,
      arrays_same ps names (n + 1) t m named.1 shows,
    ) refl
