-- Arguments beside their parameters.
use Rattle.std.proofs.Common.{◌≡◌, suc, Bool, true, false, ◌&&◌, ◌||◌, ◌==◌, ◌↔◌, List, [], ◌∷◌, ◌++◌, length, Some}
use Rattle.std.proofs.Common.{Option, None}
use Rattle.std.proofs.Common.{refl, sym, ap, ap₂, ◌∙◌, subst, arith, if◌then◌else◌}
use Rattle.std.proofs.lemmas.Bool.Decides.{nat_tests}
use Rattle.std.proofs.lemmas.Option.{same_Some}
use Rattle.std.specs.List.{find, list_any}
use Rattle.std.specs.Option.{option_map, option_or}
use Rattle.std.proofs.lemmas.Bool.{and_parts, or_parts, not-false, eqb-true, eq-eqb}
use Rattle.word.specs.declared.place.Place.{Place}
use Rattle.language.specs.declared.rule.Rule.TheVariants.{ArgumentCount}
use Rattle.language.specs.declared.rule.Rule.TheVariants.{NotMutable}
use Rattle.language.specs.declared.signature.Form.{Form}
use Rattle.language.specs.declared.signature.Form.TheVariants.{SingleWord, FixedArray, MutableArray}
use Rattle.language.specs.declared.signature.Label.{Label}
use Rattle.language.specs.declared.signature.Label.TheVariants.{Public, Secret}
use Rattle.language.specs.declared.typing.ArrayType.{ArrayType}
use Rattle.language.specs.declared.typing.ValueType.{ValueType}
use Rattle.language.specs.declared.typing.ValueType.TheVariants.{Word, Array, Nothing}
use Rattle.language.specs.declared.typing.WordType.{WordType}
use Rattle.language.specs.declared.why.SharedArray.{SharedArray}
use Rattle.language.specs.declared.why.Typed.{Typed}
use Rattle.language.specs.declared.why.Why.TheVariants.{ArgumentCounts}
use Rattle.language.specs.ExprTyping.{typed_of_all, exprs_violations}
use Rattle.language.specs.Reasons.{secret_in, literal_in}
use Rattle.language.specs.Tree.{ExprTree, ParameterTree, ProcedureTree}
use Rattle.language.specs.Types.{Scope, because, same_kind, same_label, when, typed_as}
use Rattle.language.specs.Typing.{parameter_value, is_mutable, shape_rules, argument_rules, argument_variable}
use Rattle.language.specs.Typing.{is_immutable, Passed, argument_violations, passed_violations, array_name, same_name}
use Rattle.language.specs.Typing.{clash, shared, first_clash, clash_violations, passed, arguments_violations}
use Rattle.language.specs.WellTyped.{labelled, IsVariable, HasType, of_name, array_of, IsPassed, as_word, as_array}
use Rattle.language.specs.WellTyped.{as_mutable_array, array_given, is_shared, SharesNone, ArePassed, none_passed}
use Rattle.language.specs.WellTyped.{one_passed}
use Rattle.language.proofs.typing_laws_lemmas.Expressions.{known, is_typed}
use Rattle.language.proofs.typing_laws_lemmas.TypeTests.{one_kind, same_as_itself}
use Rattle.language.proofs.typing_laws_lemmas.NoRules.{none_of_two, no_rules, not_when, is_met}
use Rattle.language.proofs.typing_laws_lemmas.Values.{is_suited, suited}

-- Types of several expressions.

-- what is known of an expression of this type
abbrev pub told : Scope → ExprTree → ValueType → Typed
told scope e type = typed_as (secret_in scope e) (literal_in e) type

pub data HaveTypes (scope : Scope) : List ExprTree → List Typed → Type 0 where
  none_typed : HaveTypes scope [] []
  one_typed : {e : ExprTree} {es : List ExprTree} {t : ValueType} {ts : List Typed} → HasType scope e t
      → HaveTypes scope es ts → HaveTypes scope (e ∷ es) (told scope e t ∷ ts)

module _ (scope : Scope) where
  pub have_types : (es : List ExprTree) → exprs_violations scope es ≡ []
      → (ts : List Typed) × HaveTypes scope es ts
  have_types [] h = ([], none_typed)
  have_types (e ∷ es) h =
      let none = none_of_two h in
      let x = known scope e none.0 in
      let more = have_types es none.1 in
      (told scope e x.type ∷ more.0, one_typed x.has more.1)

  pub all_typed : {es : List ExprTree} {ts : List Typed} → HaveTypes scope es ts
      → (exprs_violations scope es ≡ []) × (typed_of_all scope es ≡ Some ts)
  all_typed none_typed = (refl, refl)
  all_typed (one_typed has more) =
      let x = is_typed scope has in
      let rest = all_typed more in
      (rw (x.none, rest.0), rw (x.is, rest.1))

  -- One argument.

  by_shape : (wanted : ArrayType) (given : ValueType) → shape_rules wanted given ≡ [] → given ≡ Array wanted
  by_shape wanted (Array a) h =
      let same = and_parts (same_kind wanted.element.kind a.element.kind && (wanted.length == a.length)) _
      (is_met _ h) in
      let sizes = and_parts _ _ same.0 in
      ap₂ (λ (element : WordType) length. Array (record { element = element; length = length }))
      (ap₂ labelled (one_kind wanted.element.kind a.element.kind sizes.0)
      (one_label wanted.element.label a.element.label same.1)) (sym (eqb-true wanted.length a.length sizes.1))
    where
      one_label : (l m : Label) → same_label l m ≡ true → m ≡ l
      one_label Public Public h = refl
      one_label Secret Secret h = refl
      one_label _ _ h = cc
  by_shape wanted (Word w) h = cc
  by_shape wanted Nothing h = cc

  fixed_passed : (p : ParameterTree) {e : ExprTree} → p.form ≡ FixedArray → HasType scope e (Array (array_of p))
      → IsPassed scope p e
  fixed_passed p form (of_name is) = as_array form is

  mutable_passed : (p : ParameterTree) {e : ExprTree} → p.form ≡ MutableArray → HasType scope e (Array (array_of p))
      → is_immutable (argument_variable scope e) ≡ false → IsPassed scope p e
  mutable_passed p form (of_name {text = text} {mutable = mutable} is) h =
      as_mutable_array form
      (subst (IsVariable scope text (Array (array_of p))) (not-false mutable (rw is at h)) is)

  pub is_passed : (place : Place) (p : ParameterTree) (t : ValueType) (e : ExprTree) → HasType scope e t
      → argument_violations scope place (record { parameter = p; given = told scope e t; argument = e }) ≡ []
      → IsPassed scope p e
  is_passed place p t e has h =
      let none = none_of_two h in by p.form refl (no_rules _ place none.0) (no_rules _ place none.1)
    where
      by : (form : Form) → p.form ≡ form → argument_rules (parameter_value p form) t ≡ []
          → when (is_mutable form && is_immutable (argument_variable scope e)) NotMutable ≡ []
          → IsPassed scope p e
      by SingleWord is h k =
          let w = is_suited (labelled p.kind p.label) t h in
          as_word is (subst (HasType scope e) w.1 has) w.2
      by FixedArray is h k = fixed_passed p is (subst (HasType scope e) (by_shape (array_of p) t h) has)
      by MutableArray is h k =
          mutable_passed p is (subst (HasType scope e) (by_shape (array_of p) t h) has) (not_when _ k)

  same_shape : (a : ArrayType) → shape_rules a (Array a) ≡ []
  same_shape a =
      let size : (a.length == a.length) ≡ true = grind (arith, nat_tests) in
      rw (same_as_itself a.element.kind, size, itself a.element.label)
    where
      itself : (l : Label) → same_label l l ≡ true
      itself Public = refl
      itself Secret = refl

  -- what is known of an argument that is passed
  record IsArgument (p : ParameterTree) (e : ExprTree) : Type 0 where
    type : ValueType
    has : HasType scope e type
    none : (place : Place)
        → argument_violations scope place (record { parameter = p; given = told scope e type; argument = e }) ≡ []
    names : array_name type e ≡ array_given p.form e

  fits : (p : ParameterTree) {e : ExprTree} → IsPassed scope p e → IsArgument p e
  fits p (as_word {given = given} form has suit) =
      record { type = Word given; has = has; none = λ place. rw (form, suited suit) refl; names = rw form }
  fits p (as_array form is) =
      record {
        type = Array (array_of p);
        has = of_name is;
        none = λ place. rw (form, same_shape (array_of p)) refl;
        names = rw form;
      }
  fits p (as_mutable_array form is) = record {
    type = Array (array_of p);
    has = of_name is;
    none = λ place. rw (form, same_shape (array_of p), is) refl;
    names = rw form;
  }

-- Arrays that are given twice.

-- an argument clashes with one before it
abbrev pub clashes : List Passed → List Passed → Bool
clashes before [] = false
clashes before (p ∷ ps) = list_any (clash p) before || clashes (before ++ p ∷ []) ps

none_either : {A : Type 0} (o p : Option A) → option_or o p ≡ None → (o ≡ None) × (p ≡ None)
none_either None p h = (refl, h)
none_either (Some x) p h = cc

none_mapped : {A B : Type 0} (f : A → B) (o : Option A) → option_map f o ≡ None → o ≡ None
none_mapped f None h = refl
none_mapped f (Some x) h = cc

none_found : {A : Type 0} (test : A → Bool) (xs : List A) → find test xs ≡ None → list_any test xs ≡ false
none_found test [] h = refl
none_found test (x ∷ xs) h = by (test x) h (none_found test xs)
  where
    by : (b : Bool) → (if b then Some x else find test xs) ≡ None → (find test xs ≡ None → list_any test xs ≡ false)
        → (b || list_any test xs) ≡ false
    by true h more = cc
    by false h more = more h

found_none : {A : Type 0} (test : A → Bool) (xs : List A) → list_any test xs ≡ false → find test xs ≡ None
found_none test [] h = refl
found_none test (x ∷ xs) h = let each = or_parts (test x) (list_any test xs) h in rw (each.0, found_none test xs each.1)

none_clash : (before ps : List Passed) → first_clash before ps ≡ None → clashes before ps ≡ false
none_clash before [] h = refl
none_clash before (p ∷ ps) h =
    let each = none_either (option_map (shared p) (find (clash p) before)) (first_clash (before ++ p ∷ []) ps) h in
    ap₂ ◌||◌ (none_found (clash p) before (none_mapped (shared p) (find (clash p) before) each.0))
    (none_clash (before ++ p ∷ []) ps each.1)

clash_none : (before ps : List Passed) → clashes before ps ≡ false → first_clash before ps ≡ None
clash_none before [] h = refl
clash_none before (p ∷ ps) h =
    let each = or_parts (list_any (clash p) before) (clashes (before ++ p ∷ []) ps) h in
    rw (found_none (clash p) before each.0, clash_none (before ++ p ∷ []) ps each.1)

not_clashing : (place : Place) (o : Option SharedArray) → clash_violations place o ≡ [] → o ≡ None
not_clashing place None h = refl
not_clashing place (Some array) h = cc

-- an argument before others clashes with one of them, or they clash without it
clashes_first : (p : Passed) (before ps : List Passed)
    → clashes (p ∷ before) ps ≡ (list_any (λ q. clash q p) ps || clashes before ps)
clashes_first p before [] = refl
clashes_first p before (q ∷ qs) =
    ap (λ b. (clash q p || list_any (clash q) before) || b) (clashes_first p (before ++ q ∷ []) qs)
    ∙ exchanged (clash q p) (list_any (clash q) before) (list_any (λ q. clash q p) qs) (clashes (before ++ q ∷ []) qs)
  where
    exchanged : (a b c d : Bool) → ((a || b) || (c || d)) ≡ ((a || c) || (b || d))
    exchanged true b c d = refl
    exchanged false true true d = refl
    exchanged false true false d = refl
    exchanged false false c d = refl

-- All arguments.

module _ (scope : Scope) where
  -- an argument of a type, beside its parameter
  abbrev beside : ParameterTree → ValueType → ExprTree → Passed
  beside p t e = record { parameter = p; given = told scope e t; argument = e }

  names_of : (p : ParameterTree) {e : ExprTree} {t : ValueType} → IsPassed scope p e → HasType scope e t
      → array_name t e ≡ array_given p.form e
  names_of p {e = e} {t = t} here has =
      let f = fits scope p here in
      ap (λ s. array_name s e) (same_Some t f.type (sym (is_typed scope has).is ∙ (is_typed scope f.has).is)) ∙ f.names

  -- a clash by names is one of arrays that are given
  clash_shared : (p q : ParameterTree) (s t : ValueType) (a b : ExprTree) → array_name s a ≡ array_given p.form a
      → array_name t b ≡ array_given q.form b → clash (beside q t b) (beside p s a) ≡ is_shared q b p a
  clash_shared p q s t a b one other = ap₂ (λ x y. same_name x y && (is_mutable q.form || is_mutable p.form)) other one

  shares_none : (p : ParameterTree) (s : ValueType) (a : ExprTree) → array_name s a ≡ array_given p.form a
      → {ps : List ParameterTree} {ts : List Typed} {es : List ExprTree} → HaveTypes scope es ts
      → ArePassed scope ps es
      → (list_any (λ q. clash q (beside p s a)) (passed ps ts es) ≡ false) ↔ SharesNone p a ps es
  shares_none p s a is none_typed none_passed = (λ _. tt, λ _. refl)
  shares_none p s a is (one_typed {e = b} {es = es} {t = t} {ts = ts} has more)
      (one_passed {p = q} {ps = ps} here shares rest) =
      let first = clash_shared p q s t a b is (names_of q here has) in
      let others = shares_none p s a is {ps = ps} {ts = ts} {es = es} more rest in (
        λ h. (let each = or_parts _ _ h in (sym first ∙ each.0, others.0 each.1)),
        λ h. ap₂ ◌||◌ (first ∙ h.0) (others.1 h.1),
      )

  all_passed : (ps : List ParameterTree) {ts : List Typed} {es : List ExprTree} → HaveTypes scope es ts
      → length es ≡ length ps → (place : Place) → passed_violations scope place (passed ps ts es) ≡ []
      → clashes [] (passed ps ts es) ≡ false → ArePassed scope ps es
  all_passed [] none_typed even place h apart = none_passed
  all_passed [] (one_typed has more) even place h apart = absurd (omega (arith, even))
  all_passed (p ∷ ps) none_typed even place h apart = absurd (omega (arith, even))
  all_passed (p ∷ ps) (one_typed {e = e} {es = es} {t = t} {ts = ts} has more) even place h apart =
      let none = none_of_two h in
      let here = is_passed scope place p t e has none.0 in
      let fewer : length es ≡ length ps = omega (arith, even) in
      let each = or_parts _ _ (sym (clashes_first (beside p t e) [] (passed ps ts es)) ∙ apart) in
      let rest = all_passed ps more fewer place none.1 each.1 in
      one_passed here ((shares_none p t e (names_of p here has) more rest).0 each.0) rest

  pub are_passed : (place : Place) (p : ProcedureTree) (ts : List Typed) (es : List ExprTree) → HaveTypes scope es ts
      → arguments_violations scope place p ts es ≡ [] → ArePassed scope p.parameters es
  are_passed place p ts es have h = by (length es == length p.parameters) refl h
    where
      by : (b : Bool) → (length es == length p.parameters) ≡ b
          → (if b then passed_violations scope place (passed p.parameters ts es)
          ++ clash_violations place (first_clash [] (passed p.parameters ts es))
          else because (ArgumentCounts (record {
            given = length es;
            taken = length p.parameters;
            procedure = p.place;
          })) place (ArgumentCount ∷ [])) ≡ []
          → ArePassed scope p.parameters es
      by true even h =
          let none = none_of_two h in
          all_passed p.parameters have (eqb-true (length es) (length p.parameters) even) place none.0
          (none_clash [] (passed p.parameters ts es) (not_clashing place _ none.1))
      by false even h = cc

  -- the types of arguments that are passed, which violate no rule
  record AreFitting (ps : List ParameterTree) (es : List ExprTree) : Type 0 where
    types : List Typed
    have : HaveTypes scope es types
    even : length es ≡ length ps
    none : (place : Place) → passed_violations scope place (passed ps types es) ≡ []
    apart : clashes [] (passed ps types es) ≡ false

  fitting : {ps : List ParameterTree} {es : List ExprTree} → ArePassed scope ps es → AreFitting ps es
  fitting none_passed =
      record { types = []; have = none_typed; even = refl; none = λ place. refl; apart = refl }
  fitting (one_passed {p = p} {ps = ps} {argument = e} {arguments = es} here shares more) =
      let f = fits scope p here in
      let rest = fitting more in
      record {
        types = told scope e f.type ∷ rest.types;
        have = one_typed f.has rest.have;
        even = ap suc rest.even;
        none = λ place. rw (f.none place, rest.none place) refl;
        apart = clashes_first (beside p f.type e) [] (passed ps rest.types es)
            ∙ ap₂ ◌||◌ ((shares_none p f.type e f.names rest.have more).1 shares) rest.apart;
      }

  pub record NoneViolated (place : Place) (p : ProcedureTree) (es : List ExprTree) : Type 0 where
    pub types : List Typed
    pub have : HaveTypes scope es types
    pub none : arguments_violations scope place p types es ≡ []

  pub passed_none : (place : Place) (p : ProcedureTree) {es : List ExprTree} → ArePassed scope p.parameters es
      → NoneViolated place p es
  passed_none place p {es} are =
      let x = fitting are in
      let even = eq-eqb (length es) (length p.parameters) x.even in
      let apart = clash_none [] (passed p.parameters x.types es) x.apart in
      record { types = x.types; have = x.have; none = rw (even, x.none place, apart) }
