-- Arrays gathered from a call's arguments tell whether one more argument clashes with those before it.
use Rattle.std.proofs.Common.{◌≡◌, ◌<◌, ◌≤◌, ◌+◌, ℕ, zero, suc, Bool, true, false, ◌&&◌, cond, None, Some}
use Rattle.std.proofs.Common.{Option, List, [], ◌∷◌, ◌++◌, map, take, drop, length, refl, ap, ap₂, sym, ◌∙◌, arith}
use Rattle.std.proofs.Math.ListN.{get_or, get_or-map}
use Rattle.std.proofs.lemmas.List.{drop_all, drop_more, length-map, take_more}
use Rattle.std.proofs.lemmas.List.Folds.{find-append}
use Rattle.std.specs.List.{find}
use Rattle.std.specs.Option.{option_map, option_or}
use Rattle.std.specs.Str.{bytes_eq}
use Rattle.std.proofs.Math.Bool.{and-true, and-false}
use Rattle.labels.specs.Below.{array_name, clash, Expr, expr_tree, ExprTree, first_clash, is_mutable, name_place}
use Rattle.labels.specs.Below.{Parameter, parameter_tree, ParameterTree, Passed, passed, Place, same_name, shared}
use Rattle.labels.specs.Below.{shared_at, Typed}
use Rattle.language.specs.names.Scope.{found, declared}
use Rattle.language.specs.declared.why.SharedArray.{SharedArray}
use Rattle.language.proofs.names_lemmas.Lookup.{first_of_two, found_declared}
use Rattle.labels.specs.private.Arrays.{given_before, with_array, with_changed}

abbrev pub Names : Type 0
Names = List (List ℕ × Place)

-- it is the array of this name; and the called procedure may change it
abbrev pub gives : List ℕ → Passed → Bool
gives text p = same_name (Some text) (array_name p.given.value p.argument)

abbrev pub changes : List ℕ → Passed → Bool
changes text p = gives text p && is_mutable p.parameter.form

-- the place of its parameter
abbrev pub place_of : Passed → Place
place_of p = p.parameter.place

-- the names are those of the arguments that pass the test, each with the first of them
abbrev pub Gathers : Names → (List ℕ → Passed → Bool) → List Passed → Type 0
Gathers names test before = (text : List ℕ) → found names text ≡ option_map place_of (find (test text) before)

one_of_two : (o : Option Passed) (p : Passed) (b : Bool)
    → first_of_two (option_map place_of o) (cond b (Some (place_of p)) None)
    ≡ option_map place_of (option_or o (cond b (Some p) None))
one_of_two (Some q) p b = refl
one_of_two None p true = refl
one_of_two None p false = refl

or_none : {A : Type 0} (o : Option A) → option_or o None ≡ o
or_none (Some x) = refl
or_none None = refl

or_or : {A : Type 0} (a b c : Option A) → option_or (option_or a b) c ≡ option_or a (option_or b c)
or_or (Some x) b c = refl
or_or None b c = refl

-- one more argument whose array has this name
gathers_named : (names : Names) (test : List ℕ → Passed → Bool) (before : List Passed) (p : Passed) (one : List ℕ)
    → Gathers names test before → ((text : List ℕ) → test text p ≡ bytes_eq text one)
    → Gathers (declared names one (place_of p)) test (before ++ p ∷ [])
gathers_named names test before p one h is text =
    found_declared names one (place_of p) text
    ∙ ap₂ (λ (o : Option Place) (b : Bool). first_of_two o (cond b (Some (place_of p)) None)) (h text) (sym (is text))
    ∙ one_of_two (find (test text) before) p (test text p)
    ∙ ap (option_map place_of) (sym (find-append (test text) before (p ∷ [])))

-- one more argument that does not pass the test
gathers_same : (names : Names) (test : List ℕ → Passed → Bool) (before : List Passed) (p : Passed)
    → Gathers names test before → ((text : List ℕ) → test text p ≡ false) → Gathers names test (before ++ p ∷ [])
gathers_same names test before p h is text =
    h text
    ∙ ap (option_map place_of) (sym (find-append (test text) before (p ∷ [])
    ∙ ap (λ b. option_or (find (test text) before) (cond b (Some p) None)) (is text)
    ∙ or_none (find (test text) before)))

same_found : (f g : Passed → Bool) → ((q : Passed) → f q ≡ g q) → (qs : List Passed) → find f qs ≡ find g qs
same_found f g h [] = refl
same_found f g h (q ∷ qs) = ap₂ (λ (b : Bool) (o : Option Passed). cond b (Some q) o) (h q) (same_found f g h qs)

-- an argument clashes with those before that are its array, where one of the two may be changed
clashes_named : (p : Passed) (one : List ℕ) (before : List Passed) → array_name p.given.value p.argument ≡ Some one
    → find (clash p) before ≡ cond (is_mutable p.parameter.form) (find (gives one) before) (find (changes one) before)
clashes_named p one before is = by (is_mutable p.parameter.form) refl
  where
    by : (m : Bool) → is_mutable p.parameter.form ≡ m
        → find (clash p) before ≡ cond m (find (gives one) before) (find (changes one) before)
    by true m = same_found (clash p) (gives one) (λ q. rw (is, m) (and-true (gives one q))) before
    by false m = same_found (clash p) (changes one) (λ q. rw (is, m) refl) before

clashes_none : (p : Passed) (before : List Passed) → array_name p.given.value p.argument ≡ None
    → find (clash p) before ≡ None
clashes_none p [] is = refl
clashes_none p (q ∷ before) is = rw (is, clashes_none p before is) refl

module _ (all : List Passed) (i : ℕ) (q : Passed) (h : i < length all) (at : get_or all i q ≡ q) where
  -- the arguments up to the next one, and from it on
  next_taken : take (i + 1) all ≡ take i all ++ q ∷ []
  next_taken = take_more all i q h ∙ ap (λ x. take i all ++ x ∷ []) at

  next_left : drop i all ≡ q ∷ drop (i + 1) all
  next_left = drop_more all i q h ∙ ap (λ x. x ∷ drop (i + 1) all) at

  named_given : (names after : Names) (one : List ℕ) → Gathers names gives (take i all)
      → Some one ≡ array_name q.given.value q.argument → after ≡ declared names one (place_of q)
      → Gathers after gives (take (i + 1) all)
  named_given names after one so_far is new =
      rw (new, next_taken) (gathers_named names gives (take i all) q one so_far (λ text. rw (← is) refl))

  named_changed : (names after : Names) (one : List ℕ) (mutable : Bool) → Gathers names changes (take i all)
      → Some one ≡ array_name q.given.value q.argument → mutable ≡ is_mutable q.parameter.form
      → after ≡ cond mutable (declared names one (place_of q)) names → Gathers after changes (take (i + 1) all)
  named_changed names after one true so_far is m new =
      rw (new, next_taken)
      (gathers_named names changes (take i all) q one so_far
      (λ text. rw (← is, ← m) (and-true (bytes_eq text one))))
  named_changed names after one false so_far is m new =
      rw (new, next_taken)
      (gathers_same names changes (take i all) q so_far (λ text. rw (← is, ← m) (and-false (bytes_eq text one))))

  -- the first parameter before for which the argument is given too
  earlier_named : (given changed : Names) (one : List ℕ) (mutable : Bool) → Gathers given gives (take i all)
      → Gathers changed changes (take i all) → Some one ≡ array_name q.given.value q.argument
      → mutable ≡ is_mutable q.parameter.form
      → given_before given changed mutable (Some one) ≡ option_map place_of (find (clash q) (take i all))
  earlier_named given changed one mutable g k is m =
      rw (clashes_named q one (take i all) (sym is), ← m) (by mutable)
    where
      by : (b : Bool) → cond b (found given one) (found changed one)
          ≡ option_map place_of (cond b (find (gives one) (take i all)) (find (changes one) (take i all)))
      by true = g one
      by false = k one

  more_clash : (clashed this final : Option SharedArray) (before : Option Place)
      → before ≡ option_map place_of (find (clash q) (take i all))
      → this ≡ option_map (shared_at (name_place q.argument) q.parameter.place) before
      → option_or clashed (first_clash (take i all) (drop i all)) ≡ final
      → option_or (option_or clashed this) (first_clash (take (i + 1) all) (drop (i + 1) all)) ≡ final
  more_clash clashed this final before is new so_far =
      or_or clashed this (first_clash (take (i + 1) all) (drop (i + 1) all))
      ∙ ap₂ (λ (o : Option SharedArray) (l : List Passed). option_or clashed (option_or o (first_clash l
      (drop (i + 1) all)))) (new ∙ ap (option_map (shared_at (name_place q.argument) q.parameter.place)) is
      ∙ by (find (clash q) (take i all))) next_taken
      ∙ ap (λ (l : List Passed). option_or clashed (first_clash (take i all) l)) (sym next_left)
      ∙ so_far
    where
      by : (o : Option Passed)
          → option_map (shared_at (name_place q.argument) q.parameter.place) (option_map place_of o)
          ≡ option_map (shared q) o
      by (Some p) = refl
      by None = refl

  -- one that is no array
  none_gathered : (names : Names) (test : List ℕ → Passed → Bool) → Gathers names test (take i all)
      → ((text : List ℕ) → test text q ≡ false) → Gathers names test (take (i + 1) all)
  none_gathered names test so_far none = rw next_taken (gathers_same names test (take i all) q so_far none)

-- the argument at an index, beside its parameter
pub passed_at : (ps : List ParameterTree) (ts : List Typed) (es : List ExprTree) (i : ℕ) (p : ParameterTree)
    (t : Typed) (e : ExprTree) (q : Passed) →
    i < length ps → length ts ≡ length ps → length es ≡ length ps
    → get_or (passed ps ts es) i q ≡ record {
      parameter = get_or ps i p;
      given = get_or ts i t;
      argument = get_or es i e;
    }
passed_at (x ∷ ps) (y ∷ ts) (z ∷ es) zero p t e q h same same' = refl
passed_at (x ∷ ps) (y ∷ ts) (z ∷ es) (suc i) p t e q h same same' =
    passed_at ps ts es i p t e q (omega arith) (omega arith) (omega arith)
passed_at _ _ _ i p t e q h same same' = absurd (omega arith)

pub passed_long : (ps : List ParameterTree) (ts : List Typed) (es : List ExprTree) → length ts ≡ length ps
    → length es ≡ length ps → length (passed ps ts es) ≡ length ps
passed_long [] ts es same same' = refl
passed_long (x ∷ ps) (y ∷ ts) (z ∷ es) same same' = ap suc (passed_long ps ts es (omega arith) (omega arith))
passed_long _ _ _ same same' = absurd (omega arith)

-- what the names and the answer say of the arguments up to one
pub record SoFar (all : List Passed) (i : ℕ) (names changeable : Names) (clashed final : Option SharedArray) : Type 0 where
  pub given : Gathers names gives (take i all)
  pub changed : Gathers changeable changes (take i all)
  pub clash : option_or clashed (first_clash (take i all) (drop i all)) ≡ final

-- the arguments beside the parameters
abbrev pub all_passed : List Parameter → List Typed → List Expr → List Passed
all_passed ps ts es = passed (map parameter_tree ps) ts (map expr_tree es)

all_long : (ps : List Parameter) (ts : List Typed) (es : List Expr) → length ts ≡ length ps
    → length es ≡ length ps → length (all_passed ps ts es) ≡ length ps
all_long ps ts es same same' =
    passed_long (map parameter_tree ps) ts (map expr_tree es) (omega (arith, length-map ps parameter_tree))
    (omega (arith, length-map ps parameter_tree, length-map es expr_tree))
    ∙ length-map ps parameter_tree

-- one more argument
module _ (p : Parameter) (t : Typed) (ps : List Parameter) (ts : List Typed) (es : List Expr) (e : Expr)
    (i : ℕ) (h : i < length ps) (same : length ts ≡ length ps) (same' : length es ≡ length ps)
    (there : p ≡ get_or ps i p) (here : e ≡ get_or es i e) where
  abbrev next : Passed
  next = record {
    parameter = parameter_tree p;
    given = get_or ts i t;
    argument = expr_tree e;
  }

  at : get_or (all_passed ps ts es) i next ≡ next
  at =
      passed_at (map parameter_tree ps) ts (map expr_tree es) i (parameter_tree p) t (expr_tree e) next
      (omega (arith, length-map ps parameter_tree)) (omega (arith, length-map ps parameter_tree))
      (omega (arith, length-map ps parameter_tree, length-map es expr_tree))
      ∙ ap₂ (λ (x : ParameterTree) (y : ExprTree). record { parameter = x; given = get_or ts i t; argument = y })
      (get_or-map parameter_tree ps i p ∙ ap parameter_tree (sym there))
      (get_or-map expr_tree es i e ∙ ap expr_tree (sym here))

  below : i < length (all_passed ps ts es)
  below = omega (arith, h, all_long ps ts es same same')

  pub argument_more : (given changed given' changed' : Names) (one : Option (List ℕ))
      (mutable : Bool) (before : Option Place) (clashed this final : Option SharedArray)
      → SoFar (all_passed ps ts es) i given changed clashed final
      → one ≡ array_name (get_or ts i t).value (expr_tree e) → mutable ≡ is_mutable p.form
      → given' ≡ with_array given one p.place
      → changed' ≡ with_changed changed mutable one p.place
      → before ≡ given_before given changed mutable one
      → this ≡ option_map (shared_at (name_place (expr_tree e)) p.place) before
      → SoFar (all_passed ps ts es) (i + 1) given' changed' (option_or clashed this) final
  argument_more given changed given' changed' (Some one) mutable before clashed this final so_far is m g k new answer =
      record {
        given = named_given (all_passed ps ts es) i next below at given given' one so_far.given is g;
        changed = named_changed (all_passed ps ts es) i next below at changed changed' one mutable so_far.changed is m k;
        clash = more_clash (all_passed ps ts es) i next below at clashed this final before
            (new ∙ earlier_named (all_passed ps ts es) i next below at given changed one mutable so_far.given
            so_far.changed is m) answer so_far.clash;
      }
  argument_more given changed given' changed' None mutable before clashed this final so_far is m g k new answer = record {
    given = rw g (none_gathered (all_passed ps ts es) i next below at given gives so_far.given (λ text. rw (← is) refl));
    changed = rw k (none_gathered (all_passed ps ts es) i next below at changed changes so_far.changed
        (λ text. rw (← is) refl));
    clash = more_clash (all_passed ps ts es) i next below at clashed this final before
        (new ∙ ap (option_map place_of) (sym (clashes_none next (take i (all_passed ps ts es)) (sym is)))) answer
        so_far.clash;
  }

-- no argument is left
pub clash_last : (ps : List Parameter) (ts : List Typed) (es : List Expr) (i : ℕ) (clashed final : Option SharedArray)
    → length ps ≤ i → length ts ≡ length ps → length es ≡ length ps →
    option_or clashed (first_clash (take i (all_passed ps ts es)) (drop i (all_passed ps ts es))) ≡ final
    → clashed ≡ final
clash_last ps ts es i clashed final h same same' is =
    let none : drop i (all_passed ps ts es) ≡ [] =
    drop_all i (all_passed ps ts es) (omega (arith, all_long ps ts es same same')) in
    sym (or_none clashed)
    ∙ ap (λ (l : List Passed). option_or clashed (first_clash (take i (all_passed ps ts es)) l)) (sym none) ∙ is

-- before the first argument
pub no_arguments : (all : List Passed) (names changeable : Names) → names ≡ [] → changeable ≡ []
    → SoFar all 0 names changeable None (first_clash [] all)
no_arguments all names changeable given changed = record {
  given = λ text. rw given refl;
  changed = λ text. rw changed refl;
  clash = refl;
}
