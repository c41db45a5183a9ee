-- Variables of which some are typed as they are laid out: what names none of these is typed as before.
use Rattle.std.proofs.Common.{◌≡◌, ℕ, zero, suc, ◌+◌, ◌==◌, ◌||◌, Bool, true, false, List, [], ◌∷◌, length, not}
use Rattle.std.proofs.Common.{Option, None, Some, slice_get, refl, sym, ap, ◌∙◌, arith, eq-eqb, if◌then◌else◌}
use Rattle.std.proofs.lemmas.Bool.{false_from_ne_true, not-true, or_parts, true≢false}
use Rattle.codegen.proofs.Choices.{choice_of, of_choice}
use Rattle.codegen.proofs.Language.{AllSuit, array, branch, FlatVariable, IsResult, IsTyped}
use Rattle.codegen.proofs.Language.{Profile, put, repeats, set, StraightTree, take, TermHasType}
use Rattle.codegen.proofs.Language.{TermSuits, TermTree, Types, types_but, types_of, WordType}
use Rattle.expression_code.proofs.Below.{of_binary, of_conversion, of_element, of_number, of_prefix}
use Rattle.expression_code.proofs.Below.{of_rotation, of_selection, of_truth, of_variable}
use Rattle.codegen.proofs.FewerHomes.{IsSimple, neither_of_three}
use Rattle.codegen.specs.private.Fresh.{names_in, names_in_any, names_in_result, passes}

-- from the variable of number k on, of two lists of as many the first one where it is one of those
abbrev pub typed_but : (ℕ → Bool) → ℕ → List FlatVariable → List FlatVariable → List FlatVariable
typed_but out k [] ds = ds
typed_but out k (l ∷ ls) [] = []
typed_but out k (l ∷ ls) (d ∷ ds) = (if out k then l else d) ∷ typed_but out (k + 1) ls ds

pub but_length : (out : ℕ → Bool) (k : ℕ) (ls ds : List FlatVariable) → length (typed_but out k ls ds) ≡ length ds
but_length out k [] ds = refl
but_length out k (l ∷ ls) [] = refl
but_length out k (l ∷ ls) (d ∷ ds) = ap suc (but_length out (k + 1) ls ds)

but_from : (out : ℕ → Bool) (k : ℕ) (ls ds : List FlatVariable) (x : ℕ) → length ls ≡ length ds
    → slice_get (typed_but out k ls ds) x ≡ (if out (k + x) then slice_get ls x else slice_get ds x)
but_from out k [] [] x as_many = of_choice (λ (o : Option FlatVariable). None ≡ o) (out (k + x)) refl refl
but_from out k [] (d ∷ ds) x as_many = absurd (omega (arith, as_many))
but_from out k (l ∷ ls) [] x as_many = absurd (omega (arith, as_many))
but_from out k (l ∷ ls) (d ∷ ds) zero as_many =
    let here : k ≡ k + 0 = omega arith in
    choice_of (λ (e : FlatVariable). Some e) (out k) l d ∙ ap (λ n. if out n then Some l else Some d) here
but_from out k (l ∷ ls) (d ∷ ds) (suc x) as_many =
    let next : k + 1 + x ≡ k + suc x = omega arith in
    but_from out (k + 1) ls ds x (omega (arith, as_many))
    ∙ ap (λ n. if out n then slice_get ls x else slice_get ds x) next

pub but_at : (out : ℕ → Bool) (ls ds : List FlatVariable) (x : ℕ) → length ls ≡ length ds
    → slice_get (typed_but out 0 ls ds) x ≡ (if out x then slice_get ls x else slice_get ds x)
but_at out ls ds x as_many =
    let here : 0 + x ≡ x = omega arith in
    but_from out 0 ls ds x as_many ∙ ap (λ n. if out n then slice_get ls x else slice_get ds x) here

-- one that is none of those
pub but_kept : (out : ℕ → Bool) (ls ds : List FlatVariable) (x : ℕ) → length ls ≡ length ds → out x ≡ false
    → slice_get (typed_but out 0 ls ds) x ≡ slice_get ds x
but_kept out ls ds x as_many off =
    but_at out ls ds x as_many ∙ ap (λ b. if b then slice_get ls x else slice_get ds x) off

-- Two ways to type variables that differ in those alone.

module _ (out : ℕ → Bool) where
  -- none of them is named
  abbrev Spares : (ℕ → Bool) → Type 0
  Spares named = (y : ℕ) → out y ≡ true → named y ≡ false

  stays : (x : ℕ) → Spares (λ y. x == y) → out x ≡ false
  stays x spares = false_from_ne_true (out x) (λ is. true≢false (sym (eq-eqb x x refl) ∙ spares x is))

  module _ (types : Types) (at : ℕ → Option FlatVariable) (same : (y : ℕ) → out y ≡ false → at y ≡ types.at y) where
    abbrev others : Types
    others = record { profile = types.profile; at = at }

    term_typed : {e : TermTree} {word : WordType} → TermHasType types e word → Spares (λ y. names_in y e)
        → TermHasType others e word
    term_typed (of_number below) spares = of_number below
    term_typed of_truth spares = of_truth
    term_typed (of_variable {x = x} is) spares = of_variable (same x (stays x spares) ∙ is)
    term_typed (of_prefix has takes width) spares = of_prefix (term_typed has spares) takes width
    term_typed (of_binary has more makes width) spares =
        of_binary (term_typed has (λ y on. (or_parts _ _ (spares y on)).0))
        (term_typed more (λ y on. (or_parts _ _ (spares y on)).1)) makes width
    term_typed (of_rotation has numeric low high width) spares =
        of_rotation (term_typed has spares) numeric low high width
    term_typed (of_conversion has numeric) spares = of_conversion (term_typed has spares) numeric
    term_typed (of_selection {condition = condition} {accepted = accepted} {otherwise = otherwise} has chooses more)
        spares =
        let parts = λ (y : ℕ) (on : out y ≡ true).
        neither_of_three (names_in y condition) (names_in y accepted) (names_in y otherwise) (spares y on) in
        of_selection (term_typed has (λ y on. (parts y on).0)) (term_typed chooses (λ y on. (parts y on).1))
        (term_typed more (λ y on. (parts y on).2))
    term_typed (of_element {x = x} is has) spares =
        of_element (same x (stays x (λ y on. (or_parts _ _ (spares y on)).0)) ∙ is)
        (term_typed has (λ y on. (or_parts _ _ (spares y on)).1))

    suits_typed : (wanted : WordType) (e : TermTree) → TermSuits types wanted e → Spares (λ y. names_in y e)
        → TermSuits others wanted e
    suits_typed wanted e suits spares = record {
      word = suits.word;
      has_type = term_typed suits.has_type spares;
      kind = suits.kind;
      label = suits.label;
    }

    all_typed : (wanted : WordType) (es : List TermTree) → AllSuit types wanted es → Spares (λ y. names_in_any y es)
        → AllSuit others wanted es
    all_typed wanted [] suit spares = tt
    all_typed wanted (e ∷ es) suit spares = (
      suits_typed wanted e suit.0 (λ y on. (or_parts _ _ (spares y on)).0),
      all_typed wanted es suit.1 (λ y on. (or_parts _ _ (spares y on)).1),
    )

  module _ (profile : Profile) (ds es : List FlatVariable)
      (same : (y : ℕ) → out y ≡ false → slice_get es y ≡ slice_get ds y) where
    pub value_typed : (wanted : WordType) (e : TermTree) → TermSuits (types_of profile ds) wanted e
        → Spares (λ y. names_in y e) → TermSuits (types_of profile es) wanted e
    value_typed = suits_typed (types_of profile ds) (λ y. slice_get es y) same

    pub own_typed : {e : TermTree} {word : WordType} → TermHasType (types_of profile ds) e word
        → Spares (λ y. names_in y e) → TermHasType (types_of profile es) e word
    own_typed = term_typed (types_of profile ds) (λ y. slice_get es y) same

    pub result_typed : (returned : Option WordType) (value : Option TermTree)
        → IsResult (types_of profile ds) returned value → Spares (λ y. names_in_result y value)
        → IsResult (types_of profile es) returned value
    result_typed None None typed spares = tt
    result_typed (Some word) (Some value) typed spares = value_typed word value typed spares
    result_typed returned value typed spares = absurd typed

    pub known_typed : (x : ℕ) {o : Option FlatVariable} → Spares (λ y. x == y) → slice_get ds x ≡ o
        → slice_get es x ≡ o
    known_typed x spares known = same x (stays x spares) ∙ known

    free : (named : ℕ → Bool) → ((y : ℕ) → out y ≡ true → not (named y) ≡ true) → Spares named
    free named passed y on = not-true (named y) (passed y on)

    pub statement_typed : (controls : ℕ) (s : StraightTree) → IsSimple s → IsTyped profile ds controls s
        → ((y : ℕ) → out y ≡ true → passes y s ≡ true) → IsTyped profile es controls s
    statement_typed controls (set within x value) simple typed passed =
        let spares = free (λ y. (x == y) || names_in y value) passed in (
          typed.0,
          record {
            word = typed.1.word;
            mutable = typed.1.mutable;
            known = known_typed x (λ y on. (or_parts _ _ (spares y on)).0) typed.1.known;
            suits = value_typed typed.1.word value typed.1.suits (λ y on. (or_parts _ _ (spares y on)).1);
          },
        )
    statement_typed controls (array x size values) simple typed passed =
        let spares = free (λ y. (x == y) || names_in_any y values) passed in
        record {
          word = typed.word;
          mutable = typed.mutable;
          known = known_typed x (λ y on. (or_parts _ _ (spares y on)).0) typed.known;
          suit = all_typed (types_but profile ds x) (λ y. if y == x then None else slice_get es y)
              (λ y off. ap (λ (o : Option FlatVariable). if y == x then None else o) (same y off)) typed.word values
              typed.suit (λ y on. (or_parts _ _ (spares y on)).1);
          count = typed.count;
        }
    statement_typed controls (put within place x size index value) simple typed passed =
        let spares = free (λ y. (x == y) || (names_in y index || names_in y value)) passed in
        let parts = λ (y : ℕ) (on : out y ≡ true). neither_of_three _ _ _ (spares y on) in (
          typed.0,
          record {
            word = typed.1.word;
            mutable = typed.1.mutable;
            known = known_typed x (λ y on. (parts y on).0) typed.1.known;
            index_type = own_typed typed.1.index_type (λ y on. (parts y on).1);
            suits = value_typed typed.1.word value typed.1.suits (λ y on. (parts y on).2);
          },
        )
    statement_typed controls (take control within condition) simple typed passed =
        (typed.0, typed.1, (typed.2.0, own_typed typed.2.1 (free (λ y. names_in y condition) passed)))
    statement_typed controls (branch condition accepted otherwise) simple typed passed = absurd simple
    statement_typed controls (repeats x low high body) simple typed passed = absurd simple
