-- Variables as they are laid out: which of them have slots, and how many words they take.
use Rattle.std.proofs.Common.{◌≡◌, ℕ, zero, suc, ◌+◌, ◌<◌, ◌≤◌, ◌||◌, Bool, true, false, nat_lt, List, [], ◌∷◌}
use Rattle.std.proofs.Common.{length, take, drop, Option, None, Some, is_none, slice_get, slice_index, refl, sym}
use Rattle.std.proofs.Common.{ap, ap₂, ◌∙◌, subst, arith, if◌then◌else◌}
use Rattle.std.specs.Prelude.{replicate}
use Rattle.std.proofs.lemmas.Bool.{true≢false}
use Rattle.codegen.proofs.Choices.{of_choice}
use Rattle.codegen.proofs.Language.{AreWithin, Arg, Boolean, declared_words, FlatVariable, given, Kind, numbers_in}
use Rattle.codegen.proofs.Language.{Param, Profile, types_of, Values}
use Rattle.codegen.proofs.Logic.{AreOfKinds, IsOfKind, lt-ltb, nat_tests, none-some, option_map, same_Some}
use Rattle.codegen.proofs.Machine.{home_of}
use Rattle.codegen.specs.Below.{array_words, words_of}
use Rattle.expression_code.specs.Layout.{has_slot, slotted, slotted_from, without_words}
use Rattle.codegen.specs.private.Homes.{is_no_array, is_word}

-- One variable.

no_words : (d : FlatVariable) → words_of (without_words d) ≡ 0
no_words d = in_array d.word.kind
  where
    in_array : (kind : Kind) → array_words kind 0 ≡ 0
    in_array Boolean = omega arith
    in_array kind = omega arith

-- what is laid out for what is declared, with a slot or without
abbrev laid_by : Bool → Option FlatVariable → Option FlatVariable
laid_by slot o = option_map (λ d. if slot then d else without_words d) o

-- what has any numbers there is as it is declared
was_by : (slot : Bool) (o : Option FlatVariable) (d : FlatVariable) → laid_by slot o ≡ Some d
    → 0 < numbers_in d.elements → o ≡ Some d
was_by slot None d is some = absurd (none-some d is)
was_by true (Some e) d is some = is
was_by false (Some e) d is some =
    absurd (omega (arith, some, ap (λ (f : FlatVariable). numbers_in f.elements) (same_Some (without_words e) d is)))

-- and anything within the kind may be held there
kind_by : (slot : Bool) (o : Option FlatVariable) (d : FlatVariable) (l : List ℕ) → laid_by slot o ≡ Some d
    → ((e : FlatVariable) → o ≡ Some e → IsOfKind e l) → IsOfKind d l
kind_by slot None d l is held = absurd (none-some d is)
kind_by true (Some e) d l is held = held d is
kind_by false (Some e) d l is held =
    subst (λ (f : FlatVariable). IsOfKind f l) (same_Some (without_words e) d is)
    (record { count = λ some. absurd (omega (arith, some)); within = (held e refl).within })

-- a word that is laid out as an array is one without a slot
array_by : (slot : Bool) (o : Option FlatVariable) → is_no_array (laid_by slot o) ≡ false
    → ((d : FlatVariable) → o ≡ Some d → d.elements ≡ None) → slot ≡ false
array_by slot None array words = absurd (true≢false array)
array_by true (Some d) array words =
    absurd (true≢false (sym (ap is_word (words d refl)) ∙ array))
array_by false (Some d) array words = refl

-- All of them.

pub slotted_length : (given : ℕ) (homes : List (Option ℕ)) (k : ℕ) (ds : List FlatVariable)
    → length (slotted_from given homes k ds) ≡ length ds
slotted_length given homes k [] = refl
slotted_length given homes k (d ∷ ds) = ap suc (slotted_length given homes (k + 1) ds)

-- they take no more words
pub slotted_words : (given : ℕ) (homes : List (Option ℕ)) (k : ℕ) (ds : List FlatVariable)
    → declared_words (slotted_from given homes k ds) ≤ declared_words ds
slotted_words given homes k [] = omega arith
slotted_words given homes k (d ∷ ds) =
    let first = of_choice (λ (e : FlatVariable). words_of e ≤ words_of d) (has_slot given homes k) {x = d}
    {y = without_words d} (omega arith) (omega (arith, no_words d)) in
    omega (arith, first, slotted_words given homes (k + 1) ds)

-- the first variables take no more words than all
pub first_words : (count : ℕ) (ds : List FlatVariable) → declared_words (take count ds) ≤ declared_words ds
first_words zero ds = omega arith
first_words (suc count) [] = omega arith
first_words (suc count) (d ∷ ds) = omega (arith, first_words count ds)

-- the first ones are laid out as they are declared
pub slotted_first : (n given : ℕ) (homes : List (Option ℕ)) (k : ℕ) (ds : List FlatVariable) → k + n ≤ given
    → take n (slotted_from given homes k ds) ≡ take n ds
slotted_first zero given homes k ds few = refl
slotted_first (suc n) given homes k [] few = refl
slotted_first (suc n) given homes k (d ∷ ds) few =
    ap₂ (λ slot (es : List FlatVariable). (if slot || is_none (home_of homes k) then d else without_words d) ∷ es)
    (lt-ltb k given (omega (arith, few)))
    (slotted_first n given homes (k + 1) ds (omega (arith, few)))

slotted_at : (given : ℕ) (homes : List (Option ℕ)) (k : ℕ) (ds : List FlatVariable) (x : ℕ)
    → slice_get (slotted_from given homes k ds) x ≡ laid_by (has_slot given homes (k + x)) (slice_get ds x)
slotted_at given homes k [] x = refl
slotted_at given homes k (d ∷ ds) zero =
    let here : k ≡ k + 0 = omega arith in
    ap (λ n. laid_by (has_slot given homes n) (Some d)) here
slotted_at given homes k (d ∷ ds) (suc x) =
    let next : k + 1 + x ≡ k + suc x = omega arith in
    slotted_at given homes (k + 1) ds x ∙ ap (λ n. laid_by (has_slot given homes n) (slice_get ds x)) next

slotted_is : (given : ℕ) (homes : List (Option ℕ)) (ds : List FlatVariable) (x : ℕ)
    → slice_get (slotted given homes ds) x ≡ laid_by (has_slot given homes x) (slice_get ds x)
slotted_is given homes ds x =
    let here : 0 + x ≡ x = omega arith in
    slotted_at given homes 0 ds x ∙ ap (λ n. laid_by (has_slot given homes n) (slice_get ds x)) here

or_true : (b : Bool) → (b || true) ≡ true
or_true true = refl
or_true false = refl

-- without homes they are laid out as they are declared
pub slotted_plain : (given k : ℕ) (ds : List FlatVariable) → slotted_from given [] k ds ≡ ds
slotted_plain given k [] = refl
slotted_plain given k (d ∷ ds) =
    ap₂ (λ slot (es : List FlatVariable). (if slot then d else without_words d) ∷ es) (or_true (nat_lt k given))
    (slotted_plain given (k + 1) ds)

-- so is one without a home
pub slotted_there : (given : ℕ) (homes : List (Option ℕ)) (ds : List FlatVariable) (x : ℕ) (d : FlatVariable)
    → slice_get ds x ≡ Some d → home_of homes x ≡ None → slice_get (slotted given homes ds) x ≡ Some d
slotted_there given homes ds x d is away =
    let slot : has_slot given homes x ≡ true =
    ap (λ (h : Option ℕ). nat_lt x given || is_none h) away ∙ or_true (nat_lt x given) in
    slotted_is given homes ds x ∙ ap₂ laid_by slot is

-- one that has a home, and is no parameter, takes no words
pub slotted_bare : (given : ℕ) (homes : List (Option ℕ)) (ds : List FlatVariable) (x home : ℕ) (d : FlatVariable)
    → nat_lt x given ≡ false → slice_get ds x ≡ Some d → home_of homes x ≡ Some home
    → slice_get (slotted given homes ds) x ≡ Some (without_words d)
slotted_bare given homes ds x home d behind is at =
    let slot : has_slot given homes x ≡ false = ap₂ (λ b (h : Option ℕ). b || is_none h) behind at in
    slotted_is given homes ds x ∙ ap₂ laid_by slot is

-- and one that has any numbers there
pub slotted_was : (given : ℕ) (homes : List (Option ℕ)) (ds : List FlatVariable) (x : ℕ) (d : FlatVariable)
    → slice_get (slotted given homes ds) x ≡ Some d → 0 < numbers_in d.elements → slice_get ds x ≡ Some d
slotted_was given homes ds x d is some =
    was_by (has_slot given homes x) (slice_get ds x) d (sym (slotted_is given homes ds x) ∙ is) some

-- what is within the kinds that are declared is within those
pub slotted_kinds : (profile : Profile) (given : ℕ) (homes : List (Option ℕ)) (ds : List FlatVariable) (m : Values)
    → AreOfKinds (types_of profile ds) m → AreOfKinds (types_of profile (slotted given homes ds)) m
slotted_kinds profile given homes ds m held x d is =
    kind_by (has_slot given homes x) (slice_get ds x) d (m x) (sym (slotted_is given homes ds x) ∙ is)
    (λ e known. held x e known)

-- What is given.

-- of two lists that have the same there
given_same : (ds es : List FlatVariable) (args : List Arg) (x : ℕ) → slice_get ds x ≡ slice_get es x
    → given ds args x ≡ given es args x
given_same [] [] args x same = refl
given_same [] (e ∷ es) args zero same = absurd (none-some e same)
given_same [] (e ∷ es) args (suc x) same = given_same [] es (drop 1 args) x same
given_same (d ∷ ds) [] args zero same = absurd (none-some d (sym same))
given_same (d ∷ ds) [] args (suc x) same = given_same ds [] (drop 1 args) x same
given_same (d ∷ ds) (e ∷ es) [] zero same =
    ap (λ (f : FlatVariable). replicate (numbers_in f.elements) 0) (same_Some d e same)
given_same (d ∷ ds) (e ∷ es) (arg ∷ args) zero same = refl
given_same (d ∷ ds) (e ∷ es) args (suc x) same = given_same ds es (drop 1 args) x same

pub given_slotted : (given_count : ℕ) (homes : List (Option ℕ)) (ds : List FlatVariable) (args : List Arg) (x : ℕ)
    (d : FlatVariable)
    → slice_get (slotted given_count homes ds) x ≡ Some d → 0 < numbers_in d.elements
    → given (slotted given_count homes ds) args x ≡ given ds args x
given_slotted given_count homes ds args x d is some =
    given_same (slotted given_count homes ds) ds args x
    (is ∙ sym (slotted_was given_count homes ds x d is some))

all_zero : (n : ℕ) → slice_index (replicate n 0) 0 ≡ 0
all_zero zero = refl
all_zero (suc n) = refl

-- what is no parameter holds zeros
zero_behind : (ps : List Param) (ds : List FlatVariable) (args : List Arg) (x : ℕ) → AreWithin ps args → length ps ≤ x
    → slice_index (given ds args x) 0 ≡ 0
zero_behind ps [] args x within behind = refl
zero_behind [] (d ∷ ds) [] zero within behind = all_zero (numbers_in d.elements)
zero_behind [] (d ∷ ds) [] (suc x) within behind = zero_behind [] ds [] x within (omega arith)
zero_behind (p ∷ ps) (d ∷ ds) (arg ∷ args) (suc x) within behind =
    zero_behind ps ds args x within.1 (omega (arith, behind))
zero_behind (p ∷ ps) (d ∷ ds) args zero within behind = absurd (omega (arith, behind))
zero_behind ps (d ∷ ds) args x within behind = absurd within

-- so does a word without a slot
pub slotless_zero : (ps : List Param) (homes : List (Option ℕ)) (ds : List FlatVariable) (args : List Arg) (x : ℕ)
    → AreWithin ps args → ((d : FlatVariable) → slice_get ds x ≡ Some d → d.elements ≡ None)
    → is_no_array (slice_get (slotted (length ps) homes ds) x) ≡ false → slice_index (given ds args x) 0 ≡ 0
slotless_zero ps homes ds args x within words array =
    let off = array_by (has_slot (length ps) homes x) (slice_get ds x)
    (ap is_no_array (sym (slotted_is (length ps) homes ds x)) ∙ array) words in
    zero_behind ps ds args x within (behind (nat_lt x (length ps)) (is_none (home_of homes x)) refl off)
  where
    behind : (b c : Bool) → nat_lt x (length ps) ≡ b → (b || c) ≡ false → length ps ≤ x
    behind true c test off = absurd (true≢false off)
    behind false c test off = grind (arith, nat_tests, test)
