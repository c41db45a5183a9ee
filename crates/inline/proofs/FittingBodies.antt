-- A well-typed body keeps each variable in scope as it is declared.
use Rattle.std.proofs.Common.{◌≡◌, ℕ, zero, suc, ◌-◌, ◌^◌, ◌<◌, ◌≤◌, ◌==◌, Bool, true, false}
use Rattle.std.proofs.Common.{List, [], ◌∷◌, length, map, take, drop, replicate, All, slice_get, slice_set, Some, sym}
use Rattle.std.proofs.Common.{ap, ◌∙◌, subst, refl, arith, eqb-true, inl, inr}
use Rattle.std.proofs.lemmas.Bool.{cases_Bool, cond_both}
use Rattle.std.proofs.lemmas.List.{length-set, length-replicate, length-map}
use Rattle.std.proofs.lemmas.List.Elements.{All-nil, All-cons, All-set, All-replicate}
use Rattle.std.proofs.lemmas.Option.{none-some, same_Some}
use Rattle.inline.specs.Below.{AreWithin, Arg, Boolean, greatest_of, IsWithin, joined, Kind, Label, Param, Public}
use Rattle.inline.specs.Below.{words_of, WordType}
use Rattle.inline.specs.declared.flat.FlatVariable.{FlatVariable}
use Rattle.inline.specs.Fitting.{IsWithinKind, IsHeld, Fits}
use Rattle.inline.specs.Flat.{TermTree, FlatTree, declare, array, assign, put, hold, skip, branch, loop, FlatBlock}
use Rattle.inline.specs.Flat.{nothing, first, FlatProgram, word_as, array_as, declaration_of, numbers_in}
use Rattle.inline.specs.FlatMeaning.{Values, with_value, value_in, elements, after, after_all, given, end_of}
use Rattle.inline.specs.FlatTyping.{Types, with_type, AllSuit, HasCount, IsTyped, AreTyped, IsTypedFlat}
use Rattle.inline.specs.FlatTyping.{counter_type, types_after, types_after_all, parameter_types, end_types}
use Rattle.inline.proofs.Chains.{iterations_keep}
use Rattle.inline.proofs.Fitting.{value_fits, suited_fits, some_bit}
use Rattle.inline.proofs.Parameters.{argument_count}
use Rattle.inline.proofs.Linked.{with_type-other}
use Rattle.inline.proofs.TypesKept.{types_kept, new_number}

-- Values.

pub one_held : (word : WordType) (mutable : Bool) (v : ℕ) → IsWithinKind word.kind v
    → IsHeld (word_as word mutable) (v ∷ [])
one_held word mutable v below = record
    { count = refl; within = All-cons (IsWithinKind word.kind) v [] below (All-nil (IsWithinKind word.kind)) }

pub fits_declared : (types : Types) (m : Values) (y : ℕ) (v : List ℕ) (own : FlatVariable) → IsHeld own v
    → Fits types m
    → Fits (with_type types y own) (with_value m y v)
fits_declared types m y v own here fits x d is = elim (cases_Bool (x == y)) [
  | inl e ↦ rw (e, ← same_Some own d (rw e at is)) here
  | inr e ↦ rw e (fits x d (rw e at is))
]

pub fits_assigned : (types : Types) (m : Values) (y : ℕ) (v : List ℕ) (own : FlatVariable) → types.at y ≡ Some own
    → IsHeld own v → Fits types m → Fits types (with_value m y v)
fits_assigned types m y v own there here fits x d is = elim (cases_Bool (x == y)) [
  | inl e ↦ rw (e, ← same_Some own d (sym there ∙ (ap types.at (sym (eqb-true x y e)) ∙ is))) here
  | inr e ↦ rw e (fits x d is)
]

-- where each of an array's first values is replaced, they are as many as before
pub still_counted : (change : TermTree → TermTree) (size : ℕ) (values : List TermTree) → HasCount size values
    → HasCount size (map change values)
still_counted change size [] count = tt
still_counted change size (e ∷ es) count = length-map (e ∷ es) change ∙ count

-- the elements of a new array
module _ (types : Types) (m : Values) (fits : Fits types m) (word : WordType) where
  all_fit : (es : List TermTree) → AllSuit types word es → All (IsWithinKind word.kind) (map (value_in m) es)
  all_fit [] suit = All-nil (IsWithinKind word.kind)
  all_fit (e ∷ es) suit = All-cons (IsWithinKind word.kind) (value_in m e) (map (value_in m) es)
      (suited_fits types m fits word e suit.0) (all_fit es suit.1)

  pub elements_held : (mutable : Bool) (size : ℕ) (es : List TermTree) → AllSuit types word es → HasCount size es
      → IsHeld (array_as word mutable size) (elements m size es)
  elements_held mutable size [] suit count = record
      { count = length-replicate size 0; within = All-replicate (IsWithinKind word.kind) size 0 (some_bit word.kind) }
  elements_held mutable size (e ∷ es) suit count = record
      { count = length-map (e ∷ es) (value_in m) ∙ count; within = all_fit (e ∷ es) suit }

-- Statements.

module _ (all : List FlatVariable) where
  mutual
    pub fits_after : (s : FlatTree) (types : Types) (control : Label) → IsTyped all types control s → (m : Values)
        → Fits types m → Fits (types_after types s) (after m s)
    fits_after (declare y word mutable value) types control typed m fits =
        fits_declared types m y (value_in m value ∷ []) (word_as word mutable)
        (one_held word mutable (value_in m value) (suited_fits types m fits word value typed.1)) fits
    fits_after (array y word mutable size values) types control typed m fits =
        fits_declared types m y (elements m size values) (array_as word mutable size)
        (elements_held types m fits word mutable size values typed.1 typed.2) fits
    fits_after (assign y value) types control typed m fits =
        fits_assigned types m y (value_in m value ∷ []) (word_as typed.word true) typed.known
        (one_held typed.word true (value_in m value) (suited_fits types m fits typed.word value typed.suits)) fits
    fits_after (put place y size index value) types control typed m fits =
        let old = fits y (array_as typed.word true size) typed.known in
        let v = value_in m value in
        fits_assigned types m y (slice_set (m y) (value_in m index) v) (array_as typed.word true size) typed.known
        (record {
          count = length-set (m y) (value_in m index) v ∙ old.count;
          within = All-set (IsWithinKind typed.word.kind) (m y) (value_in m index) v
              (suited_fits types m fits typed.word value typed.suits) old.within;
        }) fits
    fits_after (hold y place size index) types control typed m fits =
        fits_declared types m y (value_in m index ∷ []) (word_as counter_type false)
        (one_held counter_type false (value_in m index) (value_fits types m fits typed.1)) fits
    fits_after skip types control typed m fits = fits
    fits_after (branch label condition accepted otherwise) types control typed m fits =
        let under = joined label control in
        let one = fits_after_all accepted types under typed.1 m fits in
        let other = fits_after_all otherwise types under typed.2 m fits in
        cond_both (value_in m condition == 0) (after_all m otherwise) (after_all m accepted) (Fits types)
        (λ zero x d is. other x d (types_kept all types under otherwise typed.2 x d is))
        (λ nonzero x d is. one x d (types_kept all types under accepted typed.1 x d is))
    fits_after (loop y low high body) types control typed m fits =
        let own = word_as counter_type false in
        let inside = with_type types y own in
        let a = value_in m low in
        let b = value_in m high in
        let most : b < 2 ^ 32 = value_fits types m fits typed.1 in
        let iteration = λ (i : ℕ) (t : Values). after_all (with_value t y (i ∷ [])) body in
        iterations_keep (Fits types) iteration b
        (λ i t less held x d is.
        fits_after_all body inside control typed.3 (with_value t y (i ∷ []))
        (fits_declared types t y (i ∷ []) own (one_held counter_type false i (omega (arith, less, most))) held) x d
        (types_kept all inside control body typed.3 x d
        (with_type-other types y x own (new_number types y x d typed.2.new is) ∙ is)))
        (b - a) a m refl fits

    pub fits_after_all : (b : FlatBlock) (types : Types) (control : Label) → AreTyped all types control b
        → (m : Values)
        → Fits types m → Fits (types_after_all types b) (after_all m b)
    fits_after_all nothing types control typed m fits = fits
    fits_after_all (first s rest) types control typed m fits =
        fits_after_all rest (types_after types s) control typed.1 (after m s)
        (fits_after s types control typed.0 m fits)

-- The beginning.

within_kind : (kind : Kind) (v : ℕ) → v ≤ greatest_of kind → IsWithinKind kind v
within_kind Boolean v h = omega (arith, h)
within_kind other v h = omega (arith, h)

pub argument_held : (p : Param) (arg : Arg) → IsWithin p arg → IsHeld (declaration_of p) (words_of arg)
argument_held p arg within = record {
  count = argument_count p.form p.length arg within.shape;
  within = λ k d less. within_kind p.kind _ (within.values k d less);
}

pub held_zeros : (d : FlatVariable) → IsHeld d (replicate (numbers_in d.elements) 0)
held_zeros d = record {
  count = length-replicate (numbers_in d.elements) 0;
  within = All-replicate (IsWithinKind d.word.kind) (numbers_in d.elements) 0 (some_bit d.word.kind);
}

-- without arguments each variable holds zeros
pub given_none : (declared : List FlatVariable) (x : ℕ) (d : FlatVariable) → slice_get declared x ≡ Some d
    → given declared [] x ≡ replicate (numbers_in d.elements) 0
given_none [] x d is = absurd (none-some d is)
given_none (e ∷ ds) zero d is = ap (λ (f : FlatVariable). replicate (numbers_in f.elements) 0) (same_Some e d is)
given_none (e ∷ ds) (suc x) d is = given_none ds x d is

-- with arguments for the parameters, which are the first variables, each holds what it is declared as
pub given_fits : (ps : List Param) (ds : List FlatVariable) (args : List Arg) → AreWithin ps args
    → take (length ps) ds ≡ map declaration_of ps → (x : ℕ) (d : FlatVariable) → slice_get ds x ≡ Some d
    → IsHeld d (given ds args x)
given_fits [] ds [] within front x d is =
    subst (λ (l : List ℕ). IsHeld d l) (sym (given_none ds x d is)) (held_zeros d)
given_fits (p ∷ ps) [] args within front x d is = absurd (none-some d is)
given_fits (p ∷ ps) (e ∷ ds) (arg ∷ args) within front zero d is =
    let same : declaration_of p ≡ d = cc in
    subst (λ (t : FlatVariable). IsHeld t (words_of arg)) same (argument_held p arg within.0)
given_fits (p ∷ ps) (e ∷ ds) (arg ∷ args) within front (suc x) d is =
    given_fits ps ds args within.1 (ap (λ xs. drop 1 xs) front) x d is
given_fits ps ds args within front x d is = absurd within

first_there : (n : ℕ) (ds : List FlatVariable) (x : ℕ) (d : FlatVariable) → slice_get (take n ds) x ≡ Some d
    → slice_get ds x ≡ Some d
first_there zero ds x d is = absurd (none-some d is)
first_there (suc n) [] x d is = absurd (none-some d is)
first_there (suc n) (e ∷ ds) zero d is = is
first_there (suc n) (e ∷ ds) (suc x) d is = first_there n ds x d is

-- in a well-typed program
pub parameters_fit : (p : FlatProgram) (args : List Arg) → IsTypedFlat p → AreWithin p.parameters args
    → Fits (parameter_types p.profile p.parameters) (given p.declared args)
parameters_fit p args typed within x d is =
    given_fits p.parameters p.declared args within typed.parameters x d
    (first_there (length p.parameters) p.declared x d (ap (λ ds. slice_get ds x) typed.parameters ∙ is))

pub end_fits : (p : FlatProgram) (args : List Arg) → IsTypedFlat p → AreWithin p.parameters args
    → Fits (end_types p) (end_of p args)
end_fits p args typed within = fits_after_all p.declared p.body (parameter_types p.profile p.parameters) Public
    typed.body (given p.declared args) (parameters_fit p args typed within)

pub result_fits : (p : FlatProgram) (args : List Arg) (word : WordType) (value : TermTree) → IsTypedFlat p
    → AreWithin p.parameters args → p.returned ≡ Some word → p.value ≡ Some value
    → IsWithinKind word.kind (value_in (end_of p args) value)
result_fits p args word value typed within returned valued =
    let result = rw (returned, valued) at typed.result in
    suited_fits (end_types p) (end_of p args) (end_fits p args typed within) word value result
