-- What variables hold once words are live or set, and what that means for what the variables of two runs hold.
use Rattle.std.proofs.Common.{◌≡◌, ℕ, zero, suc, ◌+◌, ◌==◌, Bool, true, false, if◌then◌else◌, List, []}
use Rattle.std.proofs.Common.{◌∷◌, Option, None, Some, slice_set, inl, inr, refl, sym, ap, ◌∙◌, subst, arith}
use Rattle.std.proofs.lemmas.Bool.{and_parts, cases_eq, eq-eqb, eqb-true}
use Rattle.std.proofs.lemmas.List.{get_or-set_other}
use Rattle.std.proofs.lemmas.Option.{none-some, same_Some, unwrap_or-slice_get}
use Rattle.straight_words.specs.Below.{Values, with_value}
use Rattle.inline.proofs.Face.{with_value-other, with_value-same}
use Rattle.straight_words.specs.live_words.private.Held.{Table, Holders, Done, Held, share, holder, is_by, is_live}
use Rattle.straight_words.specs.live_words.private.Held.{is_free, holding, living, living_where, is_done, setting}
use Rattle.straight_words.specs.live_words.private.Held.{joined, covers, hold_own}

-- Places.

none_true : false ≡ true → ⊥
none_true h = cc

pub holder_beside : (holders : Holders) (v u : ℕ) (o : Option ℕ) → (u ≡ v → ⊥)
    → holder (slice_set holders v o) u ≡ holder holders u
holder_beside holders v u o apart =
    unwrap_or-slice_get (slice_set holders v o) u None
    ∙ (get_or-set_other holders v u o None apart ∙ sym (unwrap_or-slice_get holders u None))

holder_here : (holders : Holders) (v x : ℕ) → is_free holders v x ≡ true
    → holder (slice_set holders v (Some x)) v ≡ Some x
holder_here [] v x free = absurd (none_true free)
holder_here (h ∷ holders) zero x free = refl
holder_here (h ∷ holders) (suc v) x free = holder_here holders v x free

-- a variable that is free for a word holds no other
pub free_holder : (holders : Holders) (v x y : ℕ) → is_free holders v x ≡ true → holder holders v ≡ Some y → y ≡ x
free_holder [] v x y free is = absurd (none-some y is)
free_holder (None ∷ holders) zero x y free is = absurd (none-some y is)
free_holder (Some z ∷ holders) zero x y free is = sym (same_Some z y is) ∙ eqb-true z x free
free_holder (h ∷ holders) (suc v) x y free is = free_holder holders v x y free is

pub by_word : (o : Option ℕ) (x : ℕ) → is_by o x ≡ true → o ≡ Some x
by_word None x is = absurd (none_true is)
by_word (Some y) x is = ap Some (eqb-true y x is)

-- What is held in one is held in another, where that fits.

pub record Grows (one other : Held) : Type 0 where
  pub fits : other.fits ≡ true → one.fits ≡ true
  pub holds : other.fits ≡ true → (v x : ℕ) → holder one.holders v ≡ Some x → holder other.holders v ≡ Some x

pub grows_same : (held : Held) → Grows held held
grows_same held = record { fits = λ f. f; holds = λ f v x is. is }

pub grows_on : {one other last : Held} → Grows one other → Grows other last → Grows one last
grows_on g h = record {
  fits = λ f. g.fits (h.fits f);
  holds = λ f v x is. h.holds f v x (g.holds (h.fits f) v x is);
}

pub grows_holding : (held : Held) (v x : ℕ) → Grows held (holding held v x)
grows_holding held v x = record {
  fits = λ f. (and_parts held.fits (is_free held.holders v x) f).0;
  holds = λ f u y is.
      let free = (and_parts held.fits (is_free held.holders v x) f).1 in
      elim (cases_eq u v) [
        | inl here ↦
            let word = free_holder held.holders v x y free (ap (holder held.holders) (sym here) ∙ is) in
            rw (here, word) (holder_here held.holders v x free)
        | inr apart ↦ holder_beside held.holders v u (Some x) apart ∙ is
      ];
}

pub holds_word : (held : Held) (v x : ℕ) → (holding held v x).fits ≡ true
    → holder (holding held v x).holders v ≡ Some x
holds_word held v x f = holder_here held.holders v x (and_parts held.fits (is_free held.holders v x) f).1

pub grows_where : (table : Table) (done : Done) (held : Held) (x : ℕ) → Grows held (living_where table done held x)
grows_where table done held x = by_done (is_done done x)
  where
    by_done : (b : Bool) → Grows held (if b then held else living table held x)
    by_done true = grows_same held
    by_done false = grows_holding held (share table x) x

pub grows_joined : (held : Held) (v : ℕ) (holders : Holders) → Grows held (joined held v holders)
grows_joined held v [] = grows_same held
grows_joined held v (None ∷ holders) = grows_joined held (v + 1) holders
grows_joined held v (Some x ∷ holders) =
    grows_on (grows_holding held v x) (grows_joined (holding held v x) (v + 1) holders)

pub joined_holds : (held : Held) (v : ℕ) (holders : Holders) → (joined held v holders).fits ≡ true → (i j y : ℕ)
    → j ≡ v + i → holder holders i ≡ Some y → holder (joined held v holders).holders j ≡ Some y
joined_holds held v [] f i j y at is = absurd (none-some y is)
joined_holds held v (None ∷ holders) f zero j y at is = absurd (none-some y is)
joined_holds held v (None ∷ holders) f (suc i) j y at is = joined_holds held (v + 1) holders f i j y (omega arith) is
joined_holds held v (Some x ∷ holders) f zero j y at is =
    let rest = grows_joined (holding held v x) (v + 1) holders in
    let here : j ≡ v = omega arith in
    rw here (rest.holds f v y (holds_word held v x (rest.fits f) ∙ is))
joined_holds held v (Some x ∷ holders) f (suc i) j y at is =
    joined_holds (holding held v x) (v + 1) holders f i j y (omega arith) is

pub covers_holds : (these : Holders) (v : ℕ) (holders : Holders) → covers these v holders ≡ true → (i j y : ℕ)
    → j ≡ v + i → holder holders i ≡ Some y → holder these j ≡ Some y
covers_holds these v [] c i j y at is = absurd (none-some y is)
covers_holds these v (None ∷ holders) c zero j y at is = absurd (none-some y is)
covers_holds these v (None ∷ holders) c (suc i) j y at is =
    covers_holds these (v + 1) holders c i j y (omega arith) is
covers_holds these v (Some x ∷ holders) c zero j y at is =
    let parts = and_parts (is_by (holder these v) x) (covers these (v + 1) holders) c in
    let here : j ≡ v = omega arith in
    rw here (by_word (holder these v) x parts.0 ∙ is)
covers_holds these v (Some x ∷ holders) c (suc i) j y at is =
    let parts = and_parts (is_by (holder these v) x) (covers these (v + 1) holders) c in
    covers_holds these (v + 1) holders parts.1 i j y (omega arith) is

pub own_holds : (v : ℕ) (holders : Holders) → hold_own v holders ≡ true → (i y : ℕ)
    → holder holders i ≡ Some y → y ≡ v + i
own_holds v [] c i y is = absurd (none-some y is)
own_holds v (None ∷ holders) c zero y is = absurd (none-some y is)
own_holds v (None ∷ holders) c (suc i) y is = omega (arith, own_holds (v + 1) holders c i y is)
own_holds v (Some x ∷ holders) c zero y is =
    let parts = and_parts (x == v) (hold_own (v + 1) holders) c in
    omega (arith, eqb-true x v parts.0, same_Some x y is)
own_holds v (Some x ∷ holders) c (suc i) y is =
    let parts = and_parts (x == v) (hold_own (v + 1) holders) c in
    omega (arith, own_holds (v + 1) holders parts.1 i y is)

-- What live words hold: the variables that they live in hold it too.

module _ (table : Table) where
  abbrev pub AreAlike : Holders → Values → Values → Type 0
  AreAlike holders m n = (x : ℕ) → holder holders (share table x) ≡ Some x → m x ≡ n (share table x)

  pub alike_before : {one other : Held} → Grows one other → other.fits ≡ true → (m n : Values)
      → AreAlike other.holders m n → AreAlike one.holders m n
  alike_before grows f m n alike x is = alike x (grows.holds f (share table x) x is)

  -- where a word is set to the same value in both
  by_word_set : (m n : Values) (x y : ℕ) (value : List ℕ) → (share table y ≡ share table x → y ≡ x)
      → ((share table y ≡ share table x → ⊥) → m y ≡ n (share table y))
      → with_value m x value y ≡ with_value n (share table x) value (share table y)
  by_word_set m n x y value only beside =
      elim (cases_eq (share table y) (share table x)) [
        | inl at ↦ rw (only at) (with_value-same m x value ∙ sym (with_value-same n (share table x) value))
        | inr apart ↦
            with_value-other m x y value (λ e. apart (ap (share table) e))
            ∙ (beside apart ∙ sym (with_value-other n (share table x) (share table y) value apart))
      ]

  pub set_alike : (held : Held) (x : ℕ) (value : List ℕ) (m n : Values) → (setting table held x).fits ≡ true
      → AreAlike (setting table held x).holders m n
      → AreAlike held.holders (with_value m x value) (with_value n (share table x) value)
  set_alike held x value m n f alike y is =
      let v = share table x in
      let free = (and_parts held.fits (is_free held.holders v x) f).1 in
      by_word_set m n x y value (λ at. free_holder held.holders v x y free (ap (holder held.holders) (sym at) ∙ is))
      (λ apart. alike y (holder_beside held.holders v (share table y) None apart ∙ is))

  -- so where it stays live, and is set or not
  pub under_alike : (held : Held) (x : ℕ) (value : List ℕ) (m n : Values) → (living table held x).fits ≡ true
      → AreAlike (living table held x).holders m n
      → AreAlike held.holders (with_value m x value) (with_value n (share table x) value)
  under_alike held x value m n f alike y is =
      let v = share table x in
      let grows = grows_holding held v x in
      by_word_set m n x y value
      (λ at. same_Some y x (sym (grows.holds f v y (ap (holder held.holders) (sym at) ∙ is)) ∙ holds_word held v x f))
      (λ apart. alike y (grows.holds f (share table y) y is))

  -- a word that is not live
  pub dead_alike : (held : Held) (x : ℕ) (value : List ℕ) (m n : Values) → is_live table held x ≡ false
      → AreAlike held.holders m n → AreAlike held.holders (with_value m x value) n
  dead_alike held x value m n dead alike y is =
      elim (cases_eq y x) [
        | inl here ↦
            let holds : holder held.holders (share table x) ≡ Some x =
            subst (λ z. holder held.holders (share table z) ≡ Some z) here is in
            absurd (none_true (sym dead ∙ (ap (λ o. is_by o x) holds ∙ eq-eqb x x refl)))
        | inr apart ↦ with_value-other m x y value apart ∙ alike y is
      ]

  -- what a live word holds
  pub alike_living : (held : Held) (x : ℕ) (m n : Values) → (living table held x).fits ≡ true
      → AreAlike (living table held x).holders m n → m x ≡ n (share table x)
  alike_living held x m n f alike = alike x (holds_word held (share table x) x f)

-- what is live at the beginning keeps its number
pub alike_first : (table : Table) (holders : Holders) → hold_own 0 holders ≡ true → (m : Values)
    → AreAlike table holders m m
alike_first table holders own m x is = ap m (omega (arith, own_holds 0 holders own (share table x) x is))
