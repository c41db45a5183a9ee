-- What a name stands for after a declaration.
use Rattle.std.proofs.Common.{◌≡◌, ℕ, Bool, true, false, cond, List, [], ◌∷◌, ◌++◌, Option, Some, None, is_some, ◌⊎◌}
use Rattle.std.proofs.Common.{inl, inr, refl, sym, ap, ◌∙◌, true≢false}
use Rattle.std.proofs.lemmas.Bool.{cases_Bool}
use Rattle.std.proofs.lemmas.Option.{same_Some}
use Rattle.std.specs.Map.{lookup}
use Rattle.std.specs.Str.{bytes_eq}
use lib.Pointwise.{bytes_decides}
use Rattle.language.specs.names.Scope.{found, declared}

-- the first, and where there is none the second
abbrev pub first_of_two : {A : Type 0} → Option A → Option A → Option A
first_of_two (Some a) b = Some a
first_of_two None b = b

first-none : {A : Type 0} (a : Option A) → first_of_two a None ≡ a
first-none (Some a) = refl
first-none None = refl

first-some : {A : Type 0} (a b : Option A) → is_some a ≡ true → first_of_two a b ≡ a
first-some (Some a) b h = refl
first-some None b h = absurd (true≢false (sym h))

lookup_append : {V : Type 0} (test : List ℕ → Bool) (xs ys : List (List ℕ × V))
    → lookup test (xs ++ ys) ≡ first_of_two (lookup test xs) (lookup test ys)
lookup_append test [] ys = refl
lookup_append test (x ∷ xs) ys = by_test (test x.0) (lookup_append test xs ys)
  where
    by_test : (b : Bool) → lookup test (xs ++ ys) ≡ first_of_two (lookup test xs) (lookup test ys)
        → cond b (Some x.1) (lookup test (xs ++ ys)) ≡ first_of_two (cond b (Some x.1) (lookup test xs))
        (lookup test ys)
    by_test true rest = refl
    by_test false rest = rest

module _ {V : Type 0} (scope : List (List ℕ × V)) (name : List ℕ) (what : V) (text : List ℕ) where
  hidden : is_some (found scope name) ≡ true
      → found scope text ≡ first_of_two (found scope text) (cond (bytes_eq text name) (Some what) None)
  hidden there = elim (cases_Bool (bytes_eq text name)) [
    | inl same ↦ (let is : text ≡ name = (bytes_decides text name).0 same in
        rw same (sym (first-some (found scope text) (Some what) (ap (λ x. is_some (found scope x)) is ∙ there))))
    | inr other ↦ rw other (sym (first-none (found scope text)))
  ]

  -- a declaration is found where nothing was found before
  pub found_declared : found (declared scope name what) text
      ≡ first_of_two (found scope text) (cond (bytes_eq text name) (Some what) None)
  found_declared = elim (cases_Bool (is_some (found scope name))) [
    | inl there ↦ rw there (hidden there)
    | inr absent ↦ rw absent (lookup_append (bytes_eq text) scope ((name, what) ∷ []))
  ]

  -- another name stands for what it stood for
  pub found-other : bytes_eq text name ≡ false → found (declared scope name what) text ≡ found scope text
  found-other e = found_declared ∙ rw e (first-none (found scope text))

  -- a new name stands for what was declared
  pub found-new : bytes_eq text name ≡ true → found scope name ≡ None
      → found (declared scope name what) text ≡ Some what
  found-new e absent =
      found_declared
      ∙ (ap (λ b. first_of_two (found scope text) (cond b (Some what) None)) e
      ∙ ap (λ o. first_of_two o (Some what)) (ap (found scope) ((bytes_decides text name).0 e) ∙ absent))

  -- what was there stays there
  pub found-kept : (v : V) → found scope text ≡ Some v → found (declared scope name what) text ≡ Some v
  found-kept v there = found_declared ∙ ap (λ o. first_of_two o (cond (bytes_eq text name) (Some what) None)) there

-- what is found after a declaration was there, or is what was declared
pub found-split : {V : Type 0} (scope : List (List ℕ × V)) (name : List ℕ) (what : V) (text : List ℕ) (v : V)
    → found (declared scope name what) text ≡ Some v → (found scope text ≡ Some v) ⊎
    ((bytes_eq text name ≡ true) × (what ≡ v))
found-split {V = V} scope name what text v is = by_old (found scope text) refl (bytes_eq text name) refl
    (sym (found_declared scope name what text) ∙ is)
  where
    by_old : (o : Option V) → found scope text ≡ o → (b : Bool) → bytes_eq text name ≡ b
        → first_of_two o (cond b (Some what) None) ≡ Some v → (o ≡ Some v) ⊎ ((b ≡ true) × (what ≡ v))
    by_old (Some w) there b e h = inl h
    by_old None there true e h = inr (refl, same_Some what v h)
    by_old None there false e h = inl h
