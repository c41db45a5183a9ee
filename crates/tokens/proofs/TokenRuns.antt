-- The front of a list up to the first byte that passes a test.
use Rattle.std.proofs.Common.{◌≡◌, ℕ, zero, suc, Option, ◌+◌, ◌<◌, ◌≤◌, Bool, true, false, cond, List, [], ◌∷◌, ◌++◌}
use Rattle.std.proofs.Common.{length, take, drop, nat_lt, Some, None, refl, sym, ap, ◌∙◌, subst, arith, ltb-false}
use Rattle.std.proofs.Common.{IsUtf8}
use Rattle.std.specs.Prelude.{unwrap_or, not, ◌||◌, ◌&&◌}
use Rattle.std.specs.List.{position, position_or_len, list_any}
use Rattle.std.specs.Str.{IsCharBoundary}
use Rattle.tokens.specs.private.Splitting.{SplitsAtFirst, IsEmptyOrBeginsWith}
use Rattle.std.proofs.lemmas.Str.{IsCharBoundary-start, IsCharBoundary-after_ascii}
use Rattle.std.proofs.lemmas.List.Sums.{prefix_len-le-length, passes_at_first, fails_before_first}

pub or_false : (a b : Bool) → (a || b) ≡ false → (a ≡ false) × (b ≡ false)
or_false true b e = absurd (cc)
or_false false b e = (refl, e)

pub and_true : (a b : Bool) → (a && b) ≡ true → (a ≡ true) × (b ≡ true)
and_true true b e = (refl, e)
and_true false b e = absurd (cc)

unwrap_or-cond : (b : Bool) (n m : ℕ) → (b ≡ false → n ≡ m) → unwrap_or (cond b (Some n) None) m ≡ n
unwrap_or-cond true n m same = refl
unwrap_or-cond false n m same = sym (same refl)

-- where none passes, the position counts as the length
pub unwrap_or-position : (p : ℕ → Bool) (xs : List ℕ) → unwrap_or (position p xs) (length xs) ≡ position_or_len p xs
unwrap_or-position p xs =
    let bound = prefix_len-le-length (λ b. not (p b)) xs in
    unwrap_or-cond (nat_lt (position_or_len p xs) (length xs)) _ _ (λ e. let at_end = ltb-false _ _ e in omega arith)

-- where code cuts a text, from what the calls there say
pub cut_is : (p : ℕ → Bool) (xs bs : List ℕ) (o : Option ℕ) (m n : ℕ) → o ≡ position p bs → bs ≡ xs → m ≡ length xs
    → n ≡ unwrap_or o m → n ≡ position_or_len p xs
cut_is p xs bs o m n found same end given =
    given ∙ (λ i. unwrap_or (found i) (end i)) ∙ ap (λ l. unwrap_or (position p l) (length xs)) same
    ∙ unwrap_or-position p xs

SplitsAtFirst-cons : (p : ℕ → Bool) (x : ℕ) (xs : List ℕ) (n : ℕ) (b : Bool) → p x ≡ b
    → SplitsAtFirst p xs (take n xs) (drop n xs)
    → SplitsAtFirst p (x ∷ xs) (take (cond (not b) (1 + n) 0) (x ∷ xs)) (drop (cond (not b) (1 + n) 0) (x ∷ xs))
SplitsAtFirst-cons p x xs n true e run = record { parts = refl; before = refl; next = e }
SplitsAtFirst-cons p x xs n false e run =
    let one : suc n ≡ 1 + n = omega arith in
    subst (λ m. SplitsAtFirst p (x ∷ xs) (take m (x ∷ xs)) (drop m (x ∷ xs))) one
    (record {
      parts = ap (λ l. x ∷ l) run.parts;
      before = ap (λ v. v || list_any p (take n xs)) e ∙ run.before;
      next = run.next;
    })

-- a list is cut there
pub run_at : (p : ℕ → Bool) (xs : List ℕ)
    → SplitsAtFirst p xs (take (position_or_len p xs) xs) (drop (position_or_len p xs) xs)
run_at p [] = record { parts = refl; before = refl; next = tt }
run_at p (x ∷ xs) = SplitsAtFirst-cons p x xs (position_or_len p xs) (p x) refl (run_at p xs)

-- what code cuts there
pub splits_at : (p : ℕ → Bool) (xs front rest : List ℕ) (n : ℕ) → n ≡ position_or_len p xs → front ≡ take n xs
    → rest ≡ drop n xs → SplitsAtFirst p xs front rest
splits_at p xs front rest n at front_is rest_is = rw (front_is, rest_is, at) (run_at p xs)

-- no front in which none passes is longer than the run
pub run_longest : (p : ℕ → Bool) (front others run rest : List ℕ) → list_any p front ≡ false
    → IsEmptyOrBeginsWith p rest → run ++ rest ≡ front ++ others → length front ≤ length run
run_longest p [] others run rest none stops e = omega arith
run_longest p (x ∷ front) others [] [] none stops e = absurd (cc)
run_longest p (x ∷ front) others [] (y ∷ rest) none stops e =
    let fails : p x ≡ false = (or_false _ _ none).0 in cc
run_longest p (x ∷ front) others (y ∷ run) rest none stops e =
    let tails : run ++ rest ≡ front ++ others = cc in
    let shorter : length front ≤ length run = run_longest p front others run rest (or_false _ _ none).1 stops tails in
    omega arith

-- there is one run
pub run_unique : (p : ℕ → Bool) (xs ys r s : List ℕ) → list_any p xs ≡ false → list_any p ys ≡ false
    → IsEmptyOrBeginsWith p r → IsEmptyOrBeginsWith p s → xs ++ r ≡ ys ++ s → (xs ≡ ys) × (r ≡ s)
run_unique p [] [] r s n m q t e = (refl, e)
run_unique p [] (y ∷ ys) [] s n m q t e = absurd (cc)
run_unique p [] (y ∷ ys) (x ∷ r) s n m q t e = let fails : p y ≡ false = (or_false _ _ m).0 in
    cc
run_unique p (x ∷ xs) [] r [] n m q t e = absurd (cc)
run_unique p (x ∷ xs) [] r (y ∷ s) n m q t e = let fails : p x ≡ false = (or_false _ _ n).0 in
    cc
run_unique p (x ∷ xs) (y ∷ ys) r s n m q t e =
    let tails : xs ++ r ≡ ys ++ s = cc in
    let same : x ≡ y = cc in
    let both = run_unique p xs ys r s (or_false _ _ n).1 (or_false _ _ m).1 q t tails in
    ((λ i. same i ∷ both.0 i), both.1)

-- a text may be cut at an ASCII byte
pub boundary_at : (p : ℕ → Bool) (xs : List ℕ) → ((b : ℕ) → p b ≡ true → b < 128)
    → IsCharBoundary xs (position_or_len p xs)
boundary_at p xs ascii =
    let bound = prefix_len-le-length (λ b. not (p b)) xs in
    (bound, λ within high. let small = ascii _ (passes_at_first p xs 0 within) in absurd (omega arith))

-- and after one
pub boundary_after : (p : ℕ → Bool) (xs : List ℕ) → ((b : ℕ) → p b ≡ false → b < 128) → IsUtf8 xs
    → IsCharBoundary xs (position_or_len p xs)
boundary_after p xs ascii utf8 = after (position_or_len p xs) refl
  where
    after : (n : ℕ) → position_or_len p xs ≡ n → IsCharBoundary xs (position_or_len p xs)
    after zero e = subst (IsCharBoundary xs) (sym e) (IsCharBoundary-start xs utf8)
    after (suc n) e =
        let bound = prefix_len-le-length (λ b. not (p b)) xs in
        let before : n < position_or_len p xs = omega arith in
        let next : n + 1 ≡ position_or_len p xs = omega arith in
        let small = ascii _ (fails_before_first p xs n 0 before) in
        subst (IsCharBoundary xs) next (IsCharBoundary-after_ascii xs n utf8 (omega arith) small)
