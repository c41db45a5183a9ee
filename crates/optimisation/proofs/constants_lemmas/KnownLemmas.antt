-- What is known of variables once something is noted or forgotten.
use Rattle.std.proofs.Common.{◌≡◌, ◌≤◌, ◌==◌, ◌||◌, ℕ, zero, suc, length, Bool, true, false, nat_lt, List, [], ◌∷◌}
use Rattle.std.proofs.Common.{filter, map, Option, None, ◌⊎◌, inl, inr, Some, replicate, slice_set, slice_index}
use Rattle.std.proofs.Common.{Contains, ⊎_elim, refl, ap, sym, ◌∙◌, subst, arith}
use Rattle.std.specs.List.{remove}
use Rattle.std.proofs.Math.Logic.{⊎_map}
use Rattle.std.proofs.lemmas.Bool.{cond_both, eqb-true, eqb-false, not-true, or_parts}
use Rattle.std.proofs.lemmas.List.Elements.{All-contains, All-contains_itself, All-filter, Contains-push_cases}
use Rattle.std.proofs.lemmas.List.Elements.{filter_passes}
use Rattle.std.proofs.lemmas.Option.{cond_some, none-some}
use Rattle.optimisation.specs.Below.{Fits, Types, Values}
use Rattle.optimisation.specs.declared.constants.known.Constant.{Constant}
use Rattle.optimisation.specs.declared.constants.known.WordCopy.{WordCopy}
use Rattle.optimisation.specs.constants.private.Known.{WordFacts, known, word_at, source_in, is_apart, with_word}
use Rattle.optimisation.specs.constants.private.Known.{without, latest, with_copy, short, all_short}

-- Facts: a variable's word, or a copy.

pub data Fact : Type 0 where
  valued : (x : ℕ) (c : Constant) → Fact
  copy : (c : WordCopy) → Fact

abbrev pub Knows : WordFacts → Fact → Type 0
Knows words (valued x c) = known words x ≡ Some c
Knows words (copy c) = Contains words.copies c

-- a fact is about this variable
abbrev pub IsAbout : ℕ → Fact → Type 0
IsAbout y (valued x c) = y ≡ x
IsAbout y (copy c) = (y ≡ c.variable) ⊎ (y ≡ c.source)

abbrev pub IsFree : ℕ → Fact → Type 0
IsFree x f = (y : ℕ) → IsAbout y f → y ≡ x → ⊥

-- Lists of copies.

in_filtered : (p : WordCopy → Bool) (c : WordCopy) (copies : List WordCopy) → Contains (filter p copies) c
    → Contains copies c × (p c ≡ true)
in_filtered p c copies is = (
  All-contains (Contains copies) (filter p copies) c
      (All-filter p (Contains copies) copies (All-contains_itself copies)) is,
  All-contains (λ d. p d ≡ true) (filter p copies) c (filter_passes p copies) is,
)

apart_free : (x : ℕ) (c : WordCopy) → is_apart x c ≡ true → IsFree x (copy c)
apart_free x c is y about same =
    let parts = or_parts (c.variable == x) (c.source == x) (not-true (c.variable == x || c.source == x) is) in
    ⊎_elim (λ here. eqb-false c.variable x parts.0 (sym here ∙ same))
    (λ here. eqb-false c.source x parts.1 (sym here ∙ same)) about

in_latest : (c : WordCopy) (copies : List WordCopy) → Contains (latest copies) c → Contains copies c
in_latest c copies is =
    cond_both (nat_lt (length copies) 16) copies (remove copies 0)
    (λ (cs : List WordCopy). Contains cs c → Contains copies c) (λ room. λ there. there) (λ full. in_rest copies) is
  where
    in_rest : (cs : List WordCopy) → Contains (remove cs 0) c → Contains cs c
    in_rest [] there = there
    in_rest (d ∷ cs) there = (suc there.0, omega arith, there.2)

-- a copy that is known once one more is noted
pub in_more : (words : WordFacts) (c d : WordCopy) → Contains (with_copy words d).copies c
    → Contains words.copies c ⊎ (d ≡ c)
in_more words c d is = ⊎_map (in_latest c words.copies) (λ h. h) (Contains-push_cases (latest words.copies) d c is)

-- a variable is read as itself, or as the source of a copy
pub data IsReadAs (copies : List WordCopy) (x : ℕ) : ℕ → Type 0 where
  as_itself : IsReadAs copies x x
  as_source : (c : WordCopy) → Contains copies c → c.variable ≡ x → IsReadAs copies x c.source

one_copy_more : (d : WordCopy) (copies : List WordCopy) (x y : ℕ) → IsReadAs copies x y → IsReadAs (d ∷ copies) x y
one_copy_more d copies x y as_itself = as_itself
one_copy_more d copies x y (as_source c there is) = as_source c (suc there.0, omega arith, there.2) is

pub read_as : (copies : List WordCopy) (x : ℕ) → IsReadAs copies x (source_in copies x)
read_as [] x = as_itself
read_as (d ∷ copies) x =
    cond_both (d.variable == x) d.source (source_in copies x) (IsReadAs (d ∷ copies) x)
    (λ is. as_source d (0, omega arith, refl) (eqb-true d.variable x is))
    (λ is. one_copy_more d copies x (source_in copies x) (read_as copies x))

-- Numbers.

word_beside : (numbers : List (Option Constant)) (x y : ℕ) (word : Option Constant) → (y ≡ x → ⊥)
    → word_at (slice_set numbers x word) y ≡ word_at numbers y
word_beside [] x y word apart = refl
word_beside (w ∷ numbers) zero zero word apart = absurd (apart refl)
word_beside (w ∷ numbers) zero (suc y) word apart = refl
word_beside (w ∷ numbers) (suc x) zero word apart = refl
word_beside (w ∷ numbers) (suc x) (suc y) word apart = word_beside numbers x y word (λ e. apart (ap suc e))

word_here : (numbers : List (Option Constant)) (x : ℕ) (word : Option Constant) (c : Constant)
    → word_at (slice_set numbers x word) x ≡ Some c → word ≡ Some c
word_here [] x word c is = absurd (none-some c is)
word_here (w ∷ numbers) zero word c is = is
word_here (w ∷ numbers) (suc x) word c is = word_here numbers x word c is

short_word : (numbers : List (Option Constant)) (y : ℕ) (c : Constant) → word_at (map short numbers) y ≡ Some c
    → word_at numbers y ≡ Some c
short_word [] y c is = is
short_word (None ∷ numbers) zero c is = is
short_word (Some d ∷ numbers) zero c is = ap (λ w. Some w) (cond_some (nat_lt d.value 2048) d c is).1
short_word (w ∷ numbers) (suc y) c is = short_word numbers y c is

-- Facts once something is noted or forgotten.

-- of another variable no more is known
pub known_beside : (words : WordFacts) (x : ℕ) (word : Option Constant) (f : Fact) → IsFree x f
    → Knows (with_word words x word) f → Knows words f
known_beside words x word (valued y c) free is = sym (word_beside words.numbers x y word (free y refl)) ∙ is
known_beside words x word (copy c) free is = (in_filtered (is_apart x) c words.copies is).0

-- a copy that is still known has nothing to do with the variable
still_copy : (words : WordFacts) (x : ℕ) (word : Option Constant) (c : WordCopy)
    → Knows (with_word words x word) (copy c) → Knows words (copy c) × IsFree x (copy c)
still_copy words x word c is =
    let found = in_filtered (is_apart x) c words.copies is in (found.0, apart_free x c found.1)

-- what is known of the variable is what is noted of it, and all else was known before
pub word_by : (words : WordFacts) (x : ℕ) (word : Option Constant) (P : Fact → Type 0)
    → ((c : Constant) → word ≡ Some c → P (valued x c)) → ((f : Fact) → IsFree x f → Knows words f → P f)
    → (f : Fact) → Knows (with_word words x word) f → P f
word_by words x word P noted known_before (copy c) is =
    let found = still_copy words x word c is in known_before (copy c) found.1 found.0
word_by words x word P noted known_before (valued y c) is = by_number (y == x) refl
  where
    by_number : (b : Bool) → (y == x) ≡ b → P (valued y c)
    by_number true same =
        let here = eqb-true y x same in
        subst (λ z. P (valued z c)) (sym here) (noted c (word_here words.numbers x word c
        (subst (λ z. word_at (slice_set words.numbers x word) z ≡ Some c) here is)))
    by_number false apart =
        let free : IsFree x (valued y c) = λ z about same. eqb-false y x apart (sym about ∙ same) in
        known_before (valued y c) free (known_beside words x word (valued y c) free is)

-- of a variable without a word nothing is known
pub without_known : (words : WordFacts) (x : ℕ) (f : Fact) → Knows (without words x) f → Knows words f × IsFree x f
without_known words x =
    word_by words x None (λ f. Knows words f × IsFree x f) (λ c is. absurd (none-some c is)) (λ f free is. (is, free))

-- of short words no more is known
pub short_same : (words : WordFacts) (f : Fact) → Knows (all_short words) f → Knows words f
short_same words (valued y c) is = short_word words.numbers y c is
short_same words (copy c) is = is

-- the words from a number on where they are short, and those before it as they are
abbrev pub shorts_from : ℕ → List (Option Constant) → List (Option Constant)
shorts_from zero numbers = map short numbers
shorts_from (suc n) [] = []
shorts_from (suc n) (w ∷ numbers) = w ∷ shorts_from n numbers

pub shorts_step : (n : ℕ) (numbers : List (Option Constant))
    → shorts_from (suc n) (slice_set numbers n (short (word_at numbers n))) ≡ shorts_from n numbers
shorts_step zero [] = refl
shorts_step zero (w ∷ numbers) = refl
shorts_step (suc n) [] = refl
shorts_step (suc n) (w ∷ numbers) = ap (λ rest. w ∷ rest) (shorts_step n numbers)

pub shorts_end : (n : ℕ) (numbers : List (Option Constant)) → length numbers ≤ n → shorts_from n numbers ≡ numbers
shorts_end zero [] within = refl
shorts_end zero (w ∷ numbers) within = absurd (omega arith)
shorts_end (suc n) [] within = refl
shorts_end (suc n) (w ∷ numbers) within = ap (λ rest. w ∷ rest) (shorts_end n numbers (omega arith))

no_word : (n x : ℕ) (c : Constant) → word_at (replicate n None) x ≡ Some c → ⊥
no_word zero x c is = none-some c is
no_word (suc n) zero c is = none-some c is
no_word (suc n) (suc x) c is = no_word n x c is

-- where a program begins nothing is known
pub nothing_first : (n : ℕ) (f : Fact) → Knows (record { numbers = replicate n None; copies = [] }) f → ⊥
nothing_first n (valued x c) is = no_word n x c is
nothing_first n (copy c) is = absurd (omega arith)

-- Facts of what variables hold.

abbrev pub IsTrue : Fact → Values → Type 0
IsTrue (valued x c) m = slice_index (m x) 0 ≡ c.value
IsTrue (copy c) m = slice_index (m c.variable) 0 ≡ slice_index (m c.source) 0

pub same_truth : (f : Fact) (m n : Values) → ((y : ℕ) → IsAbout y f → n y ≡ m y) → IsTrue f m → IsTrue f n
same_truth (valued x c) m n same is = ap (λ numbers. slice_index numbers 0) (same x refl) ∙ is
same_truth (copy c) m n same is =
    ap (λ numbers. slice_index numbers 0) (same c.variable (inl refl))
    ∙ (is ∙ ap (λ numbers. slice_index numbers 0) (sym (same c.source (inr refl))))

-- what is known is what the variables hold
abbrev pub Agrees : WordFacts → Values → Type 0
Agrees words m = (f : Fact) → Knows words f → IsTrue f m

-- what is known is what the variables hold, and each holds what it is declared as
pub record FactsHold (types : Types) (words : WordFacts) (m : Values) : Type 0 where
  pub agrees : Agrees words m
  pub fits : Fits types m
