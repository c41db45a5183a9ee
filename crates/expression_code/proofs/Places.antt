-- Where variables and their elements lie: no two of them overlap, and the offsets that are listed are those that are
-- defined.
use Rattle.std.proofs.Common.{◌≡◌, ℕ, zero, suc, ◌+◌, ◌*◌, ◌/◌, ◌%◌, ◌<◌, ◌≤◌, ◌==◌, ◌⊎◌, ⊎_elim, inl, inr, false, List}
use Rattle.std.proofs.Common.{[], ◌∷◌, length, get_or, take, Option, Some, None, slice_get, unwrap_or, refl, sym, ap}
use Rattle.std.proofs.Common.{◌∙◌, arith}
use Rattle.std.proofs.Math.Seq.{take-length}
use Rattle.expression_code.proofs.Below.{nat_tests, cases_lt, mul-le, variable_offset, result_offset}
use Rattle.expression_code.proofs.Below.{offsets_from, kind_at, Boolean, declaration_of, declared_words}
use Rattle.expression_code.proofs.Below.{element_bytes, elements_by, FlatVariable, Form, held_words}
use Rattle.expression_code.proofs.Below.{Kind, Label, numbers_in, Param, words_by, words_of, WordType}
use Rattle.std.proofs.lemmas.Option.{same_Some, slice_get_within, slice_get-get_or}
pub use Rattle.expression_code.specs.Layout.{bytes_by, bytes_of, place_of}
use Rattle.expression_code.specs.Below.{SingleWord}

-- A variable's numbers lie in its words.

in_words : (word : WordType) (elements : Option ℕ) (i : ℕ) → i < numbers_in elements
    → bytes_by word.kind elements * i + bytes_by word.kind elements ≤ 4 * words_by word elements
in_words word None i below = omega arith
in_words word (Some size) i below = scaled word.kind
  where
    scaled : (kind : Kind) → element_bytes kind * i + element_bytes kind ≤ 4 * ((size * element_bytes kind + 3) / 4)
    scaled Boolean = omega arith
    scaled kind = omega arith

pub place_within : (declared : List FlatVariable) (x : ℕ) (d : FlatVariable) (i : ℕ) → i < numbers_in d.elements
    → place_of declared x d i + bytes_of d ≤ variable_offset declared x + 4 * words_of d
place_within declared x d i below = omega (arith, in_words d.word d.elements i below)

-- and are aligned
some_times : (kind : Kind) (elements : Option ℕ) (n i : ℕ)
    → (4 * n + bytes_by kind elements * i) % bytes_by kind elements ≡ 0
some_times kind None n i = omega arith
some_times Boolean (Some size) n i = omega arith
some_times kind (Some size) n i = omega arith

pub place_even : (declared : List FlatVariable) (x : ℕ) (d : FlatVariable) (i : ℕ)
    → place_of declared x d i % bytes_of d ≡ 0
place_even declared x d i = some_times d.word.kind d.elements (declared_words (take x declared)) i

-- Variables of lower numbers lie before.

words_before : (declared : List FlatVariable) (x y : ℕ) (d : FlatVariable) → slice_get declared x ≡ Some d → x < y
    → declared_words (take x declared) + words_of d ≤ declared_words (take y declared)
words_before [] x y d is below = absurd (cc)
words_before (e ∷ ds) zero (suc y) d is below = omega (arith, ap words_of (same_Some e d is))
words_before (e ∷ ds) (suc x) (suc y) d is below = omega (arith, words_before ds x y d is (omega arith))
words_before (e ∷ ds) x zero d is below = absurd (omega arith)

-- a variable ends where the result begins, or before
pub ends_before_result : (declared : List FlatVariable) (x : ℕ) (d : FlatVariable) → slice_get declared x ≡ Some d
    → variable_offset declared x + 4 * words_of d ≤ result_offset declared
ends_before_result declared x d is =
    let h = words_before declared x (length declared) d is (slice_get_within declared x d is) in
    omega (arith, h, ap declared_words (take-length declared))

-- of two numbers that differ one is less
pub apart : (x y : ℕ) (P : Type 0) → (y == x) ≡ false → (y < x → P) → (x < y → P) → P
apart x y P other one more =
    ⊎_elim one (λ (least : x ≤ y). more (grind (arith, nat_tests, other, least))) (cases_lt y x)

-- a number of another variable lies before all of a variable's words, or behind them
pub apart_from : (declared : List FlatVariable) (x y : ℕ) (d e : FlatVariable) (j : ℕ) → slice_get declared x ≡ Some d
    → slice_get declared y ≡ Some e → j < numbers_in e.elements → (y == x) ≡ false
    → (place_of declared y e j + bytes_of e ≤ variable_offset declared x)
    ⊎ (variable_offset declared x + 4 * words_of d ≤ place_of declared y e j)
apart_from declared x y d e j is more below other =
    apart x y _ other
    (λ lower. inl (omega (arith, words_before declared y x e more lower, place_within declared y e j below)))
    (λ higher. inr (omega (arith, words_before declared x y d is higher)))

-- so do two numbers of one variable
pub elements_apart : (declared : List FlatVariable) (x : ℕ) (d : FlatVariable) (i j : ℕ) → (j == i) ≡ false
    → (place_of declared x d j + bytes_of d ≤ place_of declared x d i)
    ⊎ (place_of declared x d i + bytes_of d ≤ place_of declared x d j)
elements_apart declared x d i j other =
    let b = bytes_of d in
    apart i j _ other (λ lower. inl (omega (arith, mul-le b (j + 1) b i (omega arith) (omega arith))))
    (λ higher. inr (omega (arith, mul-le b (i + 1) b j (omega arith) (omega arith))))

-- Offsets as they are listed.

pub offsets_count : (low : ℕ) (ds : List FlatVariable) → length (offsets_from low ds) ≡ length ds + 1
offsets_count low [] = refl
offsets_count low (d ∷ ds) = omega (arith, offsets_count (low + 4 * words_of d) ds)

-- where a variable lies, or what comes behind them
offset_at : (low : ℕ) (ds : List FlatVariable) (x e : ℕ) → x < length ds + 1
    → get_or (offsets_from low ds) x e ≡ low + 4 * declared_words (take x ds)
offset_at low [] zero e below = omega arith
offset_at low [] (suc x) e below = absurd (omega arith)
offset_at low (d ∷ ds) zero e below = omega arith
offset_at low (d ∷ ds) (suc x) e below = omega (arith, offset_at (low + 4 * words_of d) ds x e (omega arith))

pub offset_listed : (ds : List FlatVariable) (x e : ℕ) → x < length ds + 1
    → get_or (offsets_from 0 ds) x e ≡ variable_offset ds x
offset_listed ds x e below = omega (arith, offset_at 0 ds x e below)

-- as it is looked up
pub offset_found : (ds : List FlatVariable) (x : ℕ) → x < length ds
    → unwrap_or (slice_get (offsets_from 0 ds) x) 0 ≡ variable_offset ds x
offset_found ds x below =
    ap (λ (o : Option ℕ). unwrap_or o 0)
    (slice_get-get_or (offsets_from 0 ds) x 0 (omega (arith, below, offsets_count 0 ds)))
    ∙ offset_listed ds x 0 (omega arith)

pub end_listed : (ds : List FlatVariable) (e : ℕ) → get_or (offsets_from 0 ds) (length ds) e ≡ result_offset ds
end_listed ds e = offset_listed ds (length ds) e (omega arith)
    ∙ ap (λ (front : List FlatVariable). 4 * declared_words front) (take-length ds)

-- the kind of a variable that is declared
pub kind_known : (declared : List FlatVariable) (x : ℕ) (d : FlatVariable) → slice_get declared x ≡ Some d
    → kind_at declared x ≡ d.word.kind
kind_known [] x d is = absurd (cc)
kind_known (d ∷ ds) zero e is = ap (λ (v : FlatVariable). v.word.kind) (same_Some d e is)
kind_known (d ∷ ds) (suc x) e is = kind_known ds x e is

pub kind_listed : (ds : List FlatVariable) (x : ℕ) (e : FlatVariable) → x < length ds
    → (get_or ds x e).word.kind ≡ kind_at ds x
kind_listed ds x e below = sym (kind_known ds x (get_or ds x e) (slice_get-get_or ds x e below))

-- The parameters' slots, one after the other.

words_held : (form : Form) (kind : Kind) (label : Label) (n : ℕ)
    → held_words form kind n ≡ words_by (record { kind = kind; label = label }) (elements_by form n)
words_held SingleWord kind label n = refl
words_held form kind label n = refl

pub parameter_words : (p : Param) → held_words p.form p.kind p.length ≡ words_of (declaration_of p)
parameter_words p = words_held p.form p.kind p.label p.length
