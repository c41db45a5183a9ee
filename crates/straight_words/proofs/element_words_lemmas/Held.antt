-- What variables and words hold once some of them are set.
use Rattle.std.proofs.Common.{◌≡◌, ℕ, zero, suc, ◌+◌, ◌<◌, ◌==◌, if◌then◌else◌, List, [], ◌∷◌, length, replicate}
use Rattle.std.proofs.Common.{Option, None, Some, slice_get, slice_set, slice_index, inl, inr, refl, sym, ap, ap₂, ◌∙◌}
use Rattle.std.proofs.Common.{arith}
use Rattle.std.proofs.lemmas.Bool.{cases_eq}
use Rattle.std.proofs.lemmas.List.{get_or-set_other, get_or-set_same, length-set}
use Rattle.std.proofs.lemmas.Option.{none-some, same_Some, slice_get_within}
use Rattle.straight_words.specs.Below.{FlatVariable, Values, with_value}
use Rattle.inline.proofs.Face.{with_value-other, with_value-same}
use Rattle.straight_words.specs.declared.element_words.parts.SplitArray.{SplitArray}
use Rattle.straight_words.specs.element_words.private.Parts.{Parts, part_of}
use Rattle.straight_words.proofs.element_words_lemmas.PartLemmas.{IsSplitting}
use Rattle.straight_words.proofs.element_words_lemmas.Values.{AreAlike}

pub zeros_at : (n i : ℕ) → slice_index (replicate n 0) i ≡ 0
zeros_at zero i = refl
zeros_at (suc n) zero = refl
zeros_at (suc n) (suc i) = zeros_at n i

module _ (declared new : List FlatVariable) (parts : Parts) (is_splitting : IsSplitting declared new parts)
    (at : ℕ → Option FlatVariable)
    (within : (y : ℕ) (d : FlatVariable) → at y ≡ Some d → slice_get declared y ≡ Some d) where
  -- a variable in scope is no word of an array
  pub no_word : (y x : ℕ) (d : FlatVariable) (part : SplitArray) (i : ℕ) → at y ≡ Some d → part_of parts x ≡ Some part
      → y ≡ part.base + i → ⊥
  no_word y x d part i there is same =
      let below = slice_get_within declared y d (within y d there) in
      let behind = is_splitting.behind x part is in
      omega arith

  -- one that stays is none that becomes words
  pub not_split : (x y : ℕ) (part : SplitArray) → part_of parts x ≡ None → part_of parts y ≡ Some part → y ≡ x → ⊥
  not_split x y part none is same = none-some part (sym none ∙ (ap (part_of parts) (sym same) ∙ is))

  -- a variable that stays is set in both
  pub both_set : (m k : Values) (x : ℕ) (d : FlatVariable) (v w : List ℕ) → AreAlike at parts m k → at x ≡ Some d
      → part_of parts x ≡ None → w ≡ v → AreAlike at parts (with_value m x v) (with_value k x w)
  both_set m k x d v w alike there none same = record {
    plain = λ y e at_y stays. ap₂ (λ (a b : List ℕ). if y == x then a else b) same (alike.plain y e at_y stays);
    held = λ y e part at_y is.
        let old = alike.held y e part at_y is in
        rw (with_value-other m x y v (not_split x y part none is)) (record {
          count = old.count;
          each = λ i below.
              with_value-other k x (part.base + i) w (λ e. no_word x y d part i there is (sym e)) ∙ old.each i below;
        });
  }

  -- an array's words are set, and no others
  pub words_set : (m k l : Values) (x : ℕ) (part : SplitArray) (numbers : List ℕ) → AreAlike at parts m k
      → part_of parts x ≡ Some part → length numbers ≡ part.size
      → ((i : ℕ) → i < part.size → l (part.base + i) ≡ slice_index numbers i ∷ [])
      → ((z : ℕ) → ((i : ℕ) → i < part.size → z ≡ part.base + i → ⊥) → l z ≡ k z)
      → AreAlike at parts (with_value m x numbers) l
  words_set m k l x part numbers alike is long each others = record {
    plain = λ y e at_y stays.
        others y (λ i below same. no_word y x e part i at_y is same)
        ∙ (alike.plain y e at_y stays
        ∙ sym (with_value-other m x y numbers (λ same. not_split y x part stays is (sym same))));
    held = λ y e other at_y also.
        elim (cases_eq y x) [
          | inl here ↦
              let one = same_Some part other (sym is ∙ (ap (part_of parts) (sym here) ∙ also)) in
              rw (here, ← one, with_value-same m x numbers) (record { count = long; each = each })
          | inr apart ↦
              let old = alike.held y e other at_y also in
              rw (with_value-other m x y numbers apart) (record {
                count = old.count;
                each = λ j inside.
                    others (other.base + j)
                    (λ i below same. apart (is_splitting.apart y x other part j i also is inside below same))
                    ∙ old.each j inside;
              })
        ];
  }

  -- an element and its word are set
  pub word_set : (m k : Values) (x i v w : ℕ) (d : FlatVariable) (part : SplitArray) → AreAlike at parts m k
      → at x ≡ Some d
      → part_of parts x ≡ Some part → i < part.size → w ≡ v
      → AreAlike at parts (with_value m x (slice_set (m x) i v)) (with_value k (part.base + i) (w ∷ []))
  word_set m k x i v w d part alike there is below same =
      let old = alike.held x d part there is in
      let long : i < length (m x) = omega arith in
      words_set m k (with_value k (part.base + i) (w ∷ [])) x part (slice_set (m x) i v) alike is
      (length-set (m x) i v ∙ old.count)
      (λ j inside. elim (cases_eq j i) [
        | inl here ↦
            rw (here, with_value-same k (part.base + i) (w ∷ []), get_or-set_same (m x) i v 0 long)
            (ap (λ n. n ∷ []) same)
        | inr apart ↦
            rw (
              with_value-other k (part.base + i) (part.base + j) (w ∷ []) (λ e. apart (omega arith)),
              get_or-set_other (m x) i j v 0 apart,
            ) (old.each j inside)
      ])
      (λ z apart. with_value-other k (part.base + i) z (w ∷ []) (λ e. apart i below e))
