-- What becomes words was there before it was seen how arrays are used, and is used by known indices alone.
use Rattle.std.proofs.Common.{◌≡◌, ℕ, ◌+◌, ◌<◌, if◌then◌else◌, List, [], ◌∷◌, Option, None, Some, option_map, refl}
use Rattle.std.proofs.Common.{sym, ap, ◌∙◌}
use Rattle.std.specs.Prelude.{nat_lt}
use Rattle.std.proofs.lemmas.Bool.{ltb-true}
use Rattle.std.proofs.lemmas.Option.{cond_some, none-some}
use Rattle.straight_words.specs.Below.{array, binary, branch, convert, element, first, Kind, nothing, number, prefix, put}
use Rattle.straight_words.specs.Below.{repeats, rotate, select, set, StraightBlock, StraightTree, take, TermTree}
use Rattle.straight_words.specs.declared.element_words.parts.SplitArray.{SplitArray}
use Rattle.straight_words.specs.element_words.private.Parts.{Parts, part_of, whole, known_index, word_in, word_of}
use Rattle.straight_words.specs.element_words.private.Narrowing.{unless_word, narrowed_at, narrowed, all_narrowed}
use Rattle.straight_words.specs.element_words.private.Narrowing.{narrowed_by, narrowed_by_all, narrowed_result}
use Rattle.straight_words.proofs.element_words_lemmas.PartLemmas.{whole_same, whole_none, IsBelow}

-- Known indices.

-- an index is a number below the size
pub data IsKnownIndex (size : ℕ) : TermTree → Type 0 where
  is_number : {value : ℕ} {kind : Kind} → value < size → known_index size (number value kind) ≡ Some value
      → IsKnownIndex size (number value kind)

known_index_is : (size : ℕ) (index : TermTree) (i : ℕ) → known_index size index ≡ Some i
    → IsKnownIndex size index
known_index_is size (number value kind) i is =
    let fits = (cond_some (nat_lt value size) value i is).0 in
    is_number (ltb-true value size fits) (ap (λ b. if b then Some value else None) fits)
known_index_is size index i is = absurd (none-some i is)

-- an array that becomes words has a known index
abbrev pub IsKnown : Option SplitArray → TermTree → Type 0
IsKnown None index = Unit {0}
IsKnown (Some part) index = IsKnownIndex part.size index

known_word : (part : SplitArray) (index : TermTree) (word : ℕ) → word_in (Some part) index ≡ Some word
    → IsKnownIndex part.size index
known_word part index word = by_index (known_index part.size index) refl
  where
    by_index : (o : Option ℕ) → known_index part.size index ≡ o → option_map (λ i. part.base + i) o ≡ Some word
        → IsKnownIndex part.size index
    by_index None same h = absurd (none-some word h)
    by_index (Some i) same h = known_index_is part.size index i same

module _ (last : Parts) where
  still_below : (parts : Parts) (x : ℕ) → IsBelow last (whole parts x) → IsBelow last parts
  still_below parts x below y part is =
      let found = below y part is in
      record {
        other = found.other;
        there = whole_same parts x y found.other found.there;
        size = found.size;
      }

  is_known : (index : TermTree) (o : Option SplitArray) →
      ((part : SplitArray) → o ≡ Some part → IsKnownIndex part.size index)
      → IsKnown o index
  is_known index None each = tt
  is_known index (Some part) each = each part refl

  -- a use of an array that stays whole, or is a word
  pub use_known : (parts : Parts) (x : ℕ) (index : TermTree) → IsBelow last (narrowed_at parts x index)
      → IsBelow last parts × IsKnown (part_of last x) index
  use_known parts x index = by_word (word_of parts x index) refl
    where
      by_word : (o : Option ℕ) → word_of parts x index ≡ o → IsBelow last (unless_word o parts x)
          → IsBelow last parts × IsKnown (part_of last x) index
      by_word None same below = (
        still_below parts x below,
        is_known index (part_of last x)
            (λ part is. let found = below x part is in absurd (whole_none parts x found.other found.there)),
      )
      by_word (Some word) same below = (
        below,
        is_known index (part_of last x)
            (λ part is. let found = below x part is in
            rw found.size (known_word found.other index word
            (ap (λ (o : Option SplitArray). word_in o index) (sym found.there) ∙ same))),
      )

  -- What is there behind code was there before.

  pub before_term : (e : TermTree) (parts : Parts) → IsBelow last (narrowed parts e) → IsBelow last parts
  before_term (prefix operator width operand) parts h = before_term operand parts h
  before_term (binary place operator width left right) parts h =
      before_term left parts (before_term right (narrowed parts left) h)
  before_term (rotate width operand amount) parts h = before_term operand parts h
  before_term (convert kind operand) parts h = before_term operand parts h
  before_term (select condition accepted otherwise) parts h =
      before_term condition parts (before_term accepted (narrowed parts condition)
      (before_term otherwise (narrowed (narrowed parts condition) accepted) h))
  before_term (element place x size index) parts h =
      (use_known parts x index (before_term index (narrowed_at parts x index) h)).0
  before_term e parts h = h

  pub before_terms : (es : List TermTree) (parts : Parts) → IsBelow last (all_narrowed parts es) → IsBelow last parts
  before_terms [] parts h = h
  before_terms (e ∷ es) parts h = before_term e parts (before_terms es (narrowed parts e) h)

  pub before_result : (value : Option TermTree) (parts : Parts) → IsBelow last (narrowed_result parts value)
      → IsBelow last parts
  before_result None parts h = h
  before_result (Some value) parts h = before_term value parts h

  mutual
    pub before : (statement : StraightTree) (parts : Parts) → IsBelow last (narrowed_by parts statement)
        → IsBelow last parts
    before (set within x value) parts h = before_term value parts h
    before (array x size values) parts h = before_terms values parts h
    before (put within place x size index value) parts h =
        let at_index = before_term value (narrowed (narrowed_at parts x index) index) h in
        (use_known parts x index (before_term index (narrowed_at parts x index) at_index)).0
    before (take control within condition) parts h = before_term condition parts h
    before (branch condition accepted otherwise) parts h =
        before_term condition parts (before_all accepted (narrowed parts condition)
        (before_all otherwise (narrowed_by_all (narrowed parts condition) accepted) h))
    before (repeats x low high body) parts h =
        before_term low parts (before_term high (narrowed parts low)
        (before_all body (narrowed (narrowed parts low) high) h))

    pub before_all : (body : StraightBlock) (parts : Parts) → IsBelow last (narrowed_by_all parts body)
        → IsBelow last parts
    before_all nothing parts h = h
    before_all (first statement rest) parts h = before statement parts (before_all rest (narrowed_by parts statement) h)
