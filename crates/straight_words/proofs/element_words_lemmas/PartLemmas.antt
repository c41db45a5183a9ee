-- Which arrays become words, and which words these are.
use Rattle.std.proofs.Common.{◌≡◌, ℕ, zero, suc, ◌+◌, ◌-◌, ◌≤◌, ◌<◌, true, List, [], ◌∷◌}
use Rattle.std.proofs.Common.{◌++◌, map, length, replicate, Option, None, Some, slice_get, inl, inr, refl, sym, ap, ap₂}
use Rattle.std.proofs.Common.{◌∙◌, subst, append_assoc, arith}
use Rattle.std.specs.Prelude.{nat_le}
use Rattle.std.proofs.lemmas.Bool.{cases_lt, cond_both, leb-true}
use Rattle.std.proofs.lemmas.List.{length-replicate, length-append}
use Rattle.std.proofs.lemmas.Option.{cond_some, none-some, same_Some}
use Rattle.straight_words.specs.Below.{FlatVariable, word_as, WordType}
use Rattle.straight_words.specs.declared.element_words.parts.SplitArray.{SplitArray}
use Rattle.straight_words.specs.element_words.Limits.{most_elements_split}
use Rattle.straight_words.specs.element_words.private.Parts.{Parts, part_of, whole, part_at, sized, candidate, candidates}
use Rattle.straight_words.specs.element_words.private.Parts.{numbered, all_words}

-- An array that stays whole.

pub whole_same : (parts : Parts) (x y : ℕ) (part : SplitArray) → part_of (whole parts x) y ≡ Some part
    → part_of parts y ≡ Some part
whole_same [] x y part is = is
whole_same (p ∷ parts) zero zero part is = absurd (none-some part is)
whole_same (p ∷ parts) zero (suc y) part is = is
whole_same (p ∷ parts) (suc x) zero part is = is
whole_same (p ∷ parts) (suc x) (suc y) part is = whole_same parts x y part is

pub whole_none : (parts : Parts) (x : ℕ) (part : SplitArray) → part_of (whole parts x) x ≡ Some part → ⊥
whole_none [] x part is = none-some part is
whole_none (p ∷ parts) zero part is = none-some part is
whole_none (p ∷ parts) (suc x) part is = whole_none parts x part is

-- an array that becomes words here becomes as many there
pub record IsFound (parts : Parts) (x : ℕ) (part : SplitArray) : Type 0 where
  pub other : SplitArray
  pub there : part_of parts x ≡ Some other
  pub size : part.size ≡ other.size

abbrev pub IsBelow : Parts → Parts → Type 0
IsBelow less more = (x : ℕ) (part : SplitArray) → part_of less x ≡ Some part → IsFound more x part

pub below_itself : {parts : Parts} → IsBelow parts parts
below_itself x part is = record { other = part; there = is; size = refl }

-- Candidates.

-- an array of so many elements
pub record IsArray (declared : List FlatVariable) (x : ℕ) (part : SplitArray) : Type 0 where
  pub listed : FlatVariable
  pub known : slice_get declared x ≡ Some listed
  pub size : listed.elements ≡ Some part.size

-- so where it becomes words of another number
pub found_array : (declared : List FlatVariable) {parts : Parts} (x : ℕ) (part : SplitArray)
    (found : IsFound parts x part)
    → IsArray declared x found.other → IsArray declared x part
found_array declared x part found array =
    record { listed = array.listed; known = array.known; size = array.size ∙ ap Some (sym found.size) }

sized_as : (word : WordType) (elements : Option ℕ) (part : SplitArray) → sized word elements ≡ Some part
    → elements ≡ Some part.size
sized_as word None part is = absurd (none-some part is)
sized_as word (Some size) part is =
    ap (λ (p : SplitArray). Some p.size) (cond_some (nat_le size most_elements_split) (part_at 0 size word) part is).1

candidate_array : (declared : List FlatVariable) (x : ℕ) (part : SplitArray) → part_of
    (map candidate declared) x ≡ Some part
    → IsArray declared x part
candidate_array [] x part is = absurd (none-some part is)
candidate_array (d ∷ ds) zero part is =
    record { listed = d; known = refl; size = sized_as d.word d.elements part is }
candidate_array (d ∷ ds) (suc x) part is =
    let array = candidate_array ds x part is in
    record { listed = array.listed; known = array.known; size = array.size }

no_candidate : (n x : ℕ) (part : SplitArray) → part_of (replicate n None ++ []) x ≡ Some part → ⊥
no_candidate zero x part is = none-some part is
no_candidate (suc n) zero part is = none-some part is
no_candidate (suc n) (suc x) part is = no_candidate n x part is

pub candidate_is : (parameters : ℕ) (declared : List FlatVariable) (x : ℕ) (part : SplitArray)
    → part_of (candidates parameters declared) x ≡ Some part
    → (parameters ≤ x) × IsArray declared x part
candidate_is zero declared x part is = (omega arith, candidate_array declared x part is)
candidate_is (suc n) declared zero part is = absurd (none-some part is)
candidate_is (suc n) [] (suc x) part is = absurd (no_candidate n x part is)
candidate_is (suc n) (d ∷ ds) (suc x) part is =
    let found = candidate_is n ds x part is in
    (omega (arith, found.0), record { listed = found.1.listed; known = found.1.known; size = found.1.size })

-- Words.

get_behind : (xs ys : List FlatVariable) (n i y : ℕ) → length xs ≡ n → y ≡ n + i
    → slice_get (xs ++ ys) y ≡ slice_get ys i
get_behind [] ys n i y long place =
    let same : y ≡ i = omega arith in
    ap (slice_get ys) same
get_behind (x ∷ xs) ys n i zero long place = absurd (omega arith)
get_behind (x ∷ xs) ys n i (suc y) long place = get_behind xs ys (length xs) i y refl (omega arith)

get_same : (n i : ℕ) (d : FlatVariable) (rest : List FlatVariable) → i < n
    → slice_get (replicate n d ++ rest) i ≡ Some d
get_same zero i d rest below = absurd (omega arith)
get_same (suc n) zero d rest below = refl
get_same (suc n) (suc i) d rest below = get_same n i d rest (omega arith)

-- arrays that get words from this number on, as long as there is room for so many
pub data AreNumbered : ℕ → ℕ → Parts → Parts → Type 0 where
  no_parts : {base room : ℕ} → AreNumbered base room [] []
  stays_whole : {base room : ℕ} {part : Option SplitArray} {parts made : Parts} → AreNumbered base room parts made
      → AreNumbered base room (part ∷ parts) (None ∷ made)
  gets_words : {base room : ℕ} {part : SplitArray} {parts made : Parts} → part.size ≤ room
      → AreNumbered (base + part.size) (room - part.size) parts made
      → AreNumbered base room (Some part ∷ parts) (Some (part_at base part.size part.word) ∷ made)

pub are_numbered : (base room : ℕ) (parts : Parts) → AreNumbered base room parts (numbered base room parts)
are_numbered base room [] = no_parts
are_numbered base room (None ∷ parts) = stays_whole (are_numbered base room parts)
are_numbered base room (Some part ∷ parts) =
    cond_both (nat_le part.size room)
    (Some (part_at base part.size part.word) ∷ numbered (base + part.size) (room - part.size) parts)
    (None ∷ numbered base room parts) (AreNumbered base room (Some part ∷ parts))
    (λ fits. gets_words (leb-true part.size room fits) (are_numbered (base + part.size) (room - part.size) parts))
    (λ full. stays_whole (are_numbered base room parts))

-- an array that becomes words, the first from this number on
pub record IsMade (base : ℕ) (parts made : Parts) (x : ℕ) (part : SplitArray) : Type 0 where
  pub found : IsFound parts x part
  pub from : base ≤ part.base
  pub words : (front : List FlatVariable) (i y : ℕ) → length front ≡ base → i < part.size → y ≡ part.base + i
      → slice_get (front ++ all_words made) y ≡ Some (word_as part.word true)

found_next : {parts : Parts} {x : ℕ} {part : SplitArray} (p : Option SplitArray) → IsFound parts x part
    → IsFound (p ∷ parts) (suc x) part
found_next p found = record { other = found.other; there = found.there; size = found.size }

pub made : {base room : ℕ} {parts those : Parts} → AreNumbered base room parts those → (x : ℕ) (part : SplitArray)
    → part_of those x ≡ Some part → IsMade base parts those x part
made no_parts x part is = absurd (none-some part is)
made (stays_whole rest) zero part is = absurd (none-some part is)
made (stays_whole {part = p} rest) (suc x) part is =
    let later = made rest x part is in
    record { found = found_next p later.found; from = later.from; words = later.words }
made (gets_words {base = base} {part = p} {parts = parts} {made = more} fits rest) zero part is =
    let those = Some (part_at base p.size p.word) ∷ more in
    subst (IsMade base (Some p ∷ parts) those zero) (same_Some _ part is)
    record {
      found = record { other = p; there = refl; size = refl };
      from = omega arith;
      words = λ front i y long below place.
          get_behind front (all_words those) base i y long place ∙ get_same p.size i (word_as p.word true) _ below;
    }
made (gets_words {base = base} {part = p} {made = more} fits rest) (suc x) part is =
    let later = made rest x part is in
    let words = replicate p.size (word_as p.word true) in
    record {
      found = found_next (Some p) later.found;
      from = omega arith;
      words = λ front i y long below place.
          subst (λ xs. slice_get xs y ≡ Some (word_as part.word true)) (append_assoc front words (all_words more))
          (later.words (front ++ words) i y
          (length-append front words ∙ ap₂ (λ a b. a + b) long (length-replicate p.size (word_as p.word true)))
          below place);
    }

-- the words of one array lie before those of a later one
ordered : {base room : ℕ} {parts those : Parts} → AreNumbered base room parts those → (x y : ℕ)
    (part other : SplitArray)
    → part_of those x ≡ Some part → part_of those y ≡ Some other → x < y → part.base + part.size ≤ other.base
ordered no_parts x y part other is also before = absurd (none-some part is)
ordered all x zero part other is also before = absurd (omega arith)
ordered (stays_whole rest) zero (suc y) part other is also before = absurd (none-some part is)
ordered (gets_words fits rest) zero (suc y) part other is also before =
    omega (arith, ap (λ (q : SplitArray). q.base + q.size) (same_Some _ part is), (made rest y other also).from)
ordered (stays_whole rest) (suc x) (suc y) part other is also before =
    ordered rest x y part other is also (omega arith)
ordered (gets_words fits rest) (suc x) (suc y) part other is also before =
    ordered rest x y part other is also (omega arith)

-- How the arrays of some variables become words behind them.
pub record IsSplitting (declared new : List FlatVariable) (parts : Parts) : Type 0 where
  pub arrays : (x : ℕ) (part : SplitArray) → part_of parts x ≡ Some part → IsArray declared x part
  pub words : (x : ℕ) (part : SplitArray) (i : ℕ) → part_of parts x ≡ Some part → i < part.size
      → slice_get new (part.base + i) ≡ Some (word_as part.word true)
  pub behind : (x : ℕ) (part : SplitArray) → part_of parts x ≡ Some part → length declared ≤ part.base
  -- no two arrays share a word
  pub apart : (x y : ℕ) (part other : SplitArray) (i j : ℕ) → part_of parts x ≡ Some part → part_of parts y ≡ Some other
      → i < part.size → j < other.size → part.base + i ≡ other.base + j → x ≡ y

-- two arrays with a word in common are one
apart_by : {base room : ℕ} {parts those : Parts} → AreNumbered base room parts those → (x y : ℕ)
    (part other : SplitArray)
    (i j : ℕ) → part_of those x ≡ Some part → part_of those y ≡ Some other → i < part.size → j < other.size
    → part.base + i ≡ other.base + j → x ≡ y
apart_by all x y part other i j is also below within same =
    elim (cases_lt x y) [
      | inl before ↦ absurd (omega (arith, ordered all x y part other is also before))
      | inr from ↦ elim (cases_lt y x) [
        | inl behind ↦ absurd (omega (arith, ordered all y x other part also is behind))
        | inr to ↦ omega (arith, from)
      ]
    ]

pub splitting : (declared : List FlatVariable) (room : ℕ) (parts : Parts)
    → ((x : ℕ) (part : SplitArray) → part_of parts x ≡ Some part → IsArray declared x part)
    → IsSplitting declared (declared ++ all_words (numbered (length declared) room parts))
    (numbered (length declared) room parts)
splitting declared room parts arrays =
    let all = are_numbered (length declared) room parts in
    record {
      arrays = λ x part is.
          let found = (made all x part is).found in
          found_array declared x part found (arrays x found.other found.there);
      words = λ x part i is below. (made all x part is).words declared i (part.base + i) refl below refl;
      behind = λ x part is. (made all x part is).from;
      apart = λ x y part other i j is also below within same.
          apart_by all x y part other i j is also below within same;
    }
