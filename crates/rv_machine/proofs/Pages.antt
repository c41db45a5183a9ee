-- Bytes of pages, and of ranges.
use Rattle.std.specs.Prelude.{is_some, slice_get}
use Rattle.std.proofs.Common.{◌≡◌, ℕ, zero, suc, ◌+◌, ◌-◌, ◌^◌, ◌<◌, ◌≤◌, true, List, [], ◌∷◌, ◌++◌, take, get_or}
use Rattle.std.proofs.Common.{drop, length, Option, Some, None, refl, sym, ap, ap₂, ◌∙◌, inl, inr, arith}
use Rattle.std.proofs.Math.ListN.{set}
use Rattle.std.proofs.Math.Path.{fun_ext}
use Rattle.std.proofs.lemmas.Bool.{cases_lt, le-leb, lt-leb, lt-ltb, le-ltb}
use Rattle.std.proofs.lemmas.Option.{get_or_from_slice_get, slice_get_read}
use Rattle.std.proofs.lemmas.List.{take-set}
use Rattle.rv_machine.specs.Bytes.{ByteMap, joined, number_at, with_number, zeros}
use Rattle.rv_machine.specs.Flat.{flat_bytes}
use Rattle.rv_machine.specs.Paged.{zeros_in, first_of, bytes_in}
use Rattle.rv_machine.specs.declared.flat.FlatMemory.{FlatMemory}
use Rattle.rv_machine.specs.declared.paged.AddressRange.{AddressRange}
use Rattle.rv_machine.specs.declared.paged.PagedMemory.{PagedMemory}
use Rattle.rv_machine.proofs.ByteLaws.{number_at_same, is_inside, is_outside, place, with_number_inside}
use Rattle.rv_machine.proofs.ByteLaws.{with_number_outside, some_within}
use Rattle.rv_machine.proofs.Stretch.{above}

-- One byte.

joined-one : (o : Option ℕ) → joined o (Some 0) ≡ o
joined-one (Some b) = ap Some (omega arith)
joined-one None = refl

pub number_at-one : (bytes : ByteMap) (a : ℕ) → number_at bytes 1 a ≡ bytes a
unfolding number_at
number_at-one bytes a = joined-one (bytes a)

-- a byte, and so many above it
pub number_at-parts : (bytes : ByteMap) (count a : ℕ) (low high : Option ℕ) → 1 ≤ count → low ≡ number_at bytes 1 a
    → high ≡ number_at bytes (count - 1) (a + 1) → joined low high ≡ number_at bytes count a
unfolding number_at
number_at-parts bytes zero a low high some is above = absurd (omega arith)
number_at-parts bytes (suc n) a low high some is above =
    ap₂ joined (is ∙ number_at-one bytes a) (above ∙ ap (λ k. number_at bytes k (a + 1)) (omega arith))

-- The first of two bytes.

pub first_of-none : (o : Option ℕ) → first_of o None ≡ o
first_of-none (Some b) = refl
first_of-none None = refl

pub first_of-assoc : (o p q : Option ℕ) → first_of o (first_of p q) ≡ first_of (first_of o p) q
first_of-assoc (Some b) p q = refl
first_of-assoc None p q = refl

-- Pages, one after another.

pub bytes_in-append : (pages : List FlatMemory) (page : FlatMemory) (a : ℕ)
    → bytes_in (pages ++ page ∷ []) a ≡ first_of (bytes_in pages a) (flat_bytes page a)
bytes_in-append [] page a = first_of-none (flat_bytes page a)
bytes_in-append (p ∷ pages) page a =
    ap (first_of (flat_bytes p a)) (bytes_in-append pages page a)
    ∙ first_of-assoc (flat_bytes p a) (bytes_in pages a) (flat_bytes page a)

none_before : (o p : Option ℕ) → first_of o p ≡ None → (o ≡ None) × (p ≡ None)
none_before (Some b) p e = cc
none_before None p e = (refl, e)

some_first : (o p : Option ℕ) → is_some o ≡ true → first_of o p ≡ o
some_first (Some b) p e = refl
some_first None p e = cc

-- the first page that has the byte gives it
pub bytes_in-found : (pages : List FlatMemory) (i : ℕ) (page : FlatMemory) (a : ℕ) → slice_get pages i ≡ Some page
    → bytes_in (take i pages) a ≡ None → is_some (flat_bytes page a) ≡ true → bytes_in pages a ≡ flat_bytes page a
bytes_in-found [] i page a at before there = cc
bytes_in-found (p ∷ pages) zero page a at before there =
    let same : p ≡ page = cc in
    rw same (some_first (flat_bytes page a) (bytes_in pages a) there)
bytes_in-found (p ∷ pages) (suc i) page a at before there =
    let parts = none_before (flat_bytes p a) (bytes_in (take i pages) a) before in
    ap (λ o. first_of o (bytes_in pages a)) parts.0 ∙ bytes_in-found pages i page a at parts.1 there

-- the first page, which there is always
pub first_at : (memory : PagedMemory) (page : FlatMemory) → page ≡ get_or memory.pages.items 0 page
    → slice_get memory.pages.items 0 ≡ Some page
first_at memory page read =
    let some : 0 < length memory.pages.items = omega (arith, memory.first, memory.pages.ok.0) in
    slice_get_read memory.pages.items _ _ page refl some read

-- a first page without data has none in front of the others
pub behind_empty : (pages : List FlatMemory) (page : FlatMemory) (a : ℕ) → slice_get pages 0 ≡ Some page
    → flat_bytes page a ≡ None → bytes_in (drop 1 pages) a ≡ bytes_in pages a
behind_empty [] page a at none = cc
behind_empty (p ∷ pages) page a at none =
    let same : p ≡ page = cc in
    sym (ap (λ o. first_of o (bytes_in pages a)) (ap (λ q. flat_bytes q a) same ∙ none))

-- the page that has all bytes of a number, where none before it has one of them
module _ (pages : List FlatMemory) (i : ℕ) (page : FlatMemory) (n a : ℕ) (at : slice_get pages i ≡ Some page)
    (first : (x : ℕ) → a ≤ x → x < a + n → bytes_in (take i pages) x ≡ None)
    (whole : is_some (number_at (flat_bytes page) n a) ≡ true) where
  -- gives the number
  pub number_at-page : number_at (bytes_in pages) n a ≡ number_at (flat_bytes page) n a
  number_at-page =
      number_at_same (flat_bytes page) (bytes_in pages) n a
      (λ x low high. bytes_in-found pages i page x at (first x low high)
      (some_within (flat_bytes page) n a x whole low high))

  -- as it is read
  pub number_at-read : (got : FlatMemory) → got ≡ get_or pages i got
      → number_at (flat_bytes got) n a ≡ number_at (bytes_in pages) n a
  number_at-read got read =
      let same : got ≡ page = read ∙ get_or_from_slice_get pages i page got at in
      ap (λ p. number_at (flat_bytes p) n a) same ∙ sym number_at-page

-- and what is stored there is stored in the whole

set-at : (pages : List FlatMemory) (i : ℕ) (page new : FlatMemory) → slice_get pages i ≡ Some page
    → slice_get (set pages i new) i ≡ Some new
set-at [] i page new at = cc
set-at (p ∷ pages) zero page new at = refl
set-at (p ∷ pages) (suc i) page new at = set-at pages i page new at

set-apart : (pages : List FlatMemory) (i : ℕ) (page new : FlatMemory) (x : ℕ) → slice_get pages i ≡ Some page
    → flat_bytes new x ≡ flat_bytes page x → bytes_in (set pages i new) x ≡ bytes_in pages x
set-apart [] i page new x at same = cc
set-apart (p ∷ pages) zero page new x at same =
    let is : p ≡ page = cc in
    ap (λ o. first_of o (bytes_in pages x)) (same ∙ ap (λ q. flat_bytes q x) (sym is))
set-apart (p ∷ pages) (suc i) page new x at same =
    ap (first_of (flat_bytes p x)) (set-apart pages i page new x at same)

-- a page with the same bytes in its place changes nothing
pub set-same : (pages : List FlatMemory) (i : ℕ) (page new : FlatMemory) → slice_get pages i ≡ Some page
    → flat_bytes new ≡ flat_bytes page → bytes_in (set pages i new) ≡ bytes_in pages
set-same pages i page new at same = fun_ext (λ x. set-apart pages i page new x at (ap (λ (m : ByteMap). m x) same))

pub with_number-page : (pages : List FlatMemory) (i : ℕ) (page new : FlatMemory) (n a v : ℕ)
    → slice_get pages i ≡ Some page → ((x : ℕ) → a ≤ x → x < a + n → bytes_in (take i pages) x ≡ None)
    → flat_bytes new ≡ with_number (flat_bytes page) n a v
    → bytes_in (set pages i new) ≡ with_number (bytes_in pages) n a v
with_number-page pages i page new n a v at first stored = fun_ext (λ x. elim (place a n x) [
  | is_inside is from to ↦
      let put = with_number_inside n a v x from to in
      let now : flat_bytes new x ≡ Some put.0 = ap (λ (m : ByteMap). m x) stored ∙ put.1 (flat_bytes page) in
      bytes_in-found (set pages i new) i new x (set-at pages i page new at)
      (ap (λ ps. bytes_in ps x) (take-set pages i new) ∙ first x from to) (ap is_some now)
      ∙ now ∙ sym (put.1 (bytes_in pages))
  | is_outside is out ↦
      set-apart pages i page new x at (ap (λ (m : ByteMap). m x) stored
      ∙ with_number_outside (flat_bytes page) n a v x out) ∙ sym (with_number_outside (bytes_in pages) n a v x out)
])

-- no byte lies past the greatest address
pub bytes_in-past : (pages : List FlatMemory) (a : ℕ) → 2 ^ 32 ≤ a → bytes_in pages a ≡ None
bytes_in-past [] a past = refl
bytes_in-past (p ∷ pages) a past =
    ap (λ o. first_of o (bytes_in pages a)) (above p.base p.bytes.items a (omega (arith, p.ends)))
    ∙ bytes_in-past pages a past

pub number_at-past : (pages : List FlatMemory) (n a : ℕ) → 0 < n → 2 ^ 32 ≤ a → number_at (bytes_in pages) n a ≡ None
unfolding number_at
number_at-past pages zero a some past = absurd (omega arith)
number_at-past pages (suc n) a some past = rw (bytes_in-past pages a past)

-- Ranges.

-- the zeros of one range
abbrev between : ℕ → ℕ → List AddressRange
between low high = record { begin = low; end = high } ∷ []

-- with a page behind them
pub zeros_in-grown : (low from n a : ℕ) → low ≤ from
    → first_of (zeros_in (between low from) a) (zeros from n a) ≡ zeros_in (between low (from + n)) a
zeros_in-grown low from n a le = elim (cases_lt a low) [
  | inl h ↦ rw (lt-leb low a h, lt-leb from a (omega arith))
  | inr l ↦ elim (cases_lt a from) [
    | inl h ↦ rw (le-leb low a l, lt-ltb a from h, lt-ltb a (from + n) (omega arith))
    | inr m ↦ elim (cases_lt a (from + n)) [
      | inl h ↦ rw (le-leb low a l, le-ltb a from m, le-leb from a m, lt-ltb a (from + n) h)
      | inr h ↦ rw (le-leb low a l, le-ltb a from m, le-leb from a m, le-ltb a (from + n) h)
    ]
  ]
]

-- a page without a byte
pub nothing_more : (bytes : ByteMap) (a : ℕ) → first_of (bytes a) (zeros 0 0 a) ≡ bytes a
nothing_more bytes a = rw (le-ltb a 0 (omega arith), le-leb 0 a (omega arith)) (first_of-none (bytes a))
