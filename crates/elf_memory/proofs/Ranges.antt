-- The bytes of ranges, one range after another.
use Rattle.std.specs.Prelude.{is_some, slice_get}
use Rattle.std.proofs.Common.{◌≡◌, ◌<◌, ◌≤◌, ◌+◌, ◌-◌, ◌∙◌, [], ◌∷◌, ℕ, suc, zero, List, ap, ap₂, arith, drop, get_or}
use Rattle.std.proofs.Common.{length, map, None, Option, refl, Some, sym, inl, inr}
use Rattle.std.specs.Option.{option_or}
use Rattle.std.proofs.lemmas.Bool.{cases_lt, le-leb, lt-leb, le-ltb, lt-ltb}
use Rattle.std.proofs.lemmas.List.{drop_more}
use Rattle.std.proofs.lemmas.Option.{slice_get-get_or}
use Rattle.elf_memory.specs.Below.{ByteMap, first_of, loaded_bytes}
use Rattle.elf_memory.specs.declared.memory_range.MemoryRange.{MemoryRange}
use Rattle.elf_memory.specs.Memory.{range_of, RangeState}
use Rattle.elf_memory.specs.Ranges.{item_at, item_for}

item_is : (address a : ℕ) (items : List ℕ) → loaded_bytes address (length items) items a ≡ item_for a address items
item_is address a items = elim (cases_lt a address) [
  | inl low ↦ rw (lt-leb address a low) refl
  | inr from ↦ elim (cases_lt a (address + length items)) [
    | inl inside ↦
        rw (
          le-leb address a from,
          lt-ltb a (address + length items) inside,
          slice_get-get_or items (a - address) 0 (omega arith),
        ) refl
    | inr behind ↦
        rw (le-leb address a from, le-ltb a (address + length items) behind, none_behind items (a - address) (omega arith))
        refl
  ]
]
  where
    none_behind : (items : List ℕ) (i : ℕ) → length items ≤ i → slice_get items i ≡ None
    none_behind [] i le = refl
    none_behind (x ∷ items) zero le = absurd (omega (arith, le))
    none_behind (x ∷ items) (suc i) le = none_behind items i (omega (arith, le))

or_is_first : (one other : Option ℕ) → first_of one other ≡ option_or one other
or_is_first None other = refl
or_is_first (Some byte) other = refl

-- one range more, in front
pub item_more : (items : RangeState → List ℕ) (ranges : List MemoryRange) (k next : ℕ) (range : MemoryRange)
    (old new : ByteMap) (size a : ℕ) → next ≡ k + 1 → k < length ranges → range ≡ get_or ranges k range
    → size ≡ length (items (range_of range))
    → new a ≡ first_of (old a) (loaded_bytes range.address size (items (range_of range)) a)
    → old a ≡ item_at items (map range_of (drop next ranges)) a
    → new a ≡ item_at items (map range_of (drop k ranges)) a
item_more items ranges k next range old new size a behind lt is count more earlier =
    let before = earlier ∙ ap (λ n. item_at items (map range_of (drop n ranges)) a) behind in
    let rest = item_at items (map range_of (drop (k + 1) ranges)) a in
    let left : item_at items (map range_of (drop k ranges)) a
    ≡ option_or rest (item_for a range.address (items (range_of range))) =
    ap (λ (rs : List MemoryRange). item_at items (map range_of rs) a) (drop_more ranges k range lt)
    ∙ ap (λ (r : MemoryRange). option_or rest (item_for a r.address (items (range_of r)))) (sym is) in
    more
    ∙ or_is_first (old a) (loaded_bytes range.address size (items (range_of range)) a)
    ∙ ap₂ option_or before
    (ap (λ n. loaded_bytes range.address n (items (range_of range)) a) count
    ∙ item_is range.address a (items (range_of range)))
    ∙ sym left

-- the bytes and the masks are at the same addresses
same_places : (xs ys : List ℕ) (i : ℕ) → length xs ≡ length ys → is_some (slice_get xs i) ≡ is_some (slice_get ys i)
same_places [] [] i same = refl
same_places [] (y ∷ ys) i same = absurd (omega (arith, same))
same_places (x ∷ xs) [] i same = absurd (omega (arith, same))
same_places (x ∷ xs) (y ∷ ys) zero same = refl
same_places (x ∷ xs) (y ∷ ys) (suc i) same = same_places xs ys i (omega (arith, same))

either_there : (a b c d : Option ℕ) → is_some a ≡ is_some c → is_some b ≡ is_some d
    → is_some (option_or a b) ≡ is_some (option_or c d)
either_there None b None d first second = second
either_there None b (Some y) d first second = cc
either_there (Some x) b None d first second = cc
either_there (Some x) b (Some y) d first second = refl

one_there : (range : MemoryRange) (a : ℕ)
    → is_some (item_for a range.address range.unknown.items) ≡ is_some (item_for a range.address range.bytes.items)
one_there range a = elim (cases_lt a range.address) [
  | inl low ↦ rw (lt-leb range.address a low) refl
  | inr from ↦
      rw (le-leb range.address a from)
      (same_places range.unknown.items range.bytes.items (a - range.address) (omega (arith, range.masked)))
]

pub marks_there : (ranges : List MemoryRange) (a : ℕ)
    → is_some (item_at (λ range. range.unknown) (map range_of ranges) a)
    ≡ is_some (item_at (λ range. range.bytes) (map range_of ranges) a)
marks_there [] a = refl
marks_there (range ∷ ranges) a = either_there _ _ _ _ (marks_there ranges a) (one_there range a)
