-- The homes and mirrors of optimised code fit its program, whichever words are chosen.
use Rattle.std.proofs.Common.{◌≡◌, ℕ, zero, suc, ◌+◌, ◌<◌, ◌≤◌, ◌&&◌, Bool, true, false, cond, nat_lt, List, [], ◌∷◌}
use Rattle.std.proofs.Common.{drop, length, length-append, Option, None, Some, slice_get, take, unwrap_or, refl, ap}
use Rattle.std.proofs.Common.{sym, ◌∙◌, ◌-◌, ◌⊎◌, inl, inr, arith}
use Rattle.std.proofs.lemmas.Bool.{ltb-true, ltb-false}
use Rattle.codegen.proofs.Choices.{of_choice}
use Rattle.codegen.proofs.Language.{FlatVariable, StraightProgram}
use Rattle.codegen.proofs.Logic.{nat_tests, none-some, same_Some}
use Rattle.codegen.proofs.Machine.{home_count, home_of, IsFitting}
use Rattle.codegen.specs.private.Generated.{mirror_count}
use Rattle.expression_code.specs.declared.allocation.Mirror.{Mirror}
use Rattle.expression_code.specs.Allocation.{IsAllocation, mirror_if, mirror_of}
use Rattle.expression_code.proofs.WorkRegisters.{when_some}
use Rattle.codegen.proofs.ReadControls.{all_read_kept}
use Rattle.codegen.proofs.WeightLengths.{mirror_weights_length, word_weights_length}
use Rattle.codegen.specs.private.Homes.{all_weights_of, gets_home, home_after, home_at, homes_from, is_chosen}
use Rattle.codegen.specs.private.Homes.{is_no_array, is_wanted, is_word, mirror_in, mirrors_from, register_at}
use Rattle.codegen.specs.private.Homes.{registers_behind, temporary_registers, word_homes}
use Rattle.codegen.specs.private.MirrorUses.{mirror_kind, mirror_weights_of, Uses, uses_of}
use Rattle.codegen.specs.private.Uses.{word_weights_of}

left_by : (wanted : Bool) (n : ℕ) → (wanted && nat_lt n 28) ≡ true → n < 28
left_by true n h = grind (arith, nat_tests, h)
left_by false n h = absurd cc

-- a home that is given is the register of the next number
some_at : (start : ℕ) (wanted : Bool) (n home : ℕ) → home_at start wanted n ≡ Some home
    → (home ≡ register_at start n) × (home_after wanted n ≡ n + 1) × (n < 28)
some_at start wanted n home is =
    let both = when_some (gets_home wanted n) (Some (register_at start n)) home is in (
      sym (same_Some (register_at start n) home both.1),
      ap (λ b. cond b (n + 1) n) both.0,
      left_by wanted n both.0,
    )

after_least : (wanted : Bool) (n : ℕ) → n ≤ home_after wanted n
after_least wanted n = of_choice (λ m. n ≤ m) (gets_home wanted n) (omega arith) (omega arith)

-- The registers in the order in which they are given.

module _ (start : ℕ) (behind : 8 ≤ start) where
  -- one behind x9, or one that comes last
  abbrev IsGiven : ℕ → ℕ → Type 0
  IsGiven n r = ((r ≡ n + (10 - start)) × (r < 28)) ⊎ ((r ≡ n - 18) × (28 ≤ n + (10 - start)))

  is_given : (n : ℕ) → IsGiven n (register_at start n)
  is_given n = by_test (nat_lt (n + (10 - start)) 28) refl
    where
      by_test : (b : Bool) → nat_lt (n + (10 - start)) 28 ≡ b → IsGiven n (cond b (n + (10 - start)) (n - 18))
      by_test true e = inl (refl, ltb-true (n + (10 - start)) 28 e)
      by_test false e = inr (refl, ltb-false (n + (10 - start)) 28 e)

  register_within : (n : ℕ) → start ≤ n → n < 28 → (start ≤ register_at start n) × (register_at start n < 28)
  register_within n least most =
      elim (is_given n) [
        | inl later ↦ (omega (arith, behind, least, later.0), later.1)
        | inr last ↦ (omega (arith, behind, least, most, last.0, last.1), omega (arith, most, last.0))
      ]

  register_alone : (n m : ℕ) → start ≤ n → n < 28 → start ≤ m → m < 28 → register_at start n ≡ register_at start m
      → n ≡ m
  register_alone n m least most least' most' same =
      elim (is_given n) [
        | inl one ↦ elim (is_given m) [
          | inl other ↦ omega (arith, one.0, other.0, same)
          | inr other ↦ absurd (omega (arith, behind, least, most', one.0, other.0, other.1, same))
        ]
        | inr one ↦ elim (is_given m) [
          | inl other ↦ absurd (omega (arith, behind, least', most, one.0, one.1, other.0, same))
          | inr other ↦ omega (arith, behind, least, least', one.0, one.1, other.0, other.1, same)
        ]
      ]

-- a register is that of a number from n on
record IsOfNumber (start n home : ℕ) : Type 0 where
  number : ℕ
  least : n ≤ number
  below : number < 28
  is : home ≡ register_at start number

-- of the word i and those behind it, so many, the first of them that of the number n
module _ (start : ℕ) (wanted : ℕ → Bool) where
  allowed : (count i n x home : ℕ) → home_of (homes_from start wanted i n count) x ≡ Some home
      → IsOfNumber start n home
  allowed zero i n x home is = absurd (none-some home is)
  allowed (suc count) i n zero home is =
      let here = some_at start (wanted i) n home is in
      record { number = n; least = omega arith; below = here.2; is = here.0 }
  allowed (suc count) i n (suc x) home is =
      let rest = allowed count (i + 1) (home_after (wanted i) n) x home is in
      record {
        number = rest.number;
        least = omega (arith, rest.least, after_least (wanted i) n);
        below = rest.below;
        is = rest.is;
      }

  apart : 8 ≤ start → (count i n x y home : ℕ) → start ≤ n
      → home_of (homes_from start wanted i n count) x ≡ Some home
      → home_of (homes_from start wanted i n count) y ≡ Some home → x ≡ y
  apart behind zero i n x y home least is other = absurd (none-some home is)
  apart behind (suc count) i n zero zero home least is other = refl
  apart behind (suc count) i n zero (suc y) home least is other =
      let here = some_at start (wanted i) n home is in
      let rest = allowed count (i + 1) (home_after (wanted i) n) y home other in
      let same = register_alone start behind n rest.number least here.2 (omega (arith, least, here.1, rest.least))
      rest.below (sym here.0 ∙ rest.is) in
      absurd (omega (arith, here.1, rest.least, same))
  apart behind (suc count) i n (suc x) zero home least is other =
      let here = some_at start (wanted i) n home other in
      let rest = allowed count (i + 1) (home_after (wanted i) n) x home is in
      let same = register_alone start behind n rest.number least here.2 (omega (arith, least, here.1, rest.least))
      rest.below (sym here.0 ∙ rest.is) in
      absurd (omega (arith, here.1, rest.least, same))
  apart behind (suc count) i n (suc x) (suc y) home least is other =
      ap suc (apart behind count (i + 1) (home_after (wanted i) n) x y home
      (omega (arith, least, after_least (wanted i) n)) is other)

  -- what is not wanted has none
  unwanted : (count i n x : ℕ) → wanted (i + x) ≡ false → home_of (homes_from start wanted i n count) x ≡ None
  unwanted zero i n x not = refl
  unwanted (suc count) i n zero not =
      let here : i ≡ i + 0 = omega arith in
      ap (λ b. home_at start b n) (ap wanted here ∙ not)
  unwanted (suc count) i n (suc x) not =
      let next : i + 1 + x ≡ i + suc x = omega arith in
      unwanted count (i + 1) (home_after (wanted i) n) x (ap wanted next ∙ not)

  lengths : (count i n : ℕ) → length (homes_from start wanted i n count) ≡ count
  lengths zero i n = refl
  lengths (suc count) i n = ap suc (lengths count (i + 1) (home_after (wanted i) n))

  counts : (count i n : ℕ) → n ≤ 28 → home_count (homes_from start wanted i n count) + n ≤ 28
  counts zero i n few = omega (arith, few)
  counts (suc count) i n few =
      by_test (gets_home (wanted i) n) refl (counts count (i + 1) (home_after (wanted i) n))
    where
      by_test : (b : Bool) → gets_home (wanted i) n ≡ b
          → (cond b (n + 1) n ≤ 28 → home_count (homes_from start wanted (i + 1) (cond b (n + 1) n) count)
          + cond b (n + 1) n ≤ 28)
          → home_count (cond b (Some (register_at start n)) None
          ∷ homes_from start wanted (i + 1) (cond b (n + 1) n) count) + n ≤ 28
      by_test true e rest = let less = left_by (wanted i) n e in omega (arith, rest (omega (arith, less)))
      by_test false e rest = rest few

-- no home is wanted for an array
array_unwanted : (next : ℕ) (declared : List FlatVariable) (weights : List ℕ) (x : ℕ) (d : FlatVariable) (size : ℕ)
    → slice_get declared x ≡ Some d → d.elements ≡ Some size → is_wanted next declared weights x ≡ false
array_unwanted next declared weights x d size known array =
    ap (λ (o : Option FlatVariable). is_no_array o && is_chosen next weights x) known
    ∙ ap (λ (elements : Option ℕ). is_word elements && is_chosen next weights x) array

-- there is a register or none for each word, and for the mirror of each variable
pub registers_length : (first : ℕ) (p : StraightProgram)
    → length (registers_behind first p) ≡ length (word_weights_of p) + length p.declared
registers_length first p =
    let weights = all_weights_of p in
    omega (
      arith,
      lengths first (is_wanted first p.declared weights) (length weights) 0 first,
      length-append (word_weights_of p) (mirror_weights_of p),
      mirror_weights_length p,
    )

-- The first registers, and those behind them.

within_there : (registers : List (Option ℕ)) (x home : ℕ) → home_of registers x ≡ Some home → x < length registers
within_there [] x home is = absurd (none-some home is)
within_there (register ∷ registers) zero home is = omega arith
within_there (register ∷ registers) (suc x) home is = omega (arith, within_there registers x home is)

among_first : (k : ℕ) (registers : List (Option ℕ)) (x home : ℕ) → home_of (take k registers) x ≡ Some home
    → (home_of registers x ≡ Some home) × (x < k)
among_first zero registers x home is = absurd (none-some home is)
among_first (suc k) [] x home is = absurd (none-some home is)
among_first (suc k) (register ∷ registers) zero home is = (is, omega arith)
among_first (suc k) (register ∷ registers) (suc x) home is =
    let rest = among_first k registers x home is in
    (rest.0, omega (arith, rest.1))

none_among_first : (k : ℕ) (registers : List (Option ℕ)) (x : ℕ) → home_of registers x ≡ None
    → home_of (take k registers) x ≡ None
none_among_first zero registers x is = refl
none_among_first (suc k) [] x is = refl
none_among_first (suc k) (register ∷ registers) zero is = is
none_among_first (suc k) (register ∷ registers) (suc x) is = none_among_first k registers x is

behind_first : (k : ℕ) (registers : List (Option ℕ)) (x : ℕ)
    → home_of (drop k registers) x ≡ home_of registers (k + x)
behind_first zero registers x =
    let here : x ≡ 0 + x = omega arith in
    ap (home_of registers) here
behind_first (suc k) [] x = refl
behind_first (suc k) (register ∷ registers) x =
    let next : suc (k + x) ≡ suc k + x = omega arith in
    behind_first k registers x ∙ ap (home_of (register ∷ registers)) next

length_first : (k : ℕ) (registers : List (Option ℕ)) → length (take k registers) ≤ k
length_first zero registers = omega arith
length_first (suc k) [] = omega arith
length_first (suc k) (register ∷ registers) = omega (arith, length_first k registers)

count_parts : (k : ℕ) (registers : List (Option ℕ))
    → home_count (take k registers) + home_count (drop k registers) ≡ home_count registers
count_parts zero registers = omega arith
count_parts (suc k) [] = omega arith
count_parts (suc k) (None ∷ registers) = count_parts k registers
count_parts (suc k) (Some register ∷ registers) = omega (arith, count_parts k registers)

-- Mirrors in registers.
module _ (uses : Uses) where
  mirror_register : (x : ℕ) (register : Option ℕ) (mirror : Mirror) → mirror_in uses x register ≡ Some mirror
      → register ≡ Some mirror.register
  mirror_register x None mirror is = absurd (none-some mirror is)
  mirror_register x (Some register) mirror is =
      ap (λ (m : Mirror). Some m.register)
      (same_Some (record { register = register; kind = mirror_kind uses x }) mirror is)

  mirror_there : (x : ℕ) (registers : List (Option ℕ)) (y : ℕ) (mirror : Mirror)
      → unwrap_or (slice_get (mirrors_from uses x registers) y) None ≡ Some mirror
      → home_of registers y ≡ Some mirror.register
  mirror_there x [] y mirror is = absurd (none-some mirror is)
  mirror_there x (register ∷ registers) zero mirror is = mirror_register x register mirror is
  mirror_there x (register ∷ registers) (suc y) mirror is = mirror_there (x + 1) registers y mirror is

  mirrors_count : (x : ℕ) (registers : List (Option ℕ))
      → mirror_count (mirrors_from uses x registers) ≡ home_count registers
  mirrors_count x [] = refl
  mirrors_count x (None ∷ registers) = mirrors_count (x + 1) registers
  mirrors_count x (Some register ∷ registers) = ap (λ n. 1 + n) (mirrors_count (x + 1) registers)

mirror_given : (home : Option ℕ) (given : Option Mirror) (mirror : Mirror) → mirror_if home given ≡ Some mirror
    → given ≡ Some mirror
mirror_given None given mirror is = absurd (none-some mirror is)
mirror_given (Some home) given mirror is = is

module _ (p : StraightProgram) where
  abbrev beginning : ℕ
  beginning = 5 + temporary_registers p

  abbrev weights : List ℕ
  weights = all_weights_of p

  abbrev wanted : ℕ → Bool
  wanted = is_wanted beginning p.declared weights

  abbrev words : ℕ
  words = length (word_weights_of p)

  abbrev registers : List (Option ℕ)
  registers = registers_behind beginning p

  home_given : (x home : ℕ) → home_of (word_homes p).homes x ≡ Some home
      → (home_of registers x ≡ Some home) × (x < words)
  home_given x home is = among_first words registers x home is

  mirror_home : (x : ℕ) (mirror : Mirror) → mirror_of (word_homes p) x ≡ Some mirror
      → home_of registers (words + x) ≡ Some mirror.register
  mirror_home x mirror is =
      let given = mirror_given (home_of (word_homes p).homes x) (unwrap_or (slice_get (word_homes p).mirrors x) None)
      mirror is in
      sym (behind_first words registers x) ∙ mirror_there (uses_of p) 0 (drop words registers) x mirror given

  in_range : (x home : ℕ) → home_of registers x ≡ Some home → (beginning ≤ home) × (home < 28)
  in_range x home is =
      let given = allowed beginning wanted (length weights) 0 beginning x home is in
      let within = register_within beginning (omega arith) given.number given.least given.below in
      (omega (arith, given.is, within.0), omega (arith, given.is, within.1))

  one_word : (x y home : ℕ) → home_of registers x ≡ Some home → home_of registers y ≡ Some home → x ≡ y
  one_word x y home is other =
      apart beginning wanted (omega arith) (length weights) 0 beginning x y home (omega arith) is other

  mirror_within : (x : ℕ) (mirror : Mirror) → mirror_of (word_homes p) x ≡ Some mirror → x < length p.declared
  mirror_within x mirror is =
      omega (
        arith,
        within_there registers (words + x) mirror.register (mirror_home x mirror is),
        registers_length beginning p,
      )

  no_array : (x : ℕ) (d : FlatVariable) (size : ℕ) → slice_get p.declared x ≡ Some d → d.elements ≡ Some size
      → home_of (word_homes p).homes x ≡ None
  no_array x d size known is =
      let here : 0 + x ≡ x = omega arith in
      none_among_first words registers x (unwanted beginning wanted (length weights) 0 beginning x
      (ap wanted here ∙ array_unwanted beginning p.declared weights x d size known is))

  word_homes_allocated : IsAllocation p.declared (word_homes p)
  word_homes_allocated = record {
    some = omega arith;
    few = omega arith;
    allowed = λ x home is.
        let h = in_range x home (home_given x home is).0 in
        (omega (arith, h.0), omega (arith, h.1));
    apart = λ x y home is other. one_word x y home (home_given x home is).0 (home_given y home other).0;
    words = no_array;
    mirrored = λ x mirror is.
        let h = in_range (words + x) mirror.register (mirror_home x mirror is) in
        (mirror_within x mirror is, omega (arith, h.0), omega (arith, h.1));
    mirror_apart = λ x y home mirror is other same.
        let there = home_given y home other in
        let one = one_word y (words + x) mirror.register (there.0 ∙ ap Some same) (mirror_home x mirror is) in
        absurd (omega (arith, one, there.1));
    mirrors_apart = λ x y one other is that same.
        let both = one_word (words + x) (words + y) other.register (mirror_home x one is ∙ ap Some same)
        (mirror_home y other that) in
        omega (arith, both);
  }

  pub word_homes_fit : IsFitting p (word_homes p)
  word_homes_fit = record {
    allocated = word_homes_allocated;
    within = omega (arith, length_first words registers, word_weights_length p);
    few =
        omega (
          arith,
          count_parts words registers,
          mirrors_count (uses_of p) 0 (drop words registers),
          counts beginning wanted (length weights) 0 beginning (omega arith),
        );
    read = all_read_kept p;
  }
