-- The words of an image, from its base on, and words that stand among others: they run as they do alone.
use Rattle.std.proofs.Common.{◌≡◌, ℕ, zero, suc, ◌+◌, ◌-◌, ◌*◌, ◌/◌, ◌%◌, ◌^◌, ◌<◌, ◌==◌, ◌&&◌, true}
use Rattle.std.proofs.Common.{nat_le, List, [], ◌∷◌, ◌++◌, length, map, Some, slice_get, refl, sym, ap, ◌∙◌}
use Rattle.std.proofs.Common.{subst, arith, ◌≤◌, length-append, append_assoc, Option}
use Rattle.codegen.proofs.Language.{Profile}
use Rattle.codegen.proofs.Machine.{body_words, Stand, Instr, word_of, Observation, State, MachineCode}
use Rattle.codegen.proofs.Machine.{goes_on, word_at, Step, executes}
use Rattle.codegen.proofs.Logic.{nat_tests, none-some, Placed}
use Rattle.expression_code.proofs.WorkRegisters.{when_some}
use Rattle.expression_code.specs.program_logic.MachineSteps.{LeadsBy, stays_by, steps_by}
use Rattle.codegen.specs.Below.{Event}

-- The words of an image.

slice_at : (before : List ℕ) (w : ℕ) (rest : List ℕ) → slice_get (before ++ w ∷ rest) (length before) ≡ Some w
slice_at [] w rest = refl
slice_at (x ∷ before) w rest = slice_at before w rest

on_word : (base p n : ℕ) → p ≡ base + 4 * n → (nat_le base p && ((p - base) % 4 == 0)) ≡ true
on_word base p n e =
    let low : base ≤ p = omega arith in
    let even : (p - base) % 4 ≡ 0 = omega arith in
    grind (arith, nat_tests)

module _ (profile : Profile) (base : ℕ) (words : List ℕ) where
  word_there : (before rest : List ℕ) (w p : ℕ) → words ≡ before ++ w ∷ rest → p ≡ base + 4 * length before
      → word_at (record { profile = profile; base = base; words = words }) p ≡ Some w
  word_there before rest w p is at =
      let k : (p - base) / 4 ≡ length before = omega arith in
      let there : slice_get words ((p - base) / 4) ≡ Some w = ap (λ i. slice_get words i) k
      ∙ (ap (λ (ws : List ℕ). slice_get ws (length before)) is ∙ slice_at before w rest) in
      rw (on_word base p (length before) at) there

  -- instructions whose words these are, after some others
  pub placed : (before : List ℕ) (is : List Instr) (p : ℕ) → base % 4 ≡ 0 → base + 4 * length words < 2 ^ 32
      → words ≡ before ++ map word_of is → p ≡ base + 4 * length before
      → Placed (record { profile = profile; base = base; words = words }) p is
  placed before [] p even ends all at = tt
  placed before (i ∷ is) p even ends all at =
      let w = word_of i in
      let rest = map word_of is in
      let n : length words ≡ length before + suc (length rest) = ap (λ (ws : List ℕ). length ws) all
      ∙ length-append before (w ∷ rest) in
      let m : length (before ++ w ∷ []) ≡ length before + 1 = length-append before (w ∷ []) in (
        omega arith,
        omega (arith, n),
        word_there before rest w p all at,
        placed (before ++ w ∷ []) is (p + 4) even ends (all ∙ sym (append_assoc before (w ∷ []) rest))
            (omega (arith, m, at)),
      )

-- Words among others.

-- these words and no others, from an address on
abbrev pub words_alone : Profile → ℕ → List ℕ → MachineCode
words_alone profile start words = record { profile = profile; base = start; words = words }

-- the words but the last, where one word is the last
pub body_words_before : (is : List Instr) (last : Instr) → body_words (map word_of (is ++ last ∷ [])) ≡ map word_of is
body_words_before [] last = refl
body_words_before (i ∷ []) last = refl
body_words_before (i ∷ j ∷ is) last = ap (λ (ws : List ℕ). word_of i ∷ ws) (body_words_before (j ∷ is) last)

pub stand_placed : (code : MachineCode) (p : ℕ) (is : List Instr) → Placed code p is → Stand code p (map word_of is)
stand_placed code p [] there = tt
stand_placed code p (i ∷ is) there = (there.0, there.1, there.2, stand_placed code (p + 4) is there.3)

-- standing words end below the last address
stand_ends : (code : MachineCode) (p w : ℕ) (ws : List ℕ) → Stand code p (w ∷ ws) → p + 4 * suc (length ws) < 2 ^ 32
stand_ends code p w [] there = let next = there.1 in omega (arith, next)
stand_ends code p w (v ∷ ws) there = let rest = stand_ends code (p + 4) v ws there.3 in omega (arith, rest)

-- so the instructions have their places in the words alone
pub placed_alone : (profile : Profile) (code : MachineCode) (start : ℕ) (is : List Instr) → Stand code start
    (map word_of is)
    → Placed (words_alone profile start (map word_of is)) start is
placed_alone profile code start [] there = tt
placed_alone profile code start (i ∷ is) there =
    let ends = stand_ends code start (word_of i) (map word_of is) there in
    placed profile start (map word_of (i ∷ is)) [] (i ∷ is) start there.0 (omega (arith, ends)) refl (omega arith)

-- One word.

stand_at : (code : MachineCode) (p : ℕ) (ws : List ℕ) (k w : ℕ) → Stand code p ws → slice_get ws k ≡ Some w
    → word_at code (p + 4 * k) ≡ Some w
stand_at code p [] k w there is = absurd (none-some w is)
stand_at code p (v ∷ ws) zero w there is =
    let e : p ≡ p + 4 * 0 = omega arith in
    subst (λ q. word_at code q ≡ Some w) e (there.2 ∙ is)
stand_at code p (v ∷ ws) (suc k) w there is =
    let e : p + 4 + 4 * k ≡ p + 4 * suc k = omega arith in
    subst (λ q. word_at code q ≡ Some w) e (stand_at code (p + 4) ws k w there.3 is)

-- which of the words begins at an address
pub record IsWordAt (start : ℕ) (words : List ℕ) (q w : ℕ) : Type 0 where
  pub number : ℕ
  pub there : q ≡ start + 4 * number
  pub is : slice_get words number ≡ Some w

pub word_alone : (profile : Profile) (start : ℕ) (words : List ℕ) (q w : ℕ)
    → word_at (words_alone profile start words) q ≡ Some w → IsWordAt start words q w
word_alone profile start words q w is =
    let both = when_some (nat_le start q && ((q - start) % 4 == 0)) (slice_get words ((q - start) / 4)) w is in
    record { number = (q - start) / 4; there = grind (arith, nat_tests, both.0); is = both.1 }

-- Steps.

module _ (code : MachineCode) (start : ℕ) (words : List ℕ) (there : Stand code start words) where
  word_among : (q w : ℕ) → word_at (words_alone code.profile start words) q ≡ Some w → word_at code q ≡ Some w
  word_among q w is =
      let found = word_alone code.profile start words q w is in
      subst (λ a. word_at code a ≡ Some w) (sym found.there) (stand_at code start words found.number w there found.is)

  step_among : {s t : State} {o : Observation} → Step (words_alone code.profile start words) s (goes_on o t)
      → Step code s (goes_on o t)
  step_among {s} (executes i even is ok ends) = executes i even (word_among s.pc (word_of i) is) ok ends

  -- what words alone lead to, they lead to among others
  pub leads_among : {Each : State → Option Event → State → Type 0} {n : ℕ} {s t : State} {seen : List Observation}
      → LeadsBy (words_alone code.profile start words) Each n s seen t → LeadsBy code Each n s seen t
  leads_among stays_by = stays_by
  leads_among (steps_by step holds rest) = steps_by (step_among step) holds (leads_among rest)
