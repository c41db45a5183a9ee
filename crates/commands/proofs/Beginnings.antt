-- One byte more than the longest image decides what bytes spell.
use Rattle.std.proofs.Common.{◌≡◌, ℕ, zero, suc, ◌+◌, ◌*◌, ◌-◌, ◌<◌, ◌≤◌, Bool, true, false, cond, eqb, ltb, nat_le}
use Rattle.std.proofs.Common.{List, [], ◌∷◌, ◌++◌, length, take, drop, Option, None, refl, sym, ap, ◌∙◌}
use Rattle.std.proofs.Common.{length-append, arith}
use Rattle.std.proofs.lemmas.Bool.{le-ltb, ne_eqb}
use Rattle.std.proofs.lemmas.Bool.Decides.{nat_tests}
use Rattle.std.proofs.lemmas.List.{drop-append-le, length-drop, length-take-le, take-append-drop, take_all}
use Rattle.byteorder.specs.Endian.{little_number}
use Rattle.byteorder.specs.Numbers.{little_from-append}
use Rattle.image.specs.Format.{Format, ends, field, read_by}
use Rattle.commands.specs.Below.{flagged_format, image_format, is_word_count, longest_image, most_parameters}
use Rattle.commands.specs.Below.{most_words, reading, result_format, slot_end, slot_format, slots_end, slots_format}
use Rattle.commands.specs.Below.{words_format}
use Rattle.expression_code.specs.declared.image_fields.slot.Slot.{Slot}
use Rattle.expression_code.specs.declared.image_fields.slot.ResultSlot.{ResultSlot}

-- reading by a format takes no more than so many bytes
abbrev TakesAtMost : ℕ → Format → Type 0
TakesAtMost most (ends fields) = Unit {0}
TakesAtMost most (field rule size allowed next) = (size ≤ most)
    × ((n : ℕ) → allowed n ≡ true → TakesAtMost (most - size) (next n))

roomier : (least most : ℕ) (format : Format) → least ≤ most → TakesAtMost least format → TakesAtMost most format
roomier least most (ends fields) le h = tt
roomier least most (field rule size allowed next) le h =
    (omega (arith, h.0), λ n is. roomier (least - size) (most - size) (next n) (omega arith) (h.1 n is))

-- ---- the parts of an image

slot_takes : (low most : ℕ) (next : Slot → Format) → ((slot : Slot) → TakesAtMost most (next slot))
    → TakesAtMost (9 + most) (slot_format low next)
unfolding slot_format
slot_takes low most next h = (
  omega arith,
  λ kind _. (
    omega arith,
    λ label _. (
      omega arith,
      λ form _. (
        omega arith,
        λ count _. (
          omega arith,
          λ offset _.
              roomier most (9 + most - 1 - 1 - 1 - 2 - 4) _ (omega arith) (h _),
        ),
      ),
    ),
  ),
)

slots_take : (n low most : ℕ) (next : List Slot → Format) → ((slots : List Slot) → TakesAtMost most (next slots))
    → TakesAtMost (9 * n + most) (slots_format n low next)
unfolding slots_format
slots_take zero low most next h = roomier most (9 * 0 + most) (next []) (omega arith) (h [])
slots_take (suc n) low most next h =
    roomier (9 + (9 * n + most)) (9 * suc n + most) (slots_format (suc n) low next) (omega arith)
    (slot_takes low (9 * n + most) _
    (λ slot. slots_take n (slot_end slot) most (λ slots. next (slot ∷ slots)) (λ slots. h (slot ∷ slots))))

flagged_takes : (low most flag : ℕ) (next : Option ResultSlot → Format)
    → ((returned : Option ResultSlot) → TakesAtMost most (next returned))
    → TakesAtMost (6 + most) (flagged_format low flag next)
flagged_takes low most zero next h = roomier most (6 + most) (next None) (omega arith) (h None)
flagged_takes low most (suc n) next h = (
  omega arith,
  λ kind _. (
    omega arith,
    λ label _.
        (omega arith, λ offset _. roomier most (6 + most - 1 - 1 - 4) _ (omega arith) (h _)),
  ),
)

result_takes : (low most : ℕ) (next : Option ResultSlot → Format)
    → ((returned : Option ResultSlot) → TakesAtMost most (next returned))
    → TakesAtMost (7 + most) (result_format low next)
unfolding result_format
result_takes low most next h = (
  omega arith,
  λ flag _. roomier (6 + most) (7 + most - 1) (flagged_format low flag next) (omega arith)
      (flagged_takes low most flag next h),
)

words_take : (n most : ℕ) (next : List ℕ → Format) → ((words : List ℕ) → TakesAtMost most (next words))
    → TakesAtMost (4 * n + most) (words_format n next)
unfolding words_format
words_take zero most next h = roomier most (4 * 0 + most) (next []) (omega arith) (h [])
words_take (suc n) most next h = (
  omega arith,
  λ word _. roomier (4 * n + most) (4 * suc n + most - 4) _ (omega arith)
      (words_take n most (λ words. next (word ∷ words)) (λ words. h (word ∷ words))),
)

few_words : (n : ℕ) → is_word_count n ≡ true → n ≤ most_words
few_words n is = grind (arith, nat_tests)

few_parameters : (n : ℕ) → nat_le n most_parameters ≡ true → n ≤ most_parameters
few_parameters n is = grind (arith, nat_tests)

-- all of an image
image_takes : TakesAtMost longest_image image_format
unfolding image_format
image_takes = (
  omega arith,
  λ magic _. (
    omega arith,
    λ version _. (
      omega arith,
      λ profile _. (
        omega arith,
        λ parameters few.
            roomier (9 * parameters + (7 + 768272)) (longest_image - 4 - 2 - 2 - 2) _
            (omega (arith, few_parameters parameters few))
            (slots_take parameters 0 (7 + 768272) _ (λ slots.
            result_takes (slots_end 0 slots) 768272 _ (λ returned. (
              omega arith,
              λ frame _. (
                omega arith,
                λ steps _. (
                  omega arith,
                  λ count some.
                      roomier (4 * count + 0) (768272 - 4 - 8 - 4) _ (omega (arith, few_words count some))
                      (words_take count 0 _ (λ words. tt)),
                ),
              ),
            )))),
      ),
    ),
  ),
)

-- ---- what is read

chosen : {A : Type 0} (b : Bool) (one other refused : A) → (b ≡ true → one ≡ other)
    → cond b one refused ≡ cond b other refused
chosen true one other refused h = h refl
chosen false one other refused h = refl

not_empty : (bytes : List ℕ) → 0 < length bytes → eqb (length bytes) 0 ≡ false
not_empty bytes some = ne_eqb (length bytes) 0 (λ none. omega (arith, none))

-- bytes of which more are left than a reading takes are read as they are with others behind them
front_decides : (total most : ℕ) (format : Format) (left more : List ℕ) → TakesAtMost most format → most < length left
    → read_by (total + length more) format (left ++ more) ≡ read_by total format left
unfolding read_by
front_decides total most (ends fields) left more h long =
    let both = length-append left more in
    let at : (total + length more) - length (left ++ more) ≡ total - length left = omega (arith, both) in
    let one = not_empty (left ++ more) (omega (arith, both)) in
    let other = not_empty left (omega arith) in
    rw (one, other, at) refl
front_decides total most (field rule size allowed next) left more h long =
    let both = length-append left more in
    let at : (total + length more) - length (left ++ more) ≡ total - length left = omega (arith, both) in
    let one : ltb (length (left ++ more)) size ≡ false =
    le-ltb (length (left ++ more)) size (omega (arith, both, h.0)) in
    let other : ltb (length left) size ≡ false = le-ltb (length left) size (omega (arith, h.0)) in
    let number : little_number size (left ++ more) ≡ little_number size left =
    little_from-append size left more (omega (arith, h.0)) in
    let rest : drop size (left ++ more) ≡ drop size left ++ more =
    drop-append-le size left more (omega (arith, h.0)) in
    let n = little_number size left in
    rw (one, other, number, rest, at)
    (chosen (allowed n) _ _ _ (λ is. front_decides total (most - size) (next n) (drop size left) more (h.1 n is)
    (omega (arith, h.0, length-drop size left))))

-- what is read of the beginning of a file is what is read of all of it
pub one_byte_more : (whole : List ℕ) → reading (take (longest_image + 1) whole) ≡ reading whole
one_byte_more whole = by (length whole - (longest_image + 1)) refl
  where
    by : (beyond : ℕ) → length whole - (longest_image + 1) ≡ beyond
        → reading (take (longest_image + 1) whole) ≡ reading whole
    by zero is = ap reading (take_all (longest_image + 1) whole (omega (arith, is)))
    by (suc n) is =
        let front = take (longest_image + 1) whole in
        let more = drop (longest_image + 1) whole in
        let all : front ++ more ≡ whole = take-append-drop (longest_image + 1) whole in
        let long : length front ≡ longest_image + 1 = length-take-le (longest_image + 1) whole (omega (arith, is)) in
        let total : length front + length more ≡ length whole = sym (length-append front more) ∙ ap length all in
        let decided = front_decides (length front) longest_image image_format front more image_takes
        (omega (arith, long)) in
        sym decided ∙ ap (λ n. read_by n image_format (front ++ more)) total
        ∙ ap (λ bytes. read_by (length whole) image_format bytes) all
