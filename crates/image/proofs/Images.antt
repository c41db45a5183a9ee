-- The bytes of an image are its spelling, and its fields are allowed.
use Rattle.std.proofs.Common.{◌≡◌, ℕ, zero, suc, ◌%◌, ◌^◌, ◌<◌, ◌≤◌, true, List, [], ◌∷◌, ◌++◌, length, Option, Some}
use Rattle.std.proofs.Common.{None, refl, sym, ap, ap₂, subst, ◌∙◌, arith}
use Rattle.std.proofs.lemmas.Bool.{eqb-true, leb-true, le-leb}
use Rattle.std.proofs.lemmas.Bool.Decides.{nat_tests}
use Rattle.std.proofs.lemmas.List.{append-nil}
use Rattle.std.specs.List.{AllByRecursion, flat_map}
use Rattle.std.specs.Prelude.{IfSome, nat_le, nat_lt, ◌&&◌}
use Rattle.image.specs.Format.{Format}
use Rattle.image.specs.Limits.{format_version, magic_number}
use Rattle.image.specs.Reading.{coded_form, coded_kind, coded_label, flagged_format, image_format}
use Rattle.image.specs.Reading.{is_frame_size, is_offset, layout_end, numbered_profile, result_format}
use Rattle.image.specs.Reading.{slot_format, slots_format, words_format}
use Rattle.image.specs.declared.field.Field.TheVariants as fields
use Rattle.image.specs.private.Spelling.{form_code, kind_code, label_code, profile_number, spelled}
use Rattle.image.specs.private.Spelling.{spelled_result, spelled_slot, spelling}
use Rattle.image.proofs.Codes.{form_back, form_is, kind_back, kind_is, label_back, label_is}
use Rattle.image.proofs.Codes.{profile_back, profile_is}
use Rattle.image.proofs.Texts.{Front, IsRead, IsText, IsWritten, and_then, behind, number}
use Rattle.image.specs.Below.{AreSlots, Fields, Form, is_length, IsImage, IsResultSlot, IsSlot, most_frame_bytes}
use Rattle.image.specs.Below.{result_end, ResultSlot, SingleWord, Slot, slot_end, slots_end}
use Rattle.language.specs.declared.signature.Param.{Param}

-- ---- ranges

length_fits : (form : Form) (n : ℕ) → is_length form n ≡ true → n < 256 ^ 2
length_fits SingleWord n is = grind (arith, nat_tests)
length_fits form n is = grind (arith, nat_tests)

record IsAbove (low n : ℕ) : Type 0 where
  aligned : n % 4 ≡ 0
  above : low ≤ n

offset_is : (low n : ℕ) → is_offset low n ≡ true → IsAbove low n
offset_is low n is = record { aligned = grind (arith, nat_tests); above = grind (arith, nat_tests) }

is_offset_at : (low n : ℕ) → n % 4 ≡ 0 → low ≤ n → is_offset low n ≡ true
is_offset_at low n aligned above = grind (arith, nat_tests)

record IsFrame (low n : ℕ) : Type 0 where
  aligned : n % 4 ≡ 0
  size : n ≤ most_frame_bytes
  above : low ≤ n

frame_is : (low n : ℕ) → is_frame_size low n ≡ true → IsFrame low n
frame_is low n is = record {
  aligned = grind (arith, nat_tests);
  size = grind (arith, nat_tests);
  above = grind (arith, nat_tests);
}

is_frame_at : (low n : ℕ) → n % 4 ≡ 0 → n ≤ most_frame_bytes → low ≤ n → is_frame_size low n ≡ true
is_frame_at low n aligned size above = grind (arith, nat_tests)

range : {least most n : ℕ} → least ≤ n → n ≤ most → (nat_le least n && nat_le n most) ≡ true
range low high = grind (arith, nat_tests)

in_range : {least most n : ℕ} → (nat_le least n && nat_le n most) ≡ true → (least ≤ n) × (n ≤ most)
in_range is = (grind (arith, nat_tests), grind (arith, nat_tests))

-- ---- slots

slot_written : (low : ℕ) → IsWritten (IsSlot low) spelled_slot (λ _. slot_format low)
unfolding slot_format
slot_written low slot next rest image h follows =
    let kind = kind_is slot.param.kind in
    let label = label_is slot.param.label in
    let form = form_is slot.param.form in
    and_then (number (kind_code slot.param.kind) _ kind.fits kind.is_allowed)
    (and_then (number (label_code slot.param.label) _ label.fits label.is_allowed)
    (and_then (number (form_code slot.param.form) _ form.fits form.is_allowed)
    (and_then (number slot.param.length _ (length_fits slot.param.form slot.param.length h.length)
    (rw form.stands h.length))
    (and_then (number slot.offset _ h.fits (is_offset_at low slot.offset h.aligned h.above))
    (rw (kind.stands, label.stands, form.stands) follows)))))

slot_read : (low : ℕ) → IsRead (IsSlot low) spelled_slot (slot_format low)
unfolding slot_format
slot_read low next bytes image (kind, (label, (form, (count, (offset, follows))))) =
    let above = offset_is low offset.n offset.is_allowed in
    let param : Param = record {
      kind = coded_kind kind.n;
      label = coded_label label.n;
      form = coded_form form.n;
      length = count.n;
    } in
    record {
      value = record { param = param; offset = offset.n };
      rest = offset.rest;
      is = record { length = count.is_allowed; aligned = above.aligned; above = above.above; fits = offset.fits };
      parts = rw (
        kind.parts,
        label.parts,
        form.parts,
        count.parts,
        offset.parts,
        sym (kind_back kind.n kind.is_allowed),
        sym (label_back label.n label.is_allowed),
        sym (form_back form.n form.is_allowed),
      );
      follows = follows;
    }

slots_written : (low : ℕ)
    → IsWritten (AreSlots low) (flat_map spelled_slot) (λ slots. slots_format (length slots) low)
unfolding slots_format
slots_written low [] next rest image h follows = follows
slots_written low (slot ∷ slots) next rest image h follows =
    slot_written low slot _ _ image h.0 (slots_written (slot_end slot) slots _ rest image h.1 follows)

slots_read : (n low : ℕ)
    → IsRead (λ slots. (length slots ≡ n) × AreSlots low slots) (flat_map spelled_slot) (slots_format n low)
unfolding slots_format
slots_read zero low next bytes image h =
    record { value = []; rest = bytes; is = (refl, tt); parts = refl; follows = h }
slots_read (suc n) low next bytes image h =
    let one = slot_read low _ bytes image h in
    let others = slots_read n (slot_end one.value) _ one.rest image one.follows in
    record {
      value = one.value ∷ others.value;
      rest = others.rest;
      is = (ap suc others.is.0, (one.is, others.is.1));
      parts = one.parts ∙ behind (spelled_slot one.value) others.parts;
      follows = others.follows;
    }

-- ---- the result

result_written : (low : ℕ)
    → IsWritten (λ returned. IfSome returned (IsResultSlot low)) spelled_result (λ _. result_format low)
unfolding result_format
result_written low None next rest image h follows = (number 0 rest (omega arith) refl, follows)
result_written low (Some slot) next rest image h follows =
    let kind = kind_is slot.kind in
    let label = label_is slot.label in
    and_then (number 1 _ (omega arith) refl)
    (and_then (number (kind_code slot.kind) _ kind.fits kind.is_allowed)
    (and_then (number (label_code slot.label) _ label.fits label.is_allowed)
    (and_then (number slot.offset _ h.fits (is_offset_at low slot.offset h.aligned h.above))
    (rw (kind.stands, label.stands) follows))))

result_read : (low : ℕ) → IsRead (λ returned. IfSome returned (IsResultSlot low)) spelled_result (result_format low)
unfolding result_format
result_read low next bytes image h = by h.0.n h.0.rest h.0.parts h.0.is_allowed h.1
  where
    by : (flag : ℕ) (rest : List ℕ)
        → bytes ≡ spelled fields.HasResult flag ++ rest → nat_lt flag 2 ≡ true
        → IsText (flagged_format low flag next) rest image
        → Front (λ returned. IfSome returned (IsResultSlot low)) spelled_result next bytes image
    by zero rest flagged is follows = record { value = None; rest = rest; is = tt; parts = flagged; follows = follows }
    by (suc zero) rest flagged is (kind, (label, (offset, follows))) =
        let above = offset_is low offset.n offset.is_allowed in
        record {
          value = Some (record { kind = coded_kind kind.n; label = coded_label label.n; offset = offset.n });
          rest = offset.rest;
          is = record { aligned = above.aligned; above = above.above; fits = offset.fits };
          parts = rw (
            flagged,
            kind.parts,
            label.parts,
            offset.parts,
            sym (kind_back kind.n kind.is_allowed),
            sym (label_back label.n label.is_allowed),
          );
          follows = follows;
        }
    by (suc (suc n)) rest flagged is follows = absurd (grind (arith, nat_tests))

-- ---- code words

abbrev AreWords : List ℕ → Type 0
AreWords = AllByRecursion (λ word. word < 2 ^ 32)

words_written : IsWritten AreWords (flat_map (spelled fields.Word)) (λ words. words_format (length words))
unfolding words_format
words_written [] next rest image h follows = follows
words_written (word ∷ words) next rest image h follows =
    (number word _ h.0 refl, words_written words _ rest image h.1 follows)

last_words : (words : List ℕ) (next : List ℕ → Format) (image : Fields) → AreWords words
    → IsText (next words) [] image
    → IsText (words_format (length words) next) (flat_map (spelled fields.Word) words) image
last_words words next image h follows =
    subst (λ (bytes : List ℕ). IsText (words_format (length words) next) bytes image)
    (append-nil (flat_map (spelled fields.Word) words)) (words_written words next [] image h follows)

words_read : (n : ℕ)
    → IsRead (λ words. (length words ≡ n) × AreWords words) (flat_map (spelled fields.Word)) (words_format n)
unfolding words_format
words_read zero next bytes image h = record { value = []; rest = bytes; is = (refl, tt); parts = refl; follows = h }
words_read (suc n) next bytes image h =
    let one = h.0 in
    let others = words_read n _ one.rest image h.1 in
    record {
      value = one.n ∷ others.value;
      rest = others.rest;
      is = (ap suc others.is.0, (one.fits, others.is.1));
      parts = one.parts ∙ behind (spelled fields.Word one.n) others.parts;
      follows = others.follows;
    }

-- ---- where slots end

slots_end_above : (low : ℕ) (slots : List Slot) → AreSlots low slots → low ≤ slots_end low slots
slots_end_above low [] h = omega arith
slots_end_above low (slot ∷ slots) h =
    omega (arith, slots_end_above (slot_end slot) slots h.1, h.0.above)

abbrev AreInside : ℕ → List Slot → Type 0
AreInside frame = AllByRecursion (λ slot. slot_end slot ≤ frame)

-- where the last ends inside, each does
all_inside : (low frame : ℕ) (slots : List Slot) → AreSlots low slots → slots_end low slots ≤ frame
    → AreInside frame slots
all_inside low frame [] h le = tt
all_inside low frame (slot ∷ slots) h le =
    (omega (arith, slots_end_above (slot_end slot) slots h.1), all_inside (slot_end slot) frame slots h.1 le)

-- and where each does, the last does
last_inside : (low frame : ℕ) (slots : List Slot) → low ≤ frame → AreInside frame slots → slots_end low slots ≤ frame
last_inside low frame [] le h = le
last_inside low frame (slot ∷ slots) le h = last_inside (slot_end slot) frame slots h.0 h.1

module _ (low frame : ℕ) where
  abbrev IsInside : Option ResultSlot → Type 0
  IsInside returned = IfSome returned (λ slot. result_end slot ≤ frame)

  layout_end_above : (returned : Option ResultSlot) → IfSome returned (IsResultSlot low)
      → low ≤ layout_end low returned
  layout_end_above None h = omega arith
  layout_end_above (Some slot) h = omega (arith, h.above)

  result_inside : (returned : Option ResultSlot) → layout_end low returned ≤ frame → IsInside returned
  result_inside None le = tt
  result_inside (Some slot) le = le

  layout_inside : (returned : Option ResultSlot) → low ≤ frame → IsInside returned → layout_end low returned ≤ frame
  layout_inside None le h = le
  layout_inside (Some slot) le h = h

-- ---- all fields

pub image_written : (image : Fields) → IsImage image → IsText image_format (spelling image) image
unfolding image_format
image_written image h =
    let profile = profile_is image.profile in
    let low = slots_end 0 image.slots in
    let last = layout_end low image.returned in
    let slots_inside = last_inside 0 image.frame_bytes image.slots (omega arith) h.slots_inside in
    let inside = layout_inside low image.frame_bytes image.returned slots_inside h.returned_inside in
    and_then (number magic_number _ (omega arith) refl)
    (and_then (number format_version _ (omega arith) refl)
    (and_then (number (profile_number image.profile) _ profile.fits profile.is_allowed)
    (and_then (number (length image.slots) _ (omega (arith, h.count)) (le-leb _ _ h.count))
    (slots_written 0 image.slots _ _ image h.slots
    (result_written low image.returned _ _ image h.returned
    (and_then (number image.frame_bytes _ (omega (arith, h.frame_size))
    (is_frame_at last image.frame_bytes h.frame_aligned h.frame_size inside))
    (and_then (number image.max_steps _ (omega (arith, h.steps)) (range h.some_step h.steps))
    (and_then (number (length image.words) _ (omega (arith, h.word_count)) (range h.some_word h.word_count))
    (last_words image.words _ image h.words (refl, rw profile.stands))))))))))

pub image_read : (bytes : List ℕ) (image : Fields) → IsText image_format bytes image
    → IsImage image × (bytes ≡ spelling image)
unfolding image_format
image_read bytes image (magic, (version, (profile, (few, of_slots)))) =
    let slots = slots_read few.n 0 _ few.rest image of_slots in
    let low = slots_end 0 slots.value in
    let returned = result_read low _ slots.rest image slots.follows in
    let frame = returned.follows.0 in
    let steps = returned.follows.1.0 in
    let count = returned.follows.1.1.0 in
    let words = words_read count.n _ count.rest image returned.follows.1.1.1 in
    let made : Fields = record {
      profile = numbered_profile profile.n;
      slots = slots.value;
      returned = returned.value;
      frame_bytes = frame.n;
      max_steps = steps.n;
      words = words.value;
    } in
    let fine = frame_is (layout_end low returned.value) frame.n frame.is_allowed in
    let inside : low ≤ frame.n = omega (arith, layout_end_above low frame.n returned.value returned.is, fine.above) in
    let fact : IsImage made = record {
      count = rw slots.is.0 (leb-true _ _ few.is_allowed);
      slots = slots.is.1;
      returned = returned.is;
      frame_aligned = fine.aligned;
      frame_size = fine.size;
      slots_inside = all_inside 0 frame.n slots.value slots.is.1 inside;
      returned_inside = result_inside low frame.n returned.value fine.above;
      some_step = (in_range steps.is_allowed).0;
      steps = (in_range steps.is_allowed).1;
      some_word = rw words.is.0 (in_range count.is_allowed).0;
      word_count = rw words.is.0 (in_range count.is_allowed).1;
      words = words.is.1;
    } in
    let parts : bytes ≡ spelling made =
    rw (sym (profile_back profile.n profile.is_allowed), slots.is.0, words.is.0)
    (magic.parts ∙ ap₂ (λ n x. spelled fields.Magic n ++ x) (eqb-true _ _ magic.is_allowed)
    (version.parts ∙ ap₂ (λ n x. spelled fields.Version n ++ x) (eqb-true _ _ version.is_allowed)
    (profile.parts ∙ behind (spelled fields.Profile profile.n)
    (few.parts ∙ behind (spelled fields.ParameterCount few.n)
    (slots.parts ∙ behind (flat_map spelled_slot slots.value)
    (returned.parts ∙ behind (spelled_result returned.value)
    (frame.parts ∙ behind (spelled (fields.FrameBytes 0) frame.n)
    (steps.parts ∙ behind (spelled fields.MaxSteps steps.n)
    (count.parts ∙ behind (spelled fields.WordCount count.n)
    (words.parts ∙ behind (flat_map (spelled fields.Word) words.value) words.follows.0 ∙ append-nil _)))))))))) in
    subst (λ (f : Fields). IsImage f × (bytes ≡ spelling f)) words.follows.1 (fact, parts)
