-- How many bytes spell an image.
use Rattle.std.proofs.Common.{◌≡◌, ℕ, ◌*◌, ◌≤◌, List, [], ◌∷◌, ◌++◌, length, Option, Some, None, refl, length-append}
use Rattle.std.proofs.Common.{arith}
use Rattle.std.specs.List.{flat_map}
use Rattle.image.specs.Limits.{longest_image}
use Rattle.image.specs.declared.field.Field.TheVariants as fields
use Rattle.image.specs.private.Spelling.{spelled, spelled_result, spelled_slot, spelling}
use Rattle.image.specs.Below.{Fields, IsImage, ResultSlot}

all_long : {A : Type 0} (text : A → List ℕ) (n : ℕ) → ((x : A) → length (text x) ≡ n) → (items : List A)
    → length (flat_map text items) ≡ n * length items
all_long text n each [] = omega arith
all_long text n each (item ∷ items) =
    omega (arith, length-append (text item) (flat_map text items), each item, all_long text n each items)

result_long : (returned : Option ResultSlot) → length (spelled_result returned) ≤ 7
result_long None = omega arith
result_long (Some slot) = omega arith

pub short : (image : Fields) → IsImage image → length (spelling image) ≤ longest_image
short image h =
    let slots = flat_map spelled_slot image.slots in
    let words = flat_map (spelled fields.Word) image.words in
    let at_count = spelled fields.WordCount (length image.words) ++ words in
    let code = spelled (fields.FrameBytes 0) image.frame_bytes
    ++ (spelled fields.MaxSteps image.max_steps ++ at_count) in
    omega (
      arith,
      h.count,
      h.word_count,
      length-append slots (spelled_result image.returned ++ code),
      length-append (spelled_result image.returned) code,
      all_long spelled_slot 9 (λ slot. refl) image.slots,
      all_long (spelled fields.Word) 4 (λ word. refl) image.words,
      result_long image.returned,
    )
