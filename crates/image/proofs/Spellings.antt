-- Bytes and the fields that they spell determine each other.
use Rattle.std.proofs.Common.{◌≡◌, ◌↔◌, ℕ, List, [], ◌++◌, length, Ok, refl, sym, ap, ◌∙◌}
use Rattle.std.proofs.lemmas.List.{append-nil}
use Rattle.image.specs.Format.{ends, read_by}
use Rattle.image.specs.Reading.{AreBytes, Spells, image_format, reading}
use Rattle.image.specs.private.Spelling.{spelling}
use Rattle.image.proofs.Bytes.{back_bytes, front_bytes}
use Rattle.image.proofs.Images.{image_read, image_written}
use Rattle.image.proofs.Texts.{read_text, text_bytes, text_read}
use Rattle.image.specs.Below.{Fields, IsImage}

-- ---- what is spelled

nothing_left : (total : ℕ) (image : Fields) → read_by total (ends image) [] ≡ Ok image
unfolding read_by
nothing_left total image = refl

pub reading_again : (image : Fields) → IsImage image → reading (spelling image) ≡ Ok image
reading_again image h =
    let text = spelling image in
    let total = length (text ++ []) in
    ap reading (sym (append-nil text)) ∙ text_read total image_format text [] image (image_written image h)
    ∙ nothing_left total image

pub spelling_bytes : (image : Fields) → IsImage image → AreBytes (spelling image)
spelling_bytes image h = text_bytes image_format (spelling image) image (image_written image h)

pub is_spelled : (bytes : List ℕ) (image : Fields)
    → AreBytes bytes → Spells bytes image → IsImage image × (bytes ≡ spelling image)
is_spelled bytes image all is = image_read bytes image (read_text (length bytes) image_format bytes image all is)

-- ---- the laws

pub allowed_by_bytes : (image : Fields) → IsImage image ↔ ((bytes : List ℕ) × AreBytes bytes × Spells bytes image)
allowed_by_bytes image = (
  λ h. (spelling image, spelling_bytes image h, reading_again image h),
  λ found. (is_spelled found.0 image found.1 found.2).0,
)

pub one_by_fields : (one other : List ℕ) (image : Fields)
    → AreBytes one → AreBytes other → Spells one image → Spells other image → one ≡ other
one_by_fields one other image a b p q = (is_spelled one image a p).1 ∙ sym (is_spelled other image b q).1

pub none_begins : (bytes rest : List ℕ) (one other : Fields)
    → AreBytes (bytes ++ rest) → Spells bytes one → Spells (bytes ++ rest) other → rest ≡ []
none_begins bytes rest one other all p q =
    let text = read_text (length bytes) image_format bytes one (front_bytes bytes rest all) p in
    let read = text_read (length (bytes ++ rest)) image_format bytes rest one text in
    (read_text (length (bytes ++ rest)) (ends one) rest other (back_bytes bytes rest all) (sym read ∙ q)).0
