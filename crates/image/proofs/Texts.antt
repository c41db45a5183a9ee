-- Bytes by a format: what is read of them, and which numbers they are, determine each other.
use Rattle.std.proofs.Common.{◌≡◌, ℕ, ◌^◌, ◌<◌, Bool, true, false, cond, ltb, List, [], ◌++◌, length, drop, Result}
use Rattle.std.proofs.Common.{Ok, Err, refl, sym, ap, append_assoc, length-append, arith}
use Rattle.std.proofs.ByRecursion.{All-append, All-drop}
use Rattle.std.proofs.lemmas.Bool.{eqb-true, ltb-false, le-ltb}
use Rattle.std.proofs.lemmas.List.{drop_at, nil_from_length}
use Rattle.byteorder.specs.Endian.{little_bytes, little_number}
use Rattle.byteorder.specs.Numbers.{little_number-reads_back, length-bytes_low_first}
use Rattle.image.specs.Format.{Format, ends, field, read_by}
use Rattle.image.specs.Reading.{AreBytes}
use Rattle.image.specs.declared.fault.ImageFault.{ImageFault}
use Rattle.image.specs.Below.{Fields}
use Rattle.image.proofs.Bytes.{number_back, number_bytes, number_fits}

-- a number that is allowed stands in the first bytes
pub record Number (size : ℕ) (allowed : ℕ → Bool) (bytes : List ℕ) : Type 0 where
  pub n : ℕ
  pub rest : List ℕ
  pub parts : bytes ≡ little_bytes size n ++ rest
  pub fits : n < 256 ^ size
  pub is_allowed : allowed n ≡ true

abbrev pub number : {size : ℕ} {allowed : ℕ → Bool} (n : ℕ) (rest : List ℕ)
    → n < 256 ^ size → allowed n ≡ true → Number size allowed (little_bytes size n ++ rest)
number n rest fits is = record { n = n; rest = rest; parts = refl; fits = fits; is_allowed = is }

-- such a number, and what stands behind it
pub and_then : {A : Type 0} {B : A → Type 0} (first : A) → B first → (x : A) × B x
and_then first then = (first, then)

-- all of the bytes are numbers that a format allows, one after another, and say these fields
abbrev pub IsText : Format → List ℕ → Fields → Type 0
IsText (ends fields) bytes image = (bytes ≡ []) × (fields ≡ image)
IsText (field rule size allowed next) bytes image = (x : Number size allowed bytes) × IsText (next x.n) x.rest image

-- bytes begin with the text of a value that is allowed, behind which stands a text by what follows the value
pub record Front {A : Type 0} (Is : A → Type 0) (text : A → List ℕ) (next : A
    → Format) (bytes : List ℕ) (image : Fields) : Type 0 where
  pub value : A
  pub rest : List ℕ
  pub is : Is value
  pub parts : bytes ≡ text value ++ rest
  pub follows : IsText (next value) rest image

-- a format of values: the text of one that is allowed is by it, and so is no other

abbrev pub IsWritten : {A : Type 0} → (A → Type 0) → (A → List ℕ) → (A → (A → Format) → Format) → Type 0
IsWritten {A = A} Is text format =
    (x : A) (next : A → Format) (rest : List ℕ) (image : Fields)
    → Is x → IsText (next x) rest image → IsText (format x next) (text x ++ rest) image

abbrev pub IsRead : {A : Type 0} → (A → Type 0) → (A → List ℕ) → ((A → Format) → Format) → Type 0
IsRead {A = A} Is text format =
    (next : A → Format) (bytes : List ℕ) (image : Fields) → IsText (format next) bytes image
    → Front Is text next bytes image

-- the same bytes in front
pub behind : (front : List ℕ) {one other : List ℕ} → one ≡ other → front ++ one ≡ front ++ other
behind front same = ap (λ (rest : List ℕ). front ++ rest) same

-- such bytes, and others behind them, are read to their end
pub text_read : (total : ℕ) (format : Format) (bytes more : List ℕ) (image : Fields)
    → IsText format bytes image → read_by total format (bytes ++ more) ≡ read_by total (ends image) more
unfolding read_by
text_read total (ends fields) bytes more image h = rw (h.0, h.1) refl
text_read total (field rule size allowed next) bytes more image h =
    let x = h.0 in
    let after = x.rest ++ more in
    let len : length (little_bytes size x.n) ≡ size = length-bytes_low_first 0 size x.n in
    let front = little_bytes size x.n in
    let long : ltb (length (front ++ after)) size ≡ false =
    le-ltb _ _ (omega (arith, len, length-append front after)) in
    let same = little_number-reads_back size x.n after x.fits in
    rw (x.parts, append_assoc front x.rest more, long, same, x.is_allowed, drop_at front after size len)
    (text_read total (next x.n) x.rest more image h.1)

pub text_bytes : (format : Format) (bytes : List ℕ) (image : Fields) → IsText format bytes image → AreBytes bytes
text_bytes (ends fields) bytes image h = rw h.0 tt
text_bytes (field rule size allowed next) bytes image h =
    let x = h.0 in
    rw x.parts (All-append (λ byte. byte < 256) (little_bytes size x.n) x.rest (number_bytes 0 size x.n)
    (text_bytes (next x.n) x.rest image h.1))

refused : {b : Bool} (e : ImageFault) {r : Result Fields ImageFault} {image : Fields}
    → cond b (Err e) r ≡ Ok image → (b ≡ false) × (r ≡ Ok image)
refused {b = true} e h = absurd cc
refused {b = false} e h = (refl, h)

passed : {b : Bool} (e : ImageFault) {r : Result Fields ImageFault} {image : Fields}
    → cond b r (Err e) ≡ Ok image → (b ≡ true) × (r ≡ Ok image)
passed {b = true} e h = (refl, h)
passed {b = false} e h = absurd cc

abbrev read_ok : Fields → Result Fields ImageFault
read_ok image = Ok image

said : {one other : Fields} → read_ok one ≡ read_ok other → one ≡ other
said h = cc

-- what is read is such bytes
pub read_text : (total : ℕ) (format : Format) (bytes : List ℕ) (image : Fields)
    → AreBytes bytes → read_by total format bytes ≡ Ok image → IsText format bytes image
unfolding read_by
read_text total (ends fields) bytes image all h =
    let p = passed _ h in
    (nil_from_length bytes (eqb-true (length bytes) 0 p.0), said p.1)
read_text total (field rule size allowed next) bytes image all h =
    let long = refused _ h in
    let fine = passed _ long.1 in
    let parts = number_back size bytes (ltb-false _ _ long.0) all in
    let n = little_number size bytes in
    let rest = drop size bytes in
    let first : Number size allowed bytes =
    record { n = n; rest = rest; parts = sym parts; fits = number_fits size bytes all; is_allowed = fine.0 } in
    (first, read_text total (next n) rest image (All-drop (λ byte. byte < 256) size bytes all) fine.1)
