-- Codes and what they stand for.
use Rattle.std.proofs.Common.{◌≡◌, ℕ, zero, suc, ◌^◌, ◌<◌, true, ltb, refl, arith}
use Rattle.std.proofs.lemmas.Bool.Decides.{nat_tests}
use Rattle.image.specs.Below.{Boolean, Form, Kind, Label, P1, Profile, Public, SingleWord}
use Rattle.image.specs.Reading.{coded_form, coded_kind, coded_label, is_profile, numbered_profile, row}
use Rattle.image.specs.declared.field.Field.{Field}
use Rattle.image.specs.declared.field.Field.TheVariants as fields
use Rattle.image.specs.private.Spelling.{form_code, kind_code, label_code, profile_number}

-- a code that a field may hold, and that stands for a value
pub record IsCode {A : Type 0} (kind : Field) (coded : ℕ → A) (code : ℕ) (value : A) : Type 0 where
  pub fits : code < 256 ^ (row kind).size
  pub is_allowed : (row kind).allowed code ≡ true
  pub stands : coded code ≡ value

pub kind_is : (kind : Kind) → IsCode fields.Kind coded_kind (kind_code kind) kind
kind_is Boolean = record { fits = omega arith; is_allowed = refl; stands = refl }
kind_is kind = record { fits = omega arith; is_allowed = refl; stands = refl }

pub label_is : (label : Label) → IsCode fields.Label coded_label (label_code label) label
label_is Public = record { fits = omega arith; is_allowed = refl; stands = refl }
label_is label = record { fits = omega arith; is_allowed = refl; stands = refl }

pub form_is : (form : Form) → IsCode fields.Form coded_form (form_code form) form
form_is SingleWord = record { fits = omega arith; is_allowed = refl; stands = refl }
form_is form = record { fits = omega arith; is_allowed = refl; stands = refl }

pub profile_is : (profile : Profile) → IsCode fields.Profile numbered_profile (profile_number profile) profile
profile_is P1 = record { fits = omega arith; is_allowed = refl; stands = refl }
profile_is profile = record { fits = omega arith; is_allowed = refl; stands = refl }

-- a code is that of what it stands for

pub kind_back : (code : ℕ) → ltb code 4 ≡ true → code ≡ kind_code (coded_kind code)
kind_back zero is = refl
kind_back (suc zero) is = refl
kind_back (suc (suc zero)) is = refl
kind_back (suc (suc (suc zero))) is = refl
kind_back (suc (suc (suc (suc n)))) is = absurd (grind (arith, nat_tests))

pub label_back : (code : ℕ) → ltb code 2 ≡ true → code ≡ label_code (coded_label code)
label_back zero is = refl
label_back (suc zero) is = refl
label_back (suc (suc n)) is = absurd (grind (arith, nat_tests))

pub form_back : (code : ℕ) → ltb code 3 ≡ true → code ≡ form_code (coded_form code)
form_back zero is = refl
form_back (suc zero) is = refl
form_back (suc (suc zero)) is = refl
form_back (suc (suc (suc n))) is = absurd (grind (arith, nat_tests))

pub profile_back : (number : ℕ) → is_profile number ≡ true → number ≡ profile_number (numbered_profile number)
profile_back zero is = absurd cc
profile_back (suc zero) is = refl
profile_back (suc (suc zero)) is = refl
profile_back (suc (suc (suc n))) is = absurd (grind (arith, nat_tests))
