-- What the arguments of a call mean is within the parameters' types, whatever raw words they are.
use Rattle.std.specs.Prelude.{not, slice_index_or}
use Rattle.std.proofs.Common.{ℕ, ◌+◌, ◌≤◌, ◌==◌, Bool, true, false, List, [], ◌∷◌, map, All, ◌∙◌, arith}
use Rattle.std.proofs.lemmas.List.{length-map}
use Rattle.std.proofs.lemmas.List.Elements.{All-map}
use Rattle.linked_calls.proofs.Below.{argument_of, arguments_from, arguments_of, Boolean, element_bytes, Fields, Form}
use Rattle.linked_calls.proofs.Below.{Kind, meant, numbers_at, params_of, raw_argument, SingleWord, CallSite, Slot}
use Rattle.linked_calls.proofs.Below.{State}
use Rattle.language.specs.arguments.Within.{greatest_of, words_of, HasShape, AreWithin}
use Rattle.linked_calls.proofs.Bytes.{numbers_count}
use Rattle.word.specs.Operators.{word_of}

truth_small : (b : Bool) → word_of b ≤ 1
truth_small true = omega arith
truth_small false = omega arith

meant_within : (kind : Kind) (raw : ℕ) → meant kind raw ≤ greatest_of kind
meant_within Boolean raw = truth_small (not (raw == 0))
meant_within kind raw = omega arith

pub all_meant : (kind : Kind) (raws : List ℕ) → All (λ word. word ≤ greatest_of kind) (map (meant kind) raws)
all_meant kind raws = All-map (λ word. word ≤ greatest_of kind) (meant kind) raws
    (λ k d below. meant_within kind (slice_index_or raws k d))

module _ (site : CallSite) (s : State) where
  abbrev elements : ℕ → Slot → List ℕ
  elements i slot = numbers_at s.bytes (element_bytes slot.param.kind) (site.pointers i) slot.param.length

  pub values_within : (i : ℕ) (slot : Slot) (form : Form)
      → All (λ word. word ≤ greatest_of slot.param.kind) (words_of (argument_of site s i slot form))
  values_within i slot SingleWord = all_meant slot.param.kind (raw_argument site s i ∷ [])
  values_within i slot form = all_meant slot.param.kind (elements i slot)

  pub shape_within : (i : ℕ) (slot : Slot) (form : Form)
      → HasShape form slot.param.length (argument_of site s i slot form)
  shape_within i slot SingleWord = tt
  shape_within i slot form =
      length-map (elements i slot) (meant slot.param.kind)
      ∙ numbers_count s.bytes (element_bytes slot.param.kind) (site.pointers i) slot.param.length

  all_within : (i : ℕ) (slots : List Slot)
      → AreWithin (map (λ slot. slot.param) slots) (arguments_from site s i slots)
  all_within i [] = tt
  all_within i (slot ∷ slots) = (
    record { shape = shape_within i slot slot.param.form; values = values_within i slot slot.param.form },
    all_within (i + 1) slots,
  )

pub arguments_within : (image : Fields) (site : CallSite) (s : State)
    → AreWithin (params_of image) (arguments_of image site s)
arguments_within image site s = all_within site s 0 image.slots
