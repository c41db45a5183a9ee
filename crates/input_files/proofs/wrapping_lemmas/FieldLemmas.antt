-- The fields that are asked for are allowed, where no rule is broken.
use Rattle.std.proofs.Common.{◌≡◌, ℕ, ◌*◌, ◌/◌, ◌%◌, ◌<◌, ◌≤◌, ◌^◌, Bool, true, if◌then◌else◌, List, length, map}
use Rattle.std.proofs.Common.{Option, None, Some, IfSome, refl, sym, ap, ◌∙◌, arith}
use Rattle.std.specs.List.{AllByRecursion}
use Rattle.std.proofs.lemmas.Bool.Decides.{nat_tests}
use Rattle.codegen.proofs.ImageLemmas.{length-slots_from, count_in_words, slots_are, slots_end-slots_from, slots_inside}
use Rattle.input_files.specs.Below.{declaration_of, declared_words, Fields, HasLength, is_frame_size, is_step_limit}
use Rattle.input_files.specs.Below.{IsImage, IsResultSlot, layout_end, most_declared_bytes, Param, result_end}
use Rattle.input_files.specs.Below.{ResultSlot, slots_end, slots_from, WordType}
use Rattle.expression_code.specs.declared.image_fields.slot.Slot.{Slot}
use Rattle.expression_code.specs.image_fields.Limits.{most_frame_bytes, most_steps, most_words}
use Rattle.input_files.specs.wrapping.Wrapped.{AreWordsOf, broken_rule, end_of, is_code_length, result_behind}
use Rattle.input_files.specs.declared.wrapping.asked.Asked.{Asked}
use Rattle.input_files.specs.declared.wrapping.fault.CodeRule.{CodeRule}
use Rattle.input_files.specs.declared.wrapping.fault.CodeRule.TheVariants.{Length, Frame, Steps}
use Rattle.input_files.proofs.wrapping_lemmas.WordLemmas.{AreSmall, length-bytes_of}

-- ---- no rule is broken

-- which rule is named by three tests
abbrev named : Bool → Bool → Bool → Option CodeRule
named length frame steps = if length then if frame then if steps then None else Some Steps else Some Frame
    else Some Length

none_named : (length frame steps : Bool) → named length frame steps ≡ None
    → (length ≡ true) × (frame ≡ true) × (steps ≡ true)
none_named true true true is = (refl, refl, refl)
none_named length frame steps is = absurd cc

-- what that is in numbers
pub record Unbroken (low bytes : ℕ) (asked : Asked) : Type 0 where
  pub whole : bytes % 4 ≡ 0
  pub some : 1 ≤ bytes / 4
  pub few : bytes / 4 ≤ most_words
  pub aligned : asked.frame_bytes % 4 ≡ 0
  pub small : asked.frame_bytes ≤ most_frame_bytes
  pub inside : low ≤ asked.frame_bytes
  pub some_step : 1 ≤ asked.max_steps
  pub steps : asked.max_steps ≤ most_steps

pub unbroken : (low bytes : ℕ) (asked : Asked) → broken_rule low bytes asked ≡ None → Unbroken low bytes asked
unbroken low bytes asked is =
    let all = none_named (is_code_length bytes) (is_frame_size low asked.frame_bytes)
    (is_step_limit asked.max_steps) is in
    record {
      whole = grind (arith, nat_tests, all.0);
      some = grind (arith, nat_tests, all.0);
      few = grind (arith, nat_tests, all.0);
      aligned = grind (arith, nat_tests, all.1);
      small = grind (arith, nat_tests, all.1);
      inside = grind (arith, nat_tests, all.1);
      some_step = grind (arith, nat_tests, all.2);
      steps = grind (arith, nat_tests, all.2);
    }

-- ---- the result's slot

result_is : (low : ℕ) (returned : Option WordType) → low % 4 ≡ 0 → low < 2 ^ 32
    → IfSome (result_behind low returned) (λ slot. IsResultSlot low slot)
result_is low None aligned fits = tt
result_is low (Some word) aligned fits = record { aligned = aligned; above = omega arith; fits = fits }

result_inside : (low frame : ℕ) (returned : Option WordType) → layout_end low (result_behind low returned) ≤ frame
    → IfSome (result_behind low returned) (λ slot. result_end slot ≤ frame)
result_inside low frame None room = tt
result_inside low frame (Some word) room = room

behind : (low : ℕ) (returned : Option WordType) → low ≤ layout_end low (result_behind low returned)
behind low None = omega arith
behind low (Some word) = omega arith

-- ---- the fields

-- what is asked of parameters
pub record AreWithinLimits (params : List Param) : Type 0 where
  pub lengths : AllByRecursion (λ (parameter : Param). HasLength parameter.form parameter.length) params
  pub given : 4 * declared_words (map declaration_of params) ≤ most_declared_bytes

-- where their slots end
pub low_of : (params : List Param) → AreWithinLimits params → slots_end 0 (slots_from 0 params) ≤ most_declared_bytes
low_of params limits =
    omega (arith, limits.given, slots_end-slots_from 0 params)

module _ (params : List Param) (returned : Option WordType) (code : List ℕ) (asked : Asked)
    (limits : AreWithinLimits params) (none : broken_rule (end_of params returned) (length code) asked ≡ None) where
  facts : Unbroken (end_of params returned) (length code) asked
  facts = unbroken (end_of params returned) (length code) asked none

  end : slots_end 0 (slots_from 0 params) ≡ 4 * declared_words (map declaration_of params)
  end = omega (arith, slots_end-slots_from 0 params)

  -- the fields with these words
  abbrev made : List ℕ → Fields
  made words = record {
    profile = asked.profile;
    slots = slots_from 0 params;
    returned = result_behind (slots_end 0 (slots_from 0 params)) returned;
    frame_bytes = asked.frame_bytes;
    max_steps = asked.max_steps;
    words = words;
  }

  made_allowed : (words : List ℕ) → AreWordsOf code words → AreSmall words → IsImage (made words)
  made_allowed words are fit =
      let low = slots_end 0 (slots_from 0 params) in
      let size = sym (ap length are) ∙ length-bytes_of words in
      record {
        count = omega (arith, length-slots_from 0 params, count_in_words params limits.lengths, limits.given);
        slots = slots_are 0 params limits.lengths refl (omega (arith, limits.given));
        returned = result_is low returned (omega (arith, end)) (omega (arith, end, limits.given));
        frame_aligned = facts.aligned;
        frame_size = facts.small;
        slots_inside = slots_inside 0 asked.frame_bytes params (omega (arith, end, facts.inside, behind low returned));
        returned_inside = result_inside low asked.frame_bytes returned facts.inside;
        some_step = facts.some_step;
        steps = facts.steps;
        some_word = omega (arith, size, facts.some);
        word_count = omega (arith, size, facts.few);
        words = fit;
      }

  -- so are fields that are equal to them, one by one
  pub fields_allowed : (slots : List Slot) (result : Option ResultSlot) (frame : ℕ) (words : List ℕ)
      → slots ≡ slots_from 0 params → result ≡ result_behind (slots_end 0 (slots_from 0 params)) returned
      → frame ≡ asked.frame_bytes → AreWordsOf code words → AreSmall words
      → IsImage (record {
        profile = asked.profile;
        slots = slots;
        returned = result;
        frame_bytes = frame;
        max_steps = asked.max_steps;
        words = words;
      })
  fields_allowed slots result frame words a b d are fit = let allowed = made_allowed words are fit in
      rw (a, b, d) allowed
