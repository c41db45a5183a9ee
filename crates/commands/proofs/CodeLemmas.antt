-- One byte more than the longest code has decides what is said of code.
use Rattle.std.proofs.Common.{◌≡◌, ℕ, zero, suc, ◌*◌, ◌-◌, ◌<◌, ◌≤◌, ◌/◌, ◌%◌, ◌==◌, ◌&&◌, Bool, true, false, cond}
use Rattle.std.proofs.Common.{[], ◌∷◌, List, length, take, Option, Some, None, refl, sym, ap, ◌∙◌, subst, arith}
use Rattle.std.proofs.lemmas.Bool.Decides.{Decides-eqb, nat_tests}
use Rattle.std.proofs.lemmas.List.{length-take-le, take_all}
use Rattle.commands.specs.Below.{Asked, Breaks, broken_rule, CodeRule, is_code_length, is_frame_size, is_step_limit}
use Rattle.commands.specs.Below.{is_word_count, IsWrapped, most_words}
use Rattle.commands.specs.WrappedCode.{begins_as_elf}
use Rattle.input_files.specs.declared.wrapping.fault.CodeRule.TheVariants.{Length, Frame, Steps}

-- the first bytes of a file begin as all of them do
pub elf_whole : (whole code : List ℕ) → code ≡ take 768257 whole → begins_as_elf code ≡ begins_as_elf whole
elf_whole [] code is = ap begins_as_elf is
elf_whole (a ∷ []) code is = ap begins_as_elf is
elf_whole (a ∷ b ∷ []) code is = ap begins_as_elf is
elf_whole (a ∷ b ∷ c ∷ []) code is = ap begins_as_elf is
elf_whole (a ∷ b ∷ c ∷ d ∷ rest) code is = ap begins_as_elf is

both : (a b : Bool) → (a && b) ≡ true → (a ≡ true) × (b ≡ true)
both true b h = (refl, h)
both false b h = cc

few_words : (n : ℕ) → is_word_count n ≡ true → n ≤ most_words
few_words n is = grind (arith, nat_tests)

few_bytes : (n : ℕ) → is_code_length n ≡ true → n ≤ 4 * most_words
few_bytes n is =
    let parts = both (n % 4 == 0) (is_word_count (n / 4)) is in
    let even : n % 4 ≡ 0 = (Decides-eqb (n % 4) 0).0 parts.0 in
    let few : n / 4 ≤ most_words = few_words (n / 4) parts.1 in
    omega (arith, even, few)

too_many : (n : ℕ) → 4 * most_words < n → is_code_length n ≡ false
too_many n more = by (is_code_length n) refl
  where
    by : (b : Bool) → is_code_length n ≡ b → is_code_length n ≡ false
    by true is = absurd (omega (arith, few_bytes n is))
    by false is = is

same_length : (whole : List ℕ) → is_code_length (length (take 768257 whole)) ≡ is_code_length (length whole)
same_length whole = by (length whole - 768257) refl
  where
    by : (beyond : ℕ) → length whole - 768257 ≡ beyond
        → is_code_length (length (take 768257 whole)) ≡ is_code_length (length whole)
    by zero is = ap (λ (l : List ℕ). is_code_length (length l)) (take_all 768257 whole (omega (arith, is)))
    by (suc n) is =
        let long : length (take 768257 whole) ≡ 768257 = length-take-le 768257 whole (omega (arith, is)) in
        too_many (length (take 768257 whole)) (omega (arith, long))
        ∙ sym (too_many (length whole) (omega (arith, is)))

-- the rule that the first bytes break is the one that all of them break
same_rule : (whole : List ℕ) (low : ℕ) (asked : Asked)
    → broken_rule low (length (take 768257 whole)) asked ≡ broken_rule low (length whole) asked
same_rule whole low asked =
    ap
    (λ b. cond b (cond (is_frame_size low asked.frame_bytes)
    (cond (is_step_limit asked.max_steps) None (Some Steps)) (Some Frame)) (Some Length))
    (same_length whole)

unbroken_length : (b : Bool) (later : Option CodeRule) → cond b later (Some Length) ≡ None → b ≡ true
unbroken_length true later h = refl
unbroken_length false later h = cc

-- code that breaks no rule is all there
all_there : (whole : List ℕ) (low : ℕ) (asked : Asked) → broken_rule low (length (take 768257 whole)) asked ≡ None
    → take 768257 whole ≡ whole
all_there whole low asked h =
    let fine : is_code_length (length (take 768257 whole)) ≡ true =
    unbroken_length (is_code_length (length (take 768257 whole))) _ h in
    let few = few_bytes (length whole) (sym (same_length whole) ∙ fine) in
    take_all 768257 whole (omega (arith, few))

pub wrapped_whole : (text whole : List ℕ) (asked : Asked) (bytes : List ℕ)
    → IsWrapped text (take 768257 whole) asked bytes → IsWrapped text whole asked bytes
wrapped_whole text whole asked bytes h =
    subst (λ (code : List ℕ). IsWrapped text code asked bytes) (all_there whole _ asked h.fields.unbroken) h

pub breaks_whole : (text whole : List ℕ) (asked : Asked) (rule : CodeRule)
    → Breaks text (take 768257 whole) asked rule → Breaks text whole asked rule
breaks_whole text whole asked rule h =
    record {
      program = h.program;
      before = h.before;
      export = h.export;
      judged = h.judged;
      first = sym (same_rule whole _ asked) ∙ h.first;
    }
