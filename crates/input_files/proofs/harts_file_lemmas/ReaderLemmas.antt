-- What a reader answers for a line, by what the line says.
use Rattle.std.proofs.Common.{◌≡◌, ℕ, ◌+◌, ◌*◌, ◌<◌, ◌≤◌, length, Option, Some, None, Result, Ok, Err, IfOk, refl, sym}
use Rattle.std.proofs.Common.{ap, subst, ◌∙◌, arith}
use Rattle.std.specs.Option.{option_map}
use Rattle.input_files.specs.Below.{HartsRule, most_turns, TooManyTurns}
use Rattle.input_files.specs.harts_file.Lines.{PlannedTurns, rounds, LineContent, some_turns}
use Rattle.input_files.specs.harts_file.Faults.{GivenByLines, rule_of, rule_of_said, rule_of_turns}
use Rattle.input_files.specs.harts_file.private.Reading.{held, given_also, given_with}
use Rattle.input_files.proofs.harts_file_lemmas.RuleLemmas.{breaks_too_many, length-rounds, turns_allowed, held_same}
use Rattle.input_files.proofs.harts_file_lemmas.RuleLemmas.{rule_held}
use Rattle.input_files.proofs.harts_file_lemmas.ReadLemmas.{held_as}

pub too_many_rounds : (harts before count most : ℕ) → 1 ≤ most → harts ≡ most → most_turns < before + count * most
    → Some TooManyTurns ≡ rule_of_turns harts before (rounds count)
too_many_rounds harts before count most h e long =
    sym (subst (λ n. rule_of_turns n before (rounds count) ≡ Some TooManyTurns) (sym e)
    (breaks_too_many most before (rounds count) h refl (omega (arith, long, length-rounds most count))))

-- turns whose numbers are held break the rule that they break, and give what they give where that is none
module _ (given : GivenByLines) (said : Option LineContent) (turns : PlannedTurns)
    (is : Some (some_turns turns) ≡ option_map held said) (few : length given.harts ≤ 8) where
  pub turns_rule : rule_of_said given (some_turns turns) ≡ rule_of given said
  turns_rule =
      let h = held_as said turns is in
      ap (λ t. rule_of_said given (some_turns t)) h.2 ∙ rule_held (length given.harts) (length given.schedule) h.0 few
      ∙ ap (rule_of given) (sym h.1)

  pub turns_given : rule_of_said given (some_turns turns) ≡ None
      → given_also given (some_turns turns) ≡ given_with given said
  turns_given none =
      let h = held_as said turns is in
      let allowed = turns_allowed (length given.harts) (length given.schedule) h.0 (ap (rule_of given) (sym h.1)
      ∙ sym turns_rule ∙ none) in
      let same : turns ≡ h.0 = h.2 ∙ held_same (length given.harts) (length given.schedule) h.0 few allowed in
      ap (λ t. given_also given (some_turns t)) same ∙ ap (given_with given) (sym h.1)

  pub turns_answer : {E : Type 0} (answer : Result (Option HartsRule) E)
      → IfOk answer (λ rule. rule ≡ rule_of_said given (some_turns turns))
      → IfOk answer (λ rule. rule ≡ rule_of given said)
  turns_answer (Ok rule) h = h ∙ turns_rule
  turns_answer (Err e) h = tt

  pub turns_taken : {E : Type 0} (answer : Result (Option HartsRule) E) (new : GivenByLines)
      → IfOk answer (λ rule. rule ≡ rule_of_said given (some_turns turns))
      → IfOk answer (λ rule. rule ≡ None → new ≡ given_also given (some_turns turns))
      → IfOk answer (λ rule. rule ≡ None → new ≡ given_with given said)
  turns_taken (Ok rule) new h k = λ none. k none ∙ turns_given (sym h ∙ none)
  turns_taken (Err e) new h k = tt
