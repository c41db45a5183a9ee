-- The turns of a plan are those of its harts.
use Rattle.std.proofs.Common.{◌≡◌, ℕ, zero, suc, ◌<◌, true, List, [], ◌∷◌, length, flat_map, All, sym, ◌∙◌, arith}
use Rattle.std.proofs.lemmas.Bool.Decides.{nat_tests}
use Rattle.std.proofs.lemmas.List.Elements.{All-nil, All-append, All-head, All-tail, All-replicate}
use Rattle.std.proofs.lemmas.List.FromFn.{get_or-range_with_len, length-range_with_len}
use Rattle.std.specs.List.{range_with_len, repeat}
use Rattle.input_files.specs.harts_file.Lines.{PlannedTurns, turns_of, rounds, said_in}
use Rattle.input_files.specs.harts_file.Plans.{turns_listed, is_known}
use Rattle.input_files.specs.harts_file.Faults.{GivenByLines, given_from, given_by}
use Rattle.input_files.proofs.harts_file_lemmas.PlanLemmas.{Planned, given_by-lines}

module _ (harts : ℕ) where
  abbrev AreBelow : List ℕ → Type 0
  AreBelow numbers = All (λ hart. hart < harts) numbers

  below_range : AreBelow (range_with_len 0 harts)
  below_range =
      λ k d l. omega (
        arith,
        get_or-range_with_len 0 harts k d (omega (arith, l, length-range_with_len 0 harts)),
        length-range_with_len 0 harts,
      )

  below_repeat : (n : ℕ) (numbers : List ℕ) → AreBelow numbers → AreBelow (repeat n numbers)
  below_repeat zero numbers h = All-nil (λ hart. hart < harts)
  below_repeat (suc n) numbers h =
      All-append (λ hart. hart < harts) numbers (repeat n numbers) h (below_repeat n numbers h)

  below_listed : (turns : PlannedTurns) → is_known harts turns ≡ true → AreBelow (turns_listed harts turns)
  below_listed (turns_of hart count) known =
      All-replicate (λ number. number < harts) count hart (grind (arith, nat_tests, known))
  below_listed (rounds count) known = below_repeat count (range_with_len 0 harts) below_range

  below_all : (turns : List PlannedTurns) → All (λ t. is_known harts t ≡ true) turns
      → AreBelow (flat_map (turns_listed harts) turns)
  below_all [] known = All-nil (λ hart. hart < harts)
  below_all (t ∷ turns) known =
      All-append (λ hart. hart < harts) (turns_listed harts t) (flat_map (turns_listed harts) turns)
      (below_listed t (All-head (λ u. is_known harts u ≡ true) t turns known))
      (below_all turns (All-tail (λ u. is_known harts u ≡ true) t turns known))

pub known_given : (text : List ℕ) (given : GivenByLines) → Planned (said_in text) → given ≡ given_by (said_in text)
    → (harts : ℕ) → length given.harts ≡ harts → All (λ hart. hart < harts) given.schedule
known_given text given p e harts count =
    let same : given ≡ given_from p.harts p.turns = e ∙ given_by-lines (said_in text) p.harts p.turns p.shape in
    rw (sym count, same) (below_all (length p.harts) p.turns p.right.known)
