-- The answer that a text has.
use Rattle.std.proofs.Common.{◌≡◌, ◌⊎◌, ℕ, ◌+◌, ◌≤◌, List, [], ◌∷◌, ◌++◌, length, map, flat_map, Option, Some, None}
use Rattle.std.proofs.Common.{inl, inr, refl, sym, ap, ap₂, subst, ◌∙◌, arith, append_assoc, append-nil}
use Rattle.std.proofs.lemmas.Bool.{cases_lt}
use Rattle.std.proofs.lemmas.List.{length-map, nil_from_length}
use Rattle.std.proofs.lemmas.Option.{none-some, same_Some}
use Rattle.input_files.specs.Below.{HartCount, HartsRule}
use Rattle.input_files.specs.harts_file.Lines.{PlannedHart, PlannedTurns, LineContent, lines_of, said_of, said_in}
use Rattle.input_files.specs.harts_file.Plans.{turns_listed, IsPlan}
use Rattle.input_files.specs.harts_file.Faults.{GivenByLines, given_from, given_by, rule_of, AreFine, IsFault, of_line}
use Rattle.input_files.specs.harts_file.Faults.{of_none, harts_of, turns_lines_of}
use Rattle.input_files.proofs.harts_file_lemmas.ListLemmas.{not_empty, same_head, split}
use Rattle.input_files.proofs.harts_file_lemmas.PlanLemmas.{lines_for, harts_of-lines, turns_of-lines, given_by-lines}
use Rattle.input_files.proofs.harts_file_lemmas.PlanLemmas.{AreRight, Planned, fine_from, fine-more, fine-none}
use Rattle.input_files.proofs.harts_file_lemmas.PlanLemmas.{planned-none, planned-more}

-- ---- where no line breaks a rule
pub plan_given : (text : List ℕ) (given : GivenByLines) → Planned (said_in text) → given ≡ given_by (said_in text)
    → 1 ≤ length given.harts → IsPlan text given.harts given.schedule
plan_given text given p e some =
    let same : given ≡ given_from p.harts p.turns = e ∙ given_by-lines (said_in text) p.harts p.turns p.shape in
    rw same (record {
      turns = p.turns;
      lines = p.shape;
      some = rw same at some;
      few = p.right.few;
      known = p.right.known;
      listed = refl;
      short = p.right.short;
    })

no_line : (harts : List PlannedHart) (turns : List PlannedTurns) → AreRight harts turns → length harts ≡ 0
    → lines_for harts turns ≡ []
no_line [] [] right e = refl
no_line [] (t ∷ turns) right e = absurd (omega (arith, right.some (omega arith)))
no_line (h ∷ harts) turns right e = absurd (omega arith)

pub none_given : (text : List ℕ) (given : GivenByLines) → Planned (said_in text) → given ≡ given_by (said_in text)
    → length given.harts ≡ 0 → IsFault text HartCount 1
none_given text given p e none =
    let same : given ≡ given_from p.harts p.turns = e ∙ given_by-lines (said_in text) p.harts p.turns p.shape in
    let empty : said_in text ≡ [] = p.shape ∙ no_line p.harts p.turns p.right (rw same at none) in
    of_none (nil_from_length (lines_of text) (sym (length-map (lines_of text) said_of) ∙ ap length empty))

-- ---- each text has an answer
abbrev pub Answer : List ℕ → Type 0
Answer text = ((harts : List PlannedHart) × (schedule : List ℕ) × IsPlan text harts schedule)
    ⊎ ((rule : HartsRule) × (line : ℕ) × IsFault text rule line)

all_fine : (text : List ℕ) → Planned (said_in text) → Answer text
all_fine text p =
    let given : GivenByLines = given_by (said_in text) in
    elim (cases_lt 0 (length given.harts)) [
      | inl h ↦ inl (given.harts, given.schedule, plan_given text given p refl (omega arith))
      | inr h ↦ inr (HartCount, 1, none_given text given p refl (omega arith))
    ]

goes_on : (text : List ℕ) (front rest : List (Option LineContent)) → said_in text ≡ front ++ rest → AreFine front
    → Planned front → Answer text
goes_on text front [] e fine p = all_fine text (subst Planned (sym (e ∙ append-nil front)) p)
goes_on text front (line ∷ rest) e fine p =
    let case = elim (rule_of (given_by front) line) as (λ o. rule_of (given_by front) line ≡ o → Answer text) [
      | None ↦ λ is. goes_on text (front ++ line ∷ []) rest (e ∙ sym (append_assoc front (line ∷ []) rest))
          (fine-more front line fine is) (planned-more front line p is)
      | Some rule ↦ λ is. inr (rule, length front + 1, of_line front rest line rule e fine is)
    ] in
    case refl

pub each_has_one : (text : List ℕ) → Answer text
each_has_one text = goes_on text [] (said_in text) refl fine-none planned-none

-- ---- and no other
right_from : (text : List ℕ) (harts : List PlannedHart) (schedule : List ℕ) (p : IsPlan text harts schedule)
    → AreRight harts p.turns
right_from text harts schedule p = record {
  some = λ h. p.some;
  few = p.few;
  known = p.known;
  short = subst (λ (l : List ℕ). length l ≤ 1048576) p.listed p.short;
}

pub one_plan : (text : List ℕ) (harts harts' : List PlannedHart) (schedule schedule' : List ℕ)
    → IsPlan text harts schedule → IsPlan text harts' schedule' → (harts ≡ harts') × (schedule ≡ schedule')
one_plan text harts harts' schedule schedule' p q =
    let shapes : lines_for harts p.turns ≡ lines_for harts' q.turns = sym p.lines ∙ q.lines in
    let same : harts ≡ harts' = sym (harts_of-lines harts p.turns) ∙ ap harts_of shapes
    ∙ harts_of-lines harts' q.turns in
    let turns : p.turns ≡ q.turns = sym (turns_of-lines harts p.turns) ∙ ap turns_lines_of shapes
    ∙ turns_of-lines harts' q.turns in (
      same,
      p.listed ∙ ap₂ (λ (hs : List PlannedHart) ts. flat_map (turns_listed (length hs)) ts) same turns
          ∙ sym q.listed,
    )

pub not_both : (text : List ℕ) (harts : List PlannedHart) (schedule : List ℕ) (rule : HartsRule) (line : ℕ)
    → IsPlan text harts schedule → IsFault text rule line → ⊥
not_both text harts schedule rule line p (of_line front rest said broken_rule e fine broken) =
    let none = fine_from harts p.turns (said_in text) p.lines (right_from text harts schedule p) front rest said e in
    none-some broken_rule (sym none ∙ broken)
not_both text harts schedule rule line p (of_none e) =
    let empty : [] ≡ lines_for harts p.turns = ap (map said_of) (sym e) ∙ p.lines in
    nobody harts p.turns p.some empty
  where
    nobody : (hs : List PlannedHart) (ts : List PlannedTurns) → 1 ≤ length hs → [] ≡ lines_for hs ts → ⊥
    nobody [] ts h k = omega arith
    nobody (x ∷ hs) ts h k = omega (arith, ap length k)

-- of two first faults none comes before the other
same_fault : (front front' rest rest' : List (Option LineContent)) (line line' : Option LineContent)
    (rule rule' : HartsRule)
    → front ++ line ∷ rest ≡ front' ++ line' ∷ rest' → AreFine front → AreFine front'
    → rule_of (given_by front) line ≡ Some rule → rule_of (given_by front') line' ≡ Some rule'
    → (rule ≡ rule') × (length front + 1 ≡ length front' + 1)
same_fault front front' rest rest' line line' rule rule' e fine fine' broken broken' =
    elim (split front front' (line' ∷ rest') rest line (sym e)) [
      | inl h ↦ absurd (none-some rule (sym (fine' front h.0 line h.1) ∙ broken))
      | inr h ↦ by h.0 h.1 h.2
    ]
  where
    by : (f : List (Option LineContent)) → front ≡ front' ++ f → line' ∷ rest' ≡ f ++ line ∷ rest
        → (rule ≡ rule') × (length front + 1 ≡ length front' + 1)
    by [] a b =
        let fronts : front ≡ front' = a ∙ append-nil front' in
        let lines : line' ≡ line = same_head line' line rest' rest b in
        let rules : Some rule ≡ Some rule' = sym broken ∙ ap₂ (λ f x. rule_of (given_by f) x) fronts (sym lines)
        ∙ broken' in
        (same_Some rule rule' rules, ap (λ l. length l + 1) fronts)
    by (x ∷ f) a b =
        let first : line' ≡ x = same_head line' x rest' (f ++ line ∷ rest) b in
        absurd (none-some rule' (sym (fine front' f line' (a ∙ ap (λ y. front' ++ y ∷ f) (sym first))) ∙ broken'))

pub one_fault : (text : List ℕ) (rule rule' : HartsRule) (line line' : ℕ) → IsFault text rule line
    → IsFault text rule' line' → (rule ≡ rule') × (line ≡ line')
one_fault text rule rule' line line' (of_line front rest said broken_rule e fine broken)
    (of_line front' rest' said' broken_rule' e' fine' broken') =
    same_fault front front' rest rest' said said' broken_rule broken_rule' (sym e ∙ e') fine fine' broken broken'
one_fault text rule rule' line line' (of_line front rest said broken_rule e fine broken) (of_none none) =
    absurd (not_empty front rest said (ap (map said_of) (sym none) ∙ e))
one_fault text rule rule' line line' (of_none none) (of_line front rest said broken_rule e fine broken) =
    absurd (not_empty front rest said (ap (map said_of) (sym none) ∙ e))
one_fault text rule rule' line line' (of_none none) (of_none none') = (refl, refl)
