-- Lines that break no rule are a plan's, and a plan's lines break none.
use Rattle.std.proofs.Common.{◌≡◌, ℕ, ◌+◌, ◌<◌, ◌≤◌, Bool, true, false, nat_lt, if◌then◌else◌, List, [], ◌∷◌, ◌++◌}
use Rattle.std.proofs.Common.{length, map, flat_map, All, Option, Some, None, inl, inr, refl, sym, ap, ap₂, subst, ◌∙◌}
use Rattle.std.proofs.Common.{arith, length-append, append_assoc, append-nil}
use Rattle.std.proofs.lemmas.Bool.Decides.{nat_tests}
use Rattle.std.proofs.lemmas.Grind.{flat_map-append}
use Rattle.std.proofs.lemmas.List.{map-append, nil_from_length}
use Rattle.std.proofs.lemmas.List.Elements.{All-nil, All-cons, All-append, filter_map-append}
use Rattle.input_files.specs.Below.{HartCount, most_images, most_turns}
use Rattle.input_files.specs.harts_file.Lines.{PlannedHart, PlannedTurns, LineContent, a_hart, some_turns}
use Rattle.input_files.specs.harts_file.Plans.{turns_listed, is_known, hart_line, turns_line}
use Rattle.input_files.specs.harts_file.Faults.{GivenByLines, given_from, given_by, hart_named, turns_named, harts_of}
use Rattle.input_files.specs.harts_file.Faults.{turns_lines_of, rule_of, AreFine}
use Rattle.input_files.specs.harts_file.private.Reading.{given_with}
use Rattle.input_files.proofs.harts_file_lemmas.ListLemmas.{not_empty, only, split, at_middle, mapped}
use Rattle.input_files.proofs.harts_file_lemmas.RuleLemmas.{hart_allowed, turns_allowed, breaks_none}

-- ---- lines that name harts, and then turns
abbrev pub lines_for : List PlannedHart → List PlannedTurns → List (Option LineContent)
lines_for harts turns = map hart_line harts ++ map turns_line turns

harts_of_turns : (turns : List PlannedTurns) → harts_of (map turns_line turns) ≡ []
harts_of_turns [] = refl
harts_of_turns (t ∷ turns) = harts_of_turns turns

turns_of_turns : (turns : List PlannedTurns) → turns_lines_of (map turns_line turns) ≡ turns
turns_of_turns [] = refl
turns_of_turns (t ∷ turns) = ap (λ l. t ∷ l) (turns_of_turns turns)

pub harts_of-lines : (harts : List PlannedHart) (turns : List PlannedTurns) → harts_of (lines_for harts turns) ≡ harts
harts_of-lines [] turns = harts_of_turns turns
harts_of-lines (h ∷ harts) turns = ap (λ l. h ∷ l) (harts_of-lines harts turns)

pub turns_of-lines : (harts : List PlannedHart) (turns : List PlannedTurns)
    → turns_lines_of (lines_for harts turns) ≡ turns
turns_of-lines [] turns = turns_of_turns turns
turns_of-lines (h ∷ harts) turns = turns_of-lines harts turns

pub given_by-lines : (lines : List (Option LineContent)) (harts : List PlannedHart) (turns : List PlannedTurns)
    → lines ≡ lines_for harts turns → given_by lines ≡ given_from harts turns
given_by-lines lines harts turns e =
    ap₂ given_from (ap harts_of e ∙ harts_of-lines harts turns) (ap turns_lines_of e ∙ turns_of-lines harts turns)

-- ---- what a plan has to keep
pub record AreRight (harts : List PlannedHart) (turns : List PlannedTurns) : Type 0 where
  pub some : 0 < length turns → 1 ≤ length harts
  pub few : length harts ≤ most_images
  pub known : All (λ t. is_known (length harts) t ≡ true) turns
  pub short : length (flat_map (turns_listed (length harts)) turns) ≤ most_turns

pub record Planned (lines : List (Option LineContent)) : Type 0 where
  pub harts : List PlannedHart
  pub turns : List PlannedTurns
  pub shape : lines ≡ lines_for harts turns
  pub right : AreRight harts turns

-- ---- its lines break no rule
fine_hart : (first : List PlannedHart) (one : PlannedHart) → length first < most_images
    → rule_of (given_from first []) (hart_line one) ≡ None
fine_hart first one h =
    let room : nat_lt (length first) most_images ≡ true = grind (arith, nat_tests, h) in
    ap (λ b. if b then None else Some HartCount) room

length-listed : (f : PlannedTurns → List ℕ) (first : List PlannedTurns) (one : PlannedTurns)
    (others : List PlannedTurns) → length (flat_map f first) + length (f one)
    ≤ length (flat_map f (first ++ one ∷ others))
length-listed f first one others =
    omega (
      arith,
      ap length (flat_map-append f first (one ∷ others)),
      length-append (flat_map f first) (f one ++ flat_map f others),
      length-append (f one) (flat_map f others),
    )

fine_turns : (harts : List PlannedHart) (turns first : List PlannedTurns) (one : PlannedTurns)
    (others : List PlannedTurns) → turns ≡ first ++ one ∷ others → AreRight harts turns
    → rule_of (given_from harts first) (turns_line one) ≡ None
fine_turns harts turns first one others e right =
    let P : PlannedTurns → Type 0 = λ t. is_known (length harts) t ≡ true in
    let f : PlannedTurns → List ℕ = turns_listed (length harts) in
    breaks_none (length harts) (length (flat_map f first)) one (record {
      some = right.some (omega (arith, ap length e, length-append first (one ∷ others)));
      known = at_middle P first one others (subst (All P) e right.known);
      short = omega (arith, right.short, ap (λ l. length (flat_map f l)) e, length-listed f first one others);
    })

pub fine_from : (harts : List PlannedHart) (turns : List PlannedTurns) (lines : List (Option LineContent))
    → lines ≡ lines_for harts turns → AreRight harts turns → AreFine lines
fine_from harts turns lines e right front rest line whole =
    elim (split front (map hart_line harts) (map turns_line turns) rest line (sym e ∙ whole)) [
      | inl h ↦ (
          let m = mapped hart_line harts front h.0 line h.1 in
          let given = given_by-lines front m.first [] (m.front_is ∙ sym (append-nil (map hart_line m.first))) in
          ap₂ rule_of given m.is
          ∙ fine_hart m.first m.one
          (omega (arith, right.few, ap length m.whole, length-append m.first (m.one ∷ m.others))))
      | inr h ↦ (
          let m = mapped turns_line turns h.0 rest line h.2 in
          let given = given_by-lines front harts m.first (h.1 ∙ ap (λ l. map hart_line harts ++ l) m.front_is) in
          ap₂ rule_of given m.is ∙ fine_turns harts turns m.first m.one m.others m.whole right)
    ]

-- ---- one line more
pub fine-more : (lines : List (Option LineContent)) (line : Option LineContent) → AreFine lines
    → rule_of (given_by lines) line ≡ None → AreFine (lines ++ line ∷ [])
fine-more lines line fine none front rest l e =
    elim (split front lines (line ∷ []) rest l e) [
      | inl h ↦ fine front h.0 l h.1
      | inr h ↦ (
          let o = only h.0 rest line l h.2 in
          ap₂ (λ f x. rule_of (given_by f) x) (h.1 ∙ ap (λ f. lines ++ f) o.0 ∙ append-nil lines) (sym o.1) ∙ none)
    ]

pub fine-none : AreFine []
fine-none front rest line e = absurd (not_empty front rest line e)

pub planned-none : Planned []
planned-none = record {
  harts = [];
  turns = [];
  shape = refl;
  right = record {
    some = λ h. absurd (omega arith);
    few = omega arith;
    known = All-nil (λ t. is_known 0 t ≡ true);
    short = omega arith;
  };
}

no_turns : (turns : List PlannedTurns) → nat_lt 0 (length turns) ≡ false → turns ≡ []
no_turns turns e = nil_from_length turns (grind (arith, nat_tests, e))

planned-hart : (lines : List (Option LineContent)) (hart : PlannedHart) → Planned lines
    → rule_of (given_by lines) (Some (a_hart hart)) ≡ None → Planned (lines ++ Some (a_hart hart) ∷ [])
planned-hart lines hart p none =
    let given = given_by-lines lines p.harts p.turns p.shape in
    let allowed = hart_allowed (nat_lt 0 (length p.turns)) (nat_lt (length p.harts) most_images)
    (ap (λ g. rule_of g (Some (a_hart hart))) (sym given) ∙ none) in
    let empty = no_turns p.turns allowed.0 in
    record {
      harts = p.harts ++ hart ∷ [];
      turns = [];
      shape = rw (p.shape, empty) (simp (append-nil, map-append));
      right = record {
        some = λ h. absurd (omega arith);
        few = grind (arith, nat_tests, allowed.1, length-append p.harts (hart ∷ []));
        known = All-nil (λ t. is_known (length (p.harts ++ hart ∷ [])) t ≡ true);
        short = omega arith;
      };
    }

planned-turns : (lines : List (Option LineContent)) (t : PlannedTurns) → Planned lines
    → rule_of (given_by lines) (Some (some_turns t)) ≡ None → Planned (lines ++ Some (some_turns t) ∷ [])
planned-turns lines t p none =
    let given = given_by-lines lines p.harts p.turns p.shape in
    let f : PlannedTurns → List ℕ = turns_listed (length p.harts) in
    let P : PlannedTurns → Type 0 = λ u. is_known (length p.harts) u ≡ true in
    let allowed = turns_allowed (length p.harts) (length (flat_map f p.turns)) t
    (ap (λ g. rule_of g (Some (some_turns t))) (sym given) ∙ none) in
    record {
      harts = p.harts;
      turns = p.turns ++ t ∷ [];
      shape = rw p.shape (simp (append_assoc, map-append));
      right = record {
        some = λ h. allowed.some;
        few = p.right.few;
        known = All-append P p.turns (t ∷ []) p.right.known (All-cons P t [] allowed.known (All-nil P));
        short = omega (
          arith,
          allowed.short,
          ap length (flat_map-append f p.turns (t ∷ [])),
          length-append (flat_map f p.turns) (f t ++ []),
          length-append (f t) [],
        );
      };
    }

pub planned-more : (lines : List (Option LineContent)) (line : Option LineContent) → Planned lines
    → rule_of (given_by lines) line ≡ None → Planned (lines ++ line ∷ [])
planned-more lines None p none = cc
planned-more lines (Some (a_hart hart)) p none = planned-hart lines hart p none
planned-more lines (Some (some_turns t)) p none = planned-turns lines t p none

-- ---- what is given with one line more
abbrev made : List PlannedHart → Bool → List ℕ → GivenByLines
made harts begun schedule = record { harts = harts; has_turns = begun; schedule = schedule }

given_by-hart : (lines : List (Option LineContent)) (hart : PlannedHart)
    → rule_of (given_by lines) (Some (a_hart hart)) ≡ None
    → given_by (lines ++ Some (a_hart hart) ∷ []) ≡ given_with (given_by lines) (Some (a_hart hart))
given_by-hart lines hart none =
    let allowed = hart_allowed (nat_lt 0 (length (turns_lines_of lines)))
    (nat_lt (length (harts_of lines)) most_images) none in
    let empty = no_turns (turns_lines_of lines) allowed.0 in
    ap₂ given_from (filter_map-append hart_named lines (Some (a_hart hart) ∷ []))
    (filter_map-append turns_named lines (Some (a_hart hart) ∷ []) ∙ append-nil (turns_lines_of lines) ∙ empty)
    ∙ ap (λ ts. given_with (given_from (harts_of lines) ts) (Some (a_hart hart))) (sym empty)

given_by-turns : (lines : List (Option LineContent)) (t : PlannedTurns)
    → given_by (lines ++ Some (some_turns t) ∷ []) ≡ given_with (given_by lines) (Some (some_turns t))
given_by-turns lines t =
    let harts = harts_of lines in
    let turns = turns_lines_of lines in
    let f : PlannedTurns → List ℕ = turns_listed (length harts) in
    let begun : nat_lt 0 (length (turns ++ t ∷ [])) ≡ true = grind (arith, nat_tests, length-append turns (t ∷ [])) in
    ap₂ given_from (filter_map-append hart_named lines (Some (some_turns t) ∷ []) ∙ append-nil harts)
    (filter_map-append turns_named lines (Some (some_turns t) ∷ []))
    ∙ ap₂ (made harts) begun (flat_map-append f turns (t ∷ []) ∙ ap (λ l. flat_map f turns ++ l) (append-nil (f t)))

pub given_by-more : (lines : List (Option LineContent)) (line : Option LineContent) → rule_of
    (given_by lines) line ≡ None
    → given_by (lines ++ line ∷ []) ≡ given_with (given_by lines) line
given_by-more lines None none = cc
given_by-more lines (Some (a_hart hart)) none = given_by-hart lines hart none
given_by-more lines (Some (some_turns t)) none = given_by-turns lines t
