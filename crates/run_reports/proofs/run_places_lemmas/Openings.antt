-- The first entry of a run, and how far two runs reach that differ.
use Rattle.std.specs.Prelude.{slice_get}
use Rattle.std.proofs.Common.{◌≡◌, ◌≢◌, ℕ, zero, suc, ◌%◌, ◌<◌, ◌≤◌, ◌⊎◌, List, [], ◌∷◌, Option, Some, None, length}
use Rattle.std.proofs.Common.{take, refl, sym, ap, ◌∙◌, inl, inr, arith}
use Rattle.rv_code.specs.Words.{word_of}
use Rattle.run_reports.specs.Below.{MachineCode, cut_short, effect_of, StepEnding, entries_of, Entry, executes, goes_on}
use Rattle.run_reports.specs.Below.{halted, halts, IsFirstDifference, no_instruction, not_code, Observation}
use Rattle.run_reports.specs.Below.{pc_misaligned, program_counter, RecorderRefused, RunsWithin, spent, State, stays}
use Rattle.run_reports.specs.Below.{Stop, stops, Step, steps_on, word_at}
use Rattle.run_reports.proofs.run_places_lemmas.Below.{IsOwn, goes_own, stops_own, effect_own, Runs-determined}
use Rattle.run_reports.specs.run_places.Places.{Ends, ShowsNext, IsLastBefore, ShowsFewer}

-- A step shows its program counter first where a word stands there, and nothing where none does.

abbrev shown_by : StepEnding → List Observation
shown_by (goes_on o t) = o ∷ []
shown_by (stops seen stop) = seen

abbrev first_entry : List Observation → Option Entry
first_entry [] = None
first_entry (o ∷ list) = Some (program_counter o.pc)

abbrev Stands : MachineCode → ℕ → Type 0
Stands code pc = (pc % 4 ≡ 0) × (word_at code pc ≢ None)

abbrev Opens : MachineCode → ℕ → Option Entry → Type 0
Opens code pc first = ((first ≡ None) × (Stands code pc → ⊥)) ⊎ ((first ≡ Some (program_counter pc)) × Stands code pc)

stands : (code : MachineCode) (pc word : ℕ) → pc % 4 ≡ 0 → word_at code pc ≡ Some word → Stands code pc
stands code pc word even is = (even, λ none. cc)

opens_here : {s : State} {e : StepEnding} → IsOwn s e → first_entry (shown_by e) ≡ Some (program_counter s.pc)
opens_here goes_own = refl
opens_here (stops_own calm more) = refl

step_opens : {code : MachineCode} {s : State} {e : StepEnding} → Step code s e → Opens code s.pc
    (first_entry (shown_by e))
step_opens (pc_misaligned odd) = inl (refl, λ there. odd there.0)
step_opens (not_code even none) = inl (refl, λ there. there.1 none)
step_opens {code} {s} (no_instruction {word = word} even is misfit) = inr (refl, stands code s.pc word even is)
step_opens {code} {s} (executes {ending = e} i even is ok ends) =
    inr (
      opens_here {s = s} {e = e} (rw ends (effect_own code.profile (effect_of i s.pc s.regs) s)),
      stands code s.pc (word_of i) even is,
    )

shown_opens : (code : MachineCode) (t : State) (o : Observation) → ShowsNext code t o
    → Opens code t.pc (Some (program_counter o.pc))
shown_opens code t o (inl (u, step)) = step_opens step
shown_opens code t o (inr (stop, step)) = step_opens step

pub word_before : (code : MachineCode) (budget : ℕ) (s t : State) (place : ℕ) (seen : List Observation)
    → IsLastBefore code budget s place seen t → word_at code t.pc ≢ None
word_before code budget s t place seen last = by (shown_opens code t last.next last.shown)
  where
    by : Opens code t.pc (Some (program_counter last.next.pc)) → word_at code t.pc ≢ None
    by (inl (none, missing)) = cc
    by (inr (is, there)) = there.1

-- A run begins as its first step does, where it makes any.

abbrev Begins : MachineCode → ℕ → State → List Observation → Type 0
Begins code budget s whole = ((budget ≡ 0) × (whole ≡ [])) ⊎ ((0 < budget) × Opens code s.pc (first_entry whole))

begins : (code : MachineCode) (budget : ℕ) (s end : State) (whole : List Observation) (stop : Stop)
    → RunsWithin code budget s whole stop end → stop ≢ RecorderRefused → Begins code budget s whole
begins code budget s end whole stop (halted within (halts stays step is)) calm =
    inr (omega (arith, within), rw is (step_opens step))
begins code budget s end whole stop (halted within (halts (steps_on first rest) step is)) calm =
    inr (omega (arith, within), rw is (step_opens first))
begins code budget s end whole stop (cut_short within led step shows) calm = absurd (calm refl)
begins code budget s end whole stop (spent stays) calm = inl (refl, refl)
begins code budget s end whole stop (spent (steps_on first rest)) calm = inr (omega arith, step_opens first)

-- Two runs that begin at one program counter show the same first, and each reaches the place of their first
-- difference.

first_at : (list : List Observation) → slice_get (entries_of list) 0 ≡ first_entry list
first_at [] = refl
first_at (o ∷ list) = refl

one_opening : (code : MachineCode) (pc : ℕ) (first second : Option Entry) → Opens code pc first → Opens code pc second
    → first ≡ second
one_opening code pc first second (inl (is, missing)) (inl (also, missing')) = is ∙ sym also
one_opening code pc first second (inl (is, missing)) (inr (also, there)) = absurd (missing there)
one_opening code pc first second (inr (is, there)) (inl (also, missing)) = absurd (missing there)
one_opening code pc first second (inr (is, there)) (inr (also, there')) = is ∙ sym also

one_beginning : (code : MachineCode) (budget : ℕ) (s s' : State) (whole whole' : List Observation) → s.pc ≡ s'.pc
    → Begins code budget s whole → Begins code budget s' whole' → first_entry whole ≡ first_entry whole'
one_beginning code budget s s' whole whole' same (inl (none, is)) (inl (also, is')) = ap first_entry (is ∙ sym is')
one_beginning code budget s s' whole whole' same (inl (none, is)) (inr (some, opens)) =
    absurd (omega (arith, none, some))
one_beginning code budget s s' whole whole' same (inr (some, opens)) (inl (none, is)) =
    absurd (omega (arith, none, some))
one_beginning code budget s s' whole whole' same (inr (some, opens)) (inr (also, opens')) =
    one_opening code s.pc (first_entry whole) (first_entry whole') opens (rw same opens')

pub difference_within : (one other : List Entry) (place : ℕ) → IsFirstDifference one other place
    → (place ≤ length one) × (place ≤ length other)
difference_within one other zero differ = (omega arith, omega arith)
difference_within [] [] (suc place) differ = absurd (differ.there refl)
difference_within [] (y ∷ other) (suc place) differ = let apart : [] ≡ y ∷ take place other = differ.before in cc
difference_within (x ∷ one) [] (suc place) differ = let apart : x ∷ take place one ≡ [] = differ.before in cc
difference_within (x ∷ one) (y ∷ other) (suc place) differ =
    let same : x ∷ take place one ≡ y ∷ take place other = differ.before in
    let rest : take place one ≡ take place other = cc in
    let further : IsFirstDifference one other place = record { before = rest; there = differ.there } in
    let within = difference_within one other place further in
    (omega (arith, within.0), omega (arith, within.1))

enough : (code : MachineCode) (budget : ℕ) (s : State) (whole : List Observation) (stop : Stop) (place : ℕ)
    → Ends code budget s whole stop → place ≤ length (entries_of whole) → ShowsFewer code budget s place → ⊥
enough code budget s whole stop place ends within (seen, stop', ends', few) =
    let same : whole ≡ seen = (Runs-determined ends.1 ends'.1 ends.2 ends'.2).0 in
    absurd (omega (arith, within, few, ap (λ l. length (entries_of l)) same))

pub difference_reached : (code : MachineCode) (budget : ℕ) (s s' : State) (whole whole' : List Observation)
    (stop stop' : Stop) (place : ℕ)
    → Ends code budget s whole stop → Ends code budget s' whole' stop' → s.pc ≡ s'.pc
    → IsFirstDifference (entries_of whole) (entries_of whole') place
    → (0 < place) × (ShowsFewer code budget s place → ⊥) × (ShowsFewer code budget s' place → ⊥)
difference_reached code budget s s' whole whole' stop stop' place ends ends' same differ =
    let within = difference_within (entries_of whole) (entries_of whole') place differ in
    let first : first_entry whole ≡ first_entry whole' =
    one_beginning code budget s s' whole whole' same (begins code budget s ends.0 whole stop ends.1 ends.2)
    (begins code budget s' ends'.0 whole' stop' ends'.1 ends'.2) in (
      later place differ.there first,
      enough code budget s whole stop place ends within.0,
      enough code budget s' whole' stop' place ends' within.1,
    )
  where
    later : (n : ℕ) → slice_get (entries_of whole) n ≢ slice_get (entries_of whole') n
        → first_entry whole ≡ first_entry whole' → 0 < n
    later zero there first = absurd (there (first_at whole ∙ (first ∙ sym (first_at whole'))))
    later (suc n) there first = omega arith
