-- The calls that lead to a step, one step after another.
use Rattle.std.specs.Prelude.{is_some, ◌⊎◌}
use Rattle.std.proofs.Common.{false, inl, inr, Option, Some, true, ◌≡◌, ◌≢◌, ◌<◌, ◌+◌, ◌-◌, ◌∙◌, [], ◌∷◌, ℕ, List, ap}
use Rattle.std.proofs.Common.{arith, length, length-append, refl, subst, sym}
use Rattle.elf_runs.specs.Below.{entries_of, goes_on, Instr, MachineProgram, Observation, ProgramCode, ProgramLeads}
use Rattle.elf_runs.specs.Below.{ProgramStep, RecorderRefused, Size, StandsAt, StandsIn, State, StepEnding, Stop, stops}
use Rattle.rv_programs.specs.Runs.{stays, steps_on}
use Rattle.rv_machine.specs.Leakage.{Done, refused, stopped, went_on}
use Rattle.rv_machine.specs.Effects.{effect_of}
use Rattle.rv_programs.specs.Code.{alignment_of, profile_of}
use Rattle.rv_programs.specs.Fetching.{IsFetched}
use Rattle.rv_programs.specs.declared.program.Fetched.{Fetched}
use Rattle.rv_programs.specs.declared.program.Fetched.TheVariants.{Instruction, Misaligned, Nothing, Unknown}
use Rattle.rv_programs.specs.Programs.{CodeStep, executes, no_instruction, not_code, pc_misaligned}
use Rattle.elf_runs.specs.Calls.{calls_behind, CallsBehind, no_step, step}
use Rattle.elf_runs.proofs.Below.{code_step, ending_own, entries_of-append, goes_on-determined, goes_own, IsOwn}
use Rattle.elf_runs.proofs.Below.{stands_aligned, stands_in_code, stops_own}

-- a step that goes on shows its own program counter

its_own : {s t : State} {o : Observation} {e : StepEnding} → IsOwn s e → e ≡ goes_on o t → o.pc ≡ s.pc
its_own (goes_own {shown = shown} {t = u}) is = cc
its_own (stops_own calm more) is = cc

of_code : {code : ProgramCode} {s t : State} {o : Observation} {e : StepEnding} → CodeStep code s e → e ≡ goes_on o t
    → o.pc ≡ s.pc
of_code (pc_misaligned odd) is = cc
of_code (not_code even none) is = cc
of_code (no_instruction even there none) is = cc
of_code {code} {s} (executes i length at end) is =
    its_own (ending_own length (alignment_of code) (profile_of code) (effect_of i s.pc s.regs) s) (sym end ∙ is)

own_pc : {program : MachineProgram} {s t : State} {o : Observation} → ProgramStep program s (goes_on o t) → o.pc ≡ s.pc
own_pc it = of_code (code_step it).0 refl

-- and an instruction stands there
stands_there : {code : ProgramCode} {s t : State} {o : Observation} {e : StepEnding} → CodeStep code s e
    → e ≡ goes_on o t → (i : Instr) × (length : Size) × StandsIn code s.pc i length
stands_there (pc_misaligned odd) is = cc
stands_there (not_code even none) is = cc
stands_there (no_instruction even there none) is = cc
stands_there (executes i length at end) is = (i, length, at)

pub stands : {program : MachineProgram} {s t : State} {o : Observation} → ProgramStep program s (goes_on o t)
    → (i : Instr) × StandsAt program s.pc i
stands it = let at = stands_there (code_step it).0 refl in (at.0, (at.1, at.2))

-- where nothing was found none does
pub nothing_stands : (program : MachineProgram) (p : ℕ) (found : Fetched) → IsFetched (program.code p) p found
    → (found ≡ Misaligned) ⊎ ((found ≡ Nothing) ⊎ (found ≡ Unknown)) → (i : Instr) → ¬ StandsAt program p i
nothing_stands program p Misaligned odd which = λ i at. odd (stands_aligned at.1)
nothing_stands program p Nothing none which = λ i at. stands_in_code none.1 at.1
nothing_stands program p Unknown none which = λ i at. none.2 i at.0 at.1
nothing_stands program p (Instruction j form) is which = λ i at.
    elim which [ inl e ↦ cc | inr rest ↦ elim rest [ inl e ↦ cc | inr e ↦ cc ] ]

-- a step that was made and did not stop goes on
pub went : {program : MachineProgram} {s t : State} {ending : StepEnding} {answer : Option Stop} {seen : List Observation}
    → ProgramStep program s ending → Done s ending answer t seen → is_some answer ≡ false
    → (o : Observation) × ProgramStep program s (goes_on o t) × (seen ≡ o ∷ [])
went it (went_on {o = o}) calm = (o, it, refl)
went it stopped calm = cc
went it (refused shows) calm = cc

-- one that stopped stops
pub ended : {program : MachineProgram} {s t : State} {ending : StepEnding} {answer : Option Stop} {seen : List Observation}
    → ProgramStep program s ending → Done s ending answer t seen → is_some answer ≡ true → answer ≢ Some RecorderRefused
    → (shown : List Observation) × (stop : Stop) × ProgramStep program s (stops shown stop)
ended it went_on is calm = cc
ended it (stopped {seen = seen} {stop = stop}) is calm = (seen, stop, it)
ended it (refused shows) is calm = absurd (calm refl)

-- from this state, where these calls have been made, these calls lead to the step behind so many entries
abbrev pub LeadOn : MachineProgram → State → List ℕ → ℕ → List ℕ → Type 0
LeadOn program s calls left last =
    (n : ℕ) (seen : List Observation) (t : State)
    → ProgramLeads program n s seen t → length (entries_of seen) ≡ left → CallsBehind program calls seen last

pub at_once : (program : MachineProgram) (s : State) (calls : List ℕ) → LeadOn program s calls 0 calls
at_once program s calls n seen t stays is = no_step
at_once program s calls n seen t (steps_on it rest) is = absurd (omega (arith, is))

pub no_further : (program : MachineProgram) (s : State) (calls last : List ℕ) (left : ℕ)
    → ((o : Observation) (t : State) → ProgramStep program s (goes_on o t) → ⊥) → 0 < left
    → LeadOn program s calls left last
no_further program s calls last left never some n shown t stays is = absurd (omega (arith, is, some))
no_further program s calls last left never some n shown t (steps_on {o = o} {t = u} it rest) is = absurd (never o u it)

pub one_further : (program : MachineProgram) (s t : State) (o : Observation) (i : Instr)
    (calls later last : List ℕ) (left rest : ℕ) → StandsAt program s.pc i → ProgramStep program s (goes_on o t)
    → 0 < left → later ≡ calls_behind s.pc i calls → rest ≡ left - length (entries_of (o ∷ []))
    → LeadOn program t later rest last → LeadOn program s calls left last
one_further program s t o i calls later last left rest at made some are count lead n seen u stays is =
    absurd (omega (arith, is, some))
one_further program s t o i calls later last left rest at made some are count lead n seen u
    (steps_on {n = m} {o = p} {seen = shown} {t = v} it more) is =
    let same = goes_on-determined it made in
    let here : p.pc ≡ s.pc = own_pc it in
    let many : length (entries_of (p ∷ shown)) ≡ length (entries_of (p ∷ [])) + length (entries_of shown) =
    ap length (entries_of-append (p ∷ []) shown) ∙ length-append (entries_of (p ∷ [])) (entries_of shown) in
    let fewer : length (entries_of shown) ≡ rest =
    omega (arith, many, is, count, ap (λ (x : Observation). length (entries_of (x ∷ []))) same.0) in
    let behind : CallsBehind program later shown last =
    lead m shown u (subst (λ (w : State). ProgramLeads program m w shown u) same.1 more) fewer in
    step i (subst (λ p. StandsAt program p i) (sym here) at)
    (subst (λ (cs : List ℕ). CallsBehind program cs shown last)
    (are ∙ ap (λ p. calls_behind p i calls) (sym here)) behind)
