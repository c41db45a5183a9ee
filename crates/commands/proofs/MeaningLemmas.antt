-- What is meant by the text of a file: it holds a program, which is evaluated within the budget.
use Rattle.std.proofs.Common.{◌≡◌, ◌≢◌, ℕ, List, Result, Ok, Err, refl, ap, ◌∙◌, subst}
use Rattle.commands.specs.Contents.{Contents}
use Rattle.commands.specs.Meanings.{HoldsProgram}
use Rattle.commands.specs.Sources.{IsReadFrom}
use Rattle.commands.specs.Below.{accepts, EvalFault, Judges, P1, ProcedureTree, ProgramTree, Results}
use Rattle.source_eval.specs.declared.fault.EvalFault.TheVariants.{Argument, NoMeaning, Budget, Memory}

pub program_held : {files : Contents} {paths : List (List ℕ)} {path text judged : List ℕ}
    {by_lines : List (List ℕ × ℕ)} {program : ProgramTree} {before : List ProcedureTree} {export : ProcedureTree}
    → IsReadFrom files paths path text by_lines → judged ≡ text → Judges P1 judged (accepts program before export)
    → HoldsProgram files paths path program export
program_held {program = program} {before} {export} read same accepted = record {
  libraries = read.libraries;
  text = read.last;
  before = before;
  held = read.holds;
  accepted = subst (λ (t : List ℕ). Judges P1 t (accepts program before export)) (same ∙ read.is) accepted;
}

-- an answer of `eval`
abbrev Answered : Type 0
Answered = Result Results EvalFault

abbrev failing : EvalFault → Answered
failing fault = Err fault

abbrev giving : Results → Answered
giving outcome = Ok outcome

-- where the meaning is known, a fault is out of memory
pub only_memory : (fault : EvalFault) (answer : Answered) (results : Results) → answer ≡ giving results
    → (failing fault ≢ failing Memory → failing fault ≡ answer) → fault ≡ Memory
only_memory (Argument why) answer results is exact = let both = exact (λ e. cc) ∙ is in cc
only_memory (NoMeaning place) answer results is exact = let both = exact (λ e. cc) ∙ is in cc
only_memory Budget answer results is exact = let both = exact (λ e. cc) ∙ is in cc
only_memory Memory answer results is exact = refl

-- and an outcome is the one that is meant
pub same_outcome : (outcome results : Results) (answer : Answered) → answer ≡ giving results
    → (giving outcome ≢ failing Memory → giving outcome ≡ answer) → results ≡ outcome
same_outcome outcome results answer is exact = let both = exact (λ e. cc) ∙ is in cc

-- the answer is that outcome
pub answered : (outcome results : Results) (answer : Answered) → answer ≡ giving results → results ≡ outcome
    → answer ≡ giving outcome
answered outcome results answer is same = is ∙ ap giving same
