-- Violations of a joined text, as they are told one after the other.
use Rattle.std.proofs.Common.{◌≡◌, ◌<◌, ◌+◌, ◌++◌, ◌∷◌, [], ℕ, Bool, List, length, take, get_or, ap, sym, ◌∙◌, subst, add-one}
use Rattle.std.proofs.Common.{arith, codes, refl}
use Rattle.std.proofs.Math.Seq.{take-suc}
use Rattle.commands.specs.Below.{ListsViolations, numbered_of, Profile, Refusal, TellsOf, Violation}
use Rattle.commands.specs.Contents.{Contents}
use Rattle.commands.specs.Judged.{IsToldBy}
use Rattle.commands.specs.Sources.{IsReadFrom, joined}
use Rattle.commands.specs.Violations.{AreToldBy, fault_lines, ListsSource, one_more_told, SaysViolations}
use Rattle.commands.specs.declared.fault.Fault.{Fault}
use Rattle.image_reports.specs.declared.source_places.Library.{Library}

-- one more is told
pub told_more : {text : List ℕ} {by_lines : List (List ℕ × ℕ)} {explain : Bool} {faults : List Fault} {fault : Fault}
    (found : List Violation) (i : ℕ) (none : Violation) (refusal : Refusal) → i < length found
    → AreToldBy text by_lines explain (take i found) faults → TellsOf refusal (get_or found i none)
    → IsToldBy text by_lines refusal explain fault
    → AreToldBy text by_lines explain (take (i + 1) found) (faults ++ fault ∷ [])
told_more {text} {by_lines} {explain} {faults} {fault} found i none refusal low told tells by =
    subst (λ (vs : List Violation). AreToldBy text by_lines explain vs (faults ++ fault ∷ []))
    (sym (ap (λ (n : ℕ). take n found) (add-one i) ∙ take-suc found i none low))
    (one_more_told refusal told tells by)

-- what was told of texts and libraries as they were lent
pub told_as_lent : {text lent : List ℕ} {libraries lent_libraries : List Library} {explain : Bool}
    {found lent_found : List Violation} {faults : List Fault} → lent ≡ text → lent_libraries ≡ libraries
    → lent_found ≡ found → AreToldBy lent (numbered_of lent_libraries) explain lent_found faults
    → AreToldBy text (numbered_of libraries) explain found faults
told_as_lent {explain = explain} {faults = faults} is are all told = rw (is, are, all) at told

-- and as what libraries and a file hold
pub lists_source : {explain : Bool} {profile : Profile} {files : Contents} {paths : List (List ℕ)} {path text : List ℕ}
    {by_lines : List (List ℕ × ℕ)} (found : List Violation) (faults : List Fault)
    → IsReadFrom files paths path text by_lines → ListsViolations profile text found
    → AreToldBy text by_lines explain found faults → ListsSource explain profile files paths path faults
lists_source {explain} {profile} {text = text} {by_lines} found faults read listed told = record {
  libraries = read.libraries;
  text = read.last;
  violations = found;
  held = read.holds;
  listed = subst (λ (t : List ℕ). ListsViolations profile t found) read.is listed;
  told = subst (λ (ls : List (List ℕ × ℕ)). AreToldBy (joined read.libraries read.last) ls explain found faults) read.lines
      (subst (λ (t : List ℕ). AreToldBy t by_lines explain found faults) read.is told);
}

-- what is answered: nothing is listed, or something
pub says_none : {explain : Bool} {profile : Profile} {files : Contents} {paths : List (List ℕ)} {path : List ℕ}
    (found : List Fault) → length found ≡ 0 → ListsSource explain profile files paths path found
    → SaysViolations explain profile files paths path (codes "accepted\n") 0
says_none [] none lists = ([], lists, refl, refl)
says_none (fault ∷ others) none lists = absurd (omega (arith, none))

pub says_some : {explain : Bool} {profile : Profile} {files : Contents} {paths : List (List ℕ)} {path : List ℕ}
    (found : List Fault) → 0 < length found → ListsSource explain profile files paths path found
    → SaysViolations explain profile files paths path (fault_lines found) 1
says_some [] some lists = absurd (omega (arith, some))
says_some (fault ∷ others) some lists = (fault ∷ others, lists, refl, refl)
