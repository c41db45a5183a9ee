-- All that a source violates, as it is told.
use Rattle.std.specs.Prelude.{◌≡◌, Bool, ℕ, List, [], ◌∷◌, ◌++◌, codes}
use Rattle.std.specs.List.{flat_map}
use Rattle.commands.specs.Below.{ListsViolations, Profile, Refusal, TellsOf, Violation}
use Rattle.commands.specs.Contents.{Contents}
use Rattle.commands.specs.FaultText.{fault_line}
use Rattle.commands.specs.Judged.{IsToldBy}
use Rattle.commands.specs.Sources.{HoldsSources, joined, LibraryText, numbered}
use Rattle.commands.specs.declared.fault.Fault.{Fault}

-- violations of a joined text and the faults by which they are told, one after the other
pub data AreToldBy (text : List ℕ) (by_lines : List (List ℕ × ℕ)) (explain : Bool) : List Violation → List Fault
    → Type 0 where
  none_told : AreToldBy text by_lines explain [] []
  one_more_told : {violations : List Violation} {faults : List Fault} {violation : Violation} {fault : Fault}
      (refusal : Refusal) → AreToldBy text by_lines explain violations faults → TellsOf refusal violation
      → IsToldBy text by_lines refusal explain fault
      → AreToldBy text by_lines explain (violations ++ violation ∷ []) (faults ++ fault ∷ [])

-- these tell of all that the text of libraries and of a file violates, in order
pub record ListsSource (explain : Bool) (profile : Profile) (files : Contents) (paths : List (List ℕ)) (path : List ℕ)
    (found : List Fault) : Type 0 where
  pub libraries : List LibraryText
  pub text : List ℕ
  pub violations : List Violation
  pub held : HoldsSources files paths path libraries text
  pub listed : ListsViolations profile (joined libraries text) violations
  pub told : AreToldBy (joined libraries text) (numbered libraries) explain violations found

-- the lines of each fault
abbrev pub fault_lines : List Fault → List ℕ
fault_lines = flat_map (λ fault. fault_line fault ++ codes "\n")

-- what is printed: none, and the source is accepted
abbrev pub listing_text : List Fault → List ℕ
listing_text [] = codes "accepted\n"
listing_text (fault ∷ others) = fault_lines (fault ∷ others)

-- and the exit status
abbrev pub listing_status : List Fault → ℕ
listing_status [] = 0
listing_status (fault ∷ others) = 1

-- the text and the exit status that answer
abbrev pub SaysViolations : Bool → Profile → Contents → List (List ℕ) → List ℕ → List ℕ → ℕ → Type 0
SaysViolations explain profile files paths path text status =
    (found : List Fault) × ListsSource explain profile files paths path found × (text ≡ listing_text found)
    × (status ≡ listing_status found)
