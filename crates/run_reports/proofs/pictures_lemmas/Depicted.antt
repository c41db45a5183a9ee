-- The page of a grid is the page of what two runs show.
use Rattle.std.proofs.Common.{◌≡◌, ℕ, max, Bool, List, Option, subst, ◌∙◌}
use Rattle.run_reports.specs.Below.{Observation}
use Rattle.run_reports.specs.pictures.Grid.{IsGrid}
use Rattle.run_reports.specs.pictures.Marks.{marks_from}
use Rattle.run_reports.specs.pictures.Page.{page_text}
use Rattle.run_reports.specs.pictures.Parting.{parting_from, run_length}
use Rattle.run_reports.specs.pictures.Pictured.{Depicts}
use Rattle.run_reports.specs.declared.pictures.cells.Area.{Area}
use Rattle.run_reports.specs.declared.pictures.cells.Axes.{Axes}
use Rattle.run_reports.specs.declared.pictures.cells.Cell.{Cell}
use Rattle.run_reports.specs.declared.pictures.cells.RunLength.{RunLength}

pub depicted : {code frame : Area} {asked said : List ℕ} {are_two : Bool} {seen seen' : List Observation}
    {axes axes' : Axes} {cells : List Cell} {one other : RunLength} {parting : Option ℕ} {steps : ℕ} {page : List ℕ}
    → one ≡ run_length seen → other ≡ run_length seen' → steps ≡ max one.steps other.steps
    → axes ≡ record { steps = steps; code = code; frame = frame } → axes' ≡ axes
    → IsGrid axes (marks_from 0 seen seen') cells → parting ≡ parting_from 0 seen seen'
    → page ≡ page_text axes' cells asked said
    (record { are_two = are_two; one = one; other = other; parting = parting })
    → Depicts code frame asked said are_two seen seen' page
depicted {code} {frame} {asked} {said} {are_two} {seen} {seen'} {cells = cells} first second longer is same grid parts
    text =
    let steps = longer ∙ (λ i. max (first i).steps (second i).steps) in
    let all = is ∙ (λ i. record { steps = steps i; code = code; frame = frame }) in
    record {
      cells = cells;
      filled = subst (λ a. IsGrid a (marks_from 0 seen seen') cells) all grid;
      written = text
          ∙ (λ i. page_text ((same ∙ all) i) cells asked said
          (record { are_two = are_two; one = first i; other = second i; parting = parts i }));
    }
