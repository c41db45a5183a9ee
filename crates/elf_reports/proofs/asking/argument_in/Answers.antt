use Rattle.std.proofs.Common.{◌∙◌, ℕ, Bool, List, None, Option, Some, ap, ap₂, if◌then◌else◌}
use Rattle.elf_reports.specs.Asking.{anything, AskedArgument, behind_place, number_or_place, place_in}
use Rattle.elf_reports.proofs.asking.argument_in.Goals as goal

-- what a word asks, by whether it is `?`, and by the number that it is
abbrev asked_by : List ℕ → Bool → Option ℕ → Option AskedArgument
asked_by word is number = if is then Some anything else number_or_place word number

pub returns-in-Some : goal.returns-in-Some
returns-in-Some c = ap₂ (asked_by c.args.word.now) c.if-eq.ensures c.in-Some.ensures

pub returns-then-begins_with_digit : goal.returns-then-begins_with_digit
returns-then-begins_with_digit c =
    let word = c.args.word.now in
    ap (λ (begins : Bool). if begins then None else Some (behind_place (place_in word))) c.if-begins_with_digit.ensures
    ∙ ap₂ (asked_by word) c.if-eq.ensures c.in_default.ensures
