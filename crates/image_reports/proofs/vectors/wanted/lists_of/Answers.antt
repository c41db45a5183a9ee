use Rattle.std.proofs.Common.{◌≤◌, ◌++◌, ◌∙◌, ap, length}
use Rattle.std.proofs.lemmas.List.{take_all}
use Rattle.image_reports.specs.vectors.Spelled.{returned_list}
use Rattle.image_reports.proofs.vectors.wanted.lists_of.Goals as goal

pub returns : goal.returns
returns c =
    let l = c.loop-numbers in
    let arrays = c.args.outcome.now.arrays in
    let all : length arrays ≤ l.numbers-index = rw c.arrays-numbers-items.ensures at c.loop-numbers-test.false in
    l.invariant ∙ ap (λ taken. returned_list c.args.outcome.now.returned ++ taken) (take_all l.numbers-index arrays all)
