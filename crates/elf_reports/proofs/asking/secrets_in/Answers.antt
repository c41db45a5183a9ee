use Rattle.std.proofs.Common.{◌∙◌, ℕ, List, ap}
use Rattle.std.specs.Borrow.{Bor}
use Rattle.std.proofs.lemmas.List.{take_all}
use Rattle.elf_reports.specs.Asking.{texts}
use Rattle.elf_reports.proofs.asking.secrets_in.Goals as goal

pub returns : goal.returns
returns c =
    c.each.invariant
    ∙ ap (λ (words : List (Bor (List ℕ))). texts words)
    (take_all c.each.word-index c.args.words.now c.each-test.false)
