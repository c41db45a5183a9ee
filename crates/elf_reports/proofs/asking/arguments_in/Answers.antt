use Rattle.std.proofs.Common.{[], ◌∙◌, ℕ, List, Some, ap, get_or, map}
use Rattle.std.specs.Borrow.{Bor}
use Rattle.elf_reports.specs.Asking.{asked_argument, argument_in, argument_spelled, arguments_spelled, texts}
use Rattle.std.proofs.lemmas.List.{take_all}
use Rattle.elf_reports.proofs.Spelling.{asked_more, none_told, none_told_at, told_at, told_on}
use Rattle.elf_reports.proofs.asking.arguments_in.Goals as goal

pub returns-in_err-argument_at-clause-fault : goal.returns-in_err-argument_at-clause-fault
returns-in_err-argument_at-clause-fault c =
    let words = c.args.words.now in
    let none : Bor (List ℕ) = record { ref_ptr = (0, 0); now = [] } in
    told_on c.from_residual.result c.in_err-argument_at.field-0.0
    (argument_spelled c.each.k (get_or words c.each.k none).now) (arguments_spelled (texts words))
    c.from_residual.ensures.1 c.in_err-argument_at.ensures.fault
    (λ unmet. told_at argument_spelled words c.each.k none unmet c.each-test.true c.each.invariant.met)

pub each-preserved : goal.each-preserved
each-preserved c =
    let words = c.args.words.now in
    let none : Bor (List ℕ) = record { ref_ptr = (0, 0); now = [] } in
    record {
      met = none_told_at argument_spelled words c.each.k none c.each-test.true c.each.invariant.met
          c.in_ok-argument_at.ensures.met;
      asked =
          asked_more (λ one. Some (asked_argument one)) argument_in words c.each.k none c.in_ok-argument_at.field-0
          c.each.arguments.items c.push.new.self.items c.each-test.true c.each.invariant.asked
          c.in_ok-argument_at.ensures.argument c.in_ok-push.ensures.items;
    }

pub returns-clause-met : goal.returns-clause-met
returns-clause-met c = none_told argument_spelled c.args.words.now c.each.k c.each-test.false c.each.invariant.met

pub returns-clause-arguments : goal.returns-clause-arguments
returns-clause-arguments c =
    c.each.invariant.asked
    ∙ ap (λ (words : List (Bor (List ℕ))). map argument_in (texts words))
    (take_all c.each.k c.args.words.now c.each-test.false)
