use Rattle.std.proofs.Common.{◌<◌, length, arith, refl, sym, subst}
use Rattle.std.proofs.lemmas.Bool.Decides.{nat_tests}
use Rattle.commands.specs.Answered.{IsRead}
use Rattle.commands.specs.Contents.{Store}
use Rattle.commands.specs.Costs.{no_source}
use Rattle.commands.specs.Judged.{no_sources}
use Rattle.commands.proofs.AnswerLemmas.{finds_fault, read_fault}
use Rattle.commands.proofs.MeasuringLemmas.{some_paths, source_measured}
use Rattle.commands.proofs.measuring.measure_file.Goals as goal

pub returns-in_err-joined-clause-finds : goal.returns-in_err-joined-clause-finds
returns-in_err-joined-clause-finds g c = λ tells.
    let some : 0 < length c.args.libraries.now = grind (arith, nat_tests, c.is_empty.ensures, c.if-is_empty.false) in
    finds_fault _ _ c.from_residual.ensures.1 (
      no_source (some_paths c.args.libraries.now (λ none. omega (arith, some, none)))
          (no_sources (c.in_err-joined.ensures.refused tells)),
      refl,
    )

pub returns-clause-finds : goal.returns-clause-finds
returns-clause-finds g c = λ tells.
    let some : 0 < length c.args.libraries.now = grind (arith, nat_tests, c.is_empty.ensures, c.if-is_empty.false) in
    source_measured c.in_ok-joined.joined.libraries.items c.joined_costs.result
    (some_paths c.args.libraries.now (λ none. omega (arith, some, none))) (c.in_ok-joined.ensures.said tells)
    c.joined_costs.ensures.said c.joined_costs.ensures.refused

pub returns-in_err-joined-clause-read : goal.returns-in_err-joined-clause-read
returns-in_err-joined-clause-read g c = read_fault _ _ _ _ c.from_residual.ensures.1 c.in_err-joined.ensures.counted

pub returns-clause-read : goal.returns-clause-read
returns-clause-read g c =
    let before = g.F.Files.store c.args.files.now in
    subst (λ (after : Store). IsRead c.joined_costs.result before after) (sym c.in_ok-joined.ensures.calm)
    (c.joined_costs.ensures.read before)
