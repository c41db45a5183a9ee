use Rattle.std.proofs.Common.{inr, sym, ◌∙◌}
use Rattle.labels.specs.Below.{program_tree, violations}
use Rattle.labels.proofs.ExportLemmas.{first_same, index_of, one_exported}
use Rattle.language.proofs.SoonerLemmas.{found_first, found_none}
use Rattle.labels.proofs.checker.check_as.Goals as goal

pub unreachable-requires : goal.unreachable-requires
unreachable-requires c =
    let items = c.args.program.now in
    let slice = c.procedures.result.now in
    let same = c.procedures.ensures.procedures in
    let seen = first_same c.args.profile items slice same _ _ _ c.new.ensures c.in_ok-judged.ensures.findings
    c.first.ensures in
    one_exported c.args.profile items slice same c.in_ok-judged.judged.export c.in_ok-judged.ensures.export c.in-None.is
    (found_none (violations c.args.profile (program_tree c.args.program.now)) (sym seen ∙ c.in_default.is))

pub invariant_of-result : goal.invariant_of-result
invariant_of-result c =
    let items = c.args.program.now in
    let slice = c.procedures.result.now in
    let same = c.procedures.ensures.procedures in
    let seen = first_same c.args.profile items slice same _ _ _ c.new.ensures c.in_ok-judged.ensures.findings
    c.first.ensures in
    let index = index_of c.args.profile items slice same c.in_ok-judged.judged.export c.in-Some-export.export
    c.in_ok-judged.ensures.export c.in-Some-export.is in
    record {
      well_typed = found_none (violations c.args.profile (program_tree c.args.program.now)) (sym seen
          ∙ c.in_default.is);
      inside = index.1;
      exported = index.0;
    }

pub returns-in-Some-clause-refused : goal.returns-in-Some-clause-refused
returns-in-Some-clause-refused c =
    let items = c.args.program.now in
    let slice = c.procedures.result.now in
    let seen = first_same c.args.profile items slice c.procedures.ensures.procedures _ _ _ c.new.ensures
    c.in_ok-judged.ensures.findings c.first.ensures in
    inr (
      c.in-Some.violation,
      found_first (violations c.args.profile (program_tree c.args.program.now))
          c.in-Some.violation (sym seen ∙ c.in-Some.is),
      c.of.ensures.rule,
      c.of.ensures.place,
    )

pub returns-in-Some-clause-told : goal.returns-in-Some-clause-told
returns-in-Some-clause-told c =
    let items = c.args.program.now in
    let slice = c.procedures.result.now in
    let seen = first_same c.args.profile items slice c.procedures.ensures.procedures _ _ _ c.new.ensures
    c.in_ok-judged.ensures.findings c.first.ensures in
    inr (
      c.in-Some.violation,
      sym seen ∙ c.in-Some.is,
      record { rule = c.of.ensures.rule; place = c.of.ensures.place; why = c.of.ensures.why },
    )
