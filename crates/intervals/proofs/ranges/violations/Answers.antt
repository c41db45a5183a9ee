use Rattle.std.proofs.Common.{◌∙◌, ap, fold, IfOk, List, rules, subst, sym}
use Rattle.findings.proofs.NotedLemmas.{first_is}
use Rattle.intervals.proofs.ListedLemmas.{none_first, some_first}
use Rattle.intervals.specs.Below.{AreInOrder, Noted, noted}
use Rattle.intervals.specs.Ranges.{range_violations}
use Rattle.intervals.specs.Work.{work_violations}
use Rattle.language.specs.declared.typing.Violation.{Violation}
use Rattle.intervals.proofs.ranges.violations.Goals as goal

pub returns-then-is_none : goal.returns-then-is_none
returns-then-is_none c =
    let ranges = range_violations c.args.flat.now in
    let first = first_is ranges c.new.ensures c.in_ok-counted.ensures.findings c.first.ensures in
    let none = none_first ranges (work_violations c.args.flat.now) c.first.result first
    (search rules) in
    subst (λ (all : List Violation). IfOk c.in_order.result (λ found. AreInOrder all found.items))
    (c.in_ok-work_passed.ensures ∙ sym none) c.in_order.ensures

pub returns : goal.returns
returns c =
    let ranges = range_violations c.args.flat.now in
    let first = first_is ranges c.new.ensures c.in_ok-counted.ensures.findings c.first.ensures in
    let some = some_first ranges (work_violations c.args.flat.now) c.first.result first
    (search rules) in
    let counted = c.in_ok-counted.ensures.findings ∙ ap (λ (before : Noted). fold noted before ranges) c.new.ensures in
    let room = ap (λ (before : Noted). fold noted before ranges) (c.in_ok-room.ensures ranges counted) in
    subst (λ (all : List Violation). IfOk c.in_order-2.result (λ found. AreInOrder all found.items)) (sym some)
    (c.in_order-2.ensures ranges (c.in_ok-walked.ensures.findings ∙ room))
