use Rattle.std.proofs.Common.{Some, None, sym, ap, ap₂, ◌∙◌, arith}
use Rattle.language.proofs.arguments_lemmas.FaultLemmas.{fault_from-iteration, fault_from-end, fault_by-same}
use Rattle.language.proofs.arguments.bounds.first_fault_by.Goals as goal

pub loop-index-preserved : goal.loop-index-preserved
loop-index-preserved g c rule follows =
    c.loop-index.invariant rule follows
    ∙ fault_from-iteration rule c.loop-index.index c.args.params.now c.args.given.now c.index-params-index.result
    c.index-given-index.result None (omega arith) (omega arith)
    (ap₂ rule (sym c.index-params-index.is) (sym c.index-given-index.is) ∙ sym (follows _ _ _ c.rule_at.ensures)
    ∙ c.in_default.is)

pub returns-in-Some : goal.returns-in-Some
returns-in-Some g c rule follows =
    let params = c.args.params.now in
    let given = c.args.given.now in
    let broken = fault_from-iteration rule c.loop-index.index params given c.index-params-index.result
    c.index-given-index.result (Some c.in-Some.rule) (omega arith) (omega arith)
    (ap₂ rule (sym c.index-params-index.is) (sym c.index-given-index.is) ∙ sym (follows _ _ _ c.rule_at.ensures)
    ∙ c.in-Some.is) in
    ap Some c.at.ensures ∙ sym broken ∙ sym (c.loop-index.invariant rule follows)
    ∙ sym (fault_by-same rule params given c.if-given-params.false)

pub returns : goal.returns
returns g c rule follows =
    let params = c.args.params.now in
    let given = c.args.given.now in
    sym (fault_from-end rule c.loop-index.index params given (omega arith))
    ∙ sym (c.loop-index.invariant rule follows) ∙ sym (fault_by-same rule params given c.if-given-params.false)
