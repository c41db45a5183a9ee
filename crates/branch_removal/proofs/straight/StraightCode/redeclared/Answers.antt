use Rattle.std.proofs.Common.{ap, subst, sym, ◌∙◌}
use Rattle.branch_removal.specs.Kept.{IsStraight}
use Rattle.branch_removal.specs.Straight.{StraightProgram, with_variables}
use Rattle.branch_removal.proofs.Checked.{made_straight, redeclared_else, redeclared_where}
use Rattle.branch_removal.proofs.straight.StraightCode.redeclared.Goals as goal

pub returns-then-not-may_declare : goal.returns-then-not-may_declare
returns-then-not-may_declare c =
    redeclared_else c.args.self c.args.declared.now (sym c.may_declare.ensures ∙ c.if-not-may_declare.true)

pub invariant_of-result : goal.invariant_of-result
invariant_of-result c =
    let p = c.args.self in
    let declared = c.args.declared.now in
    subst (λ (q : StraightProgram). IsStraight (with_variables q declared q.body q.value)) (sym c.self.view_is)
    (made_straight p declared p.body p.value (subst IsStraight c.self.view_is c.self.invariant)
    (sym c.may_declare.ensures ∙ c.if-not-may_declare.false))

pub returns : goal.returns
returns c =
    let p = c.args.self in
    let declared = c.args.declared.now in
    ap (λ (q : StraightProgram). with_variables q declared q.body q.value) c.self.view_is
    ∙ redeclared_where p declared (sym c.may_declare.ensures ∙ c.if-not-may_declare.false)
