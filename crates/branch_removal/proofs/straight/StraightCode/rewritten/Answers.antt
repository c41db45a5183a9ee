use Rattle.std.proofs.Common.{Some, option_map, ap, subst, sym, ◌∙◌}
use Rattle.branch_removal.specs.Below.{term_tree}
use Rattle.branch_removal.specs.Kept.{IsStraight}
use Rattle.branch_removal.specs.Straight.{StraightProgram, straight_block, with_variables}
use Rattle.branch_removal.proofs.Checked.{is_made, made_straight, none_made, same_test}
use Rattle.branch_removal.proofs.straight.StraightCode.rewritten.Goals as goal

pub returns-then-not-may_have-clause-exact : goal.returns-then-not-may_have-clause-exact
returns-then-not-may_have-clause-exact c =
    none_made _ (same_test c.args.self.now c.args.declared.now c.args.body.items _ c.args.value _ _ c.may_have.ensures
    c.as_slice.ensures.value c.as_ref.ensures.value ∙ c.if-not-may_have.true)

pub invariant_of-result : goal.invariant_of-result
invariant_of-result c =
    let p = c.args.self.now in
    let declared = c.args.declared.now in
    let body = straight_block c.args.body.items in
    let value = option_map term_tree c.args.value in
    let is = same_test p declared c.args.body.items _ c.args.value _ _ c.may_have.ensures c.as_slice.ensures.value
    c.as_ref.ensures.value ∙ c.if-not-may_have.false in
    subst (λ (q : StraightProgram). IsStraight (with_variables q declared body value)) (sym c.self.view_is)
    (made_straight p declared body value (subst IsStraight c.self.view_is c.self.invariant) is)

pub returns-clause-exact : goal.returns-clause-exact
returns-clause-exact c =
    let p = c.args.self.now in
    let declared = c.args.declared.now in
    let body = straight_block c.args.body.items in
    let value = option_map term_tree c.args.value in
    let is = same_test p declared c.args.body.items _ c.args.value _ _ c.may_have.ensures c.as_slice.ensures.value
    c.as_ref.ensures.value ∙ c.if-not-may_have.false in
    ap (λ (q : StraightProgram). Some (with_variables q declared body value)) c.self.view_is
    ∙ is_made (with_variables p declared body value) is

pub returns-clause-straight : goal.returns-clause-straight
returns-clause-straight c =
    let p = c.args.self.now in
    let declared = c.args.declared.now in
    let body = straight_block c.args.body.items in
    let value = option_map term_tree c.args.value in
    let is = same_test p declared c.args.body.items _ c.args.value _ _ c.may_have.ensures c.as_slice.ensures.value
    c.as_ref.ensures.value ∙ c.if-not-may_have.false in
    subst (λ (q : StraightProgram). IsStraight (with_variables q declared body value)) (sym c.self.view_is)
    (made_straight p declared body value (subst IsStraight c.self.view_is c.self.invariant) is)
