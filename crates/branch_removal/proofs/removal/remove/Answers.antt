use Rattle.std.proofs.Common.{◌≡◌, ap, sym, subst, ◌∙◌, arith}
use Rattle.branch_removal.specs.Below.{IsFlat}
use Rattle.branch_removal.specs.private.Removal.{controls_in_all, straightened}
use Rattle.branch_removal.specs.Bounds.{IsCounted}
use Rattle.branch_removal.specs.Exact.{straight_of}
use Rattle.branch_removal.specs.Kept.{IsStraight}
use Rattle.branch_removal.specs.Straight.{StraightProgram}
use Rattle.branch_removal.proofs.BoundLemmas.{few_controls}
use Rattle.branch_removal.proofs.Removed.{as_listed, removed_as_promised, removed_counted}
use Rattle.branch_removal.proofs.removal.remove.Goals as goal

pub controls_in_all-controls-requires : goal.controls_in_all-controls-requires
controls_in_all-controls-requires c =
    let body = c.body-body.ensures.body in
    record {
      numbered =
          omega (arith, ap controls_in_all body, few_controls c.flat-flat.result.now c.body-body.ensures.kept.sized);
    }

pub push_removed_all-requires : goal.push_removed_all-requires
push_removed_all-requires c =
    let body = c.body-body.ensures.body in
    record {
      numbered =
          omega (arith, ap controls_in_all body, few_controls c.flat-flat.result.now c.body-body.ensures.kept.sized);
    }

pub new-straight-requires : goal.new-straight-requires
new-straight-requires c =
    let r = c.args.ranged.now in
    let listed = as_listed r _ _ _ _ _ _ _ c.flat-flat.ensures.flat c.body-body.ensures.body
    c.controls_in_all-controls.ensures c.new-code.ensures.items c.in_ok-push_removed_all.ensures c.value.ensures
    c.in_ok-value.ensures in
    let promised = removed_as_promised r (subst IsFlat c.flat-flat.ensures.flat c.body-body.ensures.kept)
    c.flat-flat.ensures.kept in
    subst (λ (p : StraightProgram). IsStraight p) (sym listed)
    (record { typed = promised.typed; bounded = promised.bounded })

pub new-requires : goal.new-requires
new-requires c =
    let r = c.args.ranged.now in
    let listed = as_listed r _ _ _ _ _ _ _ c.flat-flat.ensures.flat c.body-body.ensures.body
    c.controls_in_all-controls.ensures c.new-code.ensures.items c.in_ok-push_removed_all.ensures c.value.ensures
    c.in_ok-value.ensures in
    let whole : c.new-straight.result ≡ straightened r = c.new-straight.ensures ∙ listed in
    subst IsCounted (sym whole) (removed_counted r (subst IsFlat c.flat-flat.ensures.flat c.body-body.ensures.kept)
    c.flat-flat.ensures.kept)

pub returns-clause-removed : goal.returns-clause-removed
returns-clause-removed c =
    let r = c.args.ranged.now in
    let listed = as_listed r _ _ _ _ _ _ _ c.flat-flat.ensures.flat c.body-body.ensures.body
    c.controls_in_all-controls.ensures c.new-code.ensures.items c.in_ok-push_removed_all.ensures c.value.ensures
    c.in_ok-value.ensures in
    let whole : c.new.result ≡ straightened r = c.new.ensures ∙ (c.new-straight.ensures ∙ listed) in
    rw (sym whole) at (removed_as_promised r (subst IsFlat c.flat-flat.ensures.flat c.body-body.ensures.kept)
    c.flat-flat.ensures.kept)

pub returns-clause-declared : goal.returns-clause-declared
returns-clause-declared c = ap (λ (p : StraightProgram). p.declared) (c.new.ensures ∙ c.new-straight.ensures)

pub returns-clause-exact : goal.returns-clause-exact
unfolding straight_of
returns-clause-exact c =
    let r = c.args.ranged.now in
    let listed = as_listed r _ _ _ _ _ _ _ c.flat-flat.ensures.flat c.body-body.ensures.body
    c.controls_in_all-controls.ensures c.new-code.ensures.items c.in_ok-push_removed_all.ensures c.value.ensures
    c.in_ok-value.ensures in
    c.new.ensures ∙ (c.new-straight.ensures ∙ listed)
