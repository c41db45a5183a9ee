use Rattle.std.proofs.Common.{refl, sym, arith}
use Rattle.explanations.specs.expected_tokens.Expected.{none}
use Rattle.explanations.proofs.expected_tokens_lemmas.ExpectedLemmas.{with_one, without_it}
use Rattle.explanations.proofs.expected_tokens.expecting.expected.Goals.{then-branch+in_ok-push, else-branch}
use Rattle.explanations.proofs.expected_tokens.expecting.expected.Goals as goal

pub loop-name-init : goal.loop-name-init
loop-name-init c = rw c.new-names.ensures.items none

pub loop-name-preserved : goal.loop-name-preserved
loop-name-preserved c =
    let items = c.candidates-name-items.result.now in
    let i = c.loop-name.name-index in
    let names = c.loop-name.names.items in
    let known = c.loop-name.invariant in
    let can = c.in_ok-may_stand.field-0 in
    let tried = c.in_ok-may_stand.ensures in
    elim c.if-branch.branch [
      | then-branch+in_ok-push w ↦
          with_one (λ both. (both.0.now, both.1.now)) (λ name. name.now) c.args.front.now items i _
          (omega (arith, c.loop-name-test.true))
          names c.if-branch.names.items _ can w.if-branch.true (rw (sym w.names-is) at w.in_ok-push.ensures.items)
          refl known tried
      | else-branch w ↦
          without_it (λ both. (both.0.now, both.1.now)) (λ name. name.now) c.args.front.now items i _
          (omega (arith, c.loop-name-test.true))
          names c.if-branch.names.items can w.if-branch.false (rw w.names-is refl) known tried
    ]
