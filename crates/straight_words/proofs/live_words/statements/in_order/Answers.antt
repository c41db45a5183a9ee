use Rattle.std.proofs.Common.{◌≡◌, [], ◌++◌, option_to_list, rules, refl, ap, ◌∙◌}
use Rattle.straight_words.specs.Below.{nothing}
use Rattle.branch_removal.proofs.StatementTrees.{chain-nothing, chain-push}
use Rattle.straight_words.proofs.live_words_lemmas.Backwards.{onto-push}
use Rattle.straight_words.proofs.live_words.statements.in_order.Goals as goal

pub loop-statement-preserved : goal.loop-statement-preserved
loop-statement-preserved c =
    let rest = c.pop.new.self.items in
    let before = c.pop.ensures.items ∙ ap (λ o. rest ++ option_to_list o) c.in-Some.is in
    rw (c.in_ok-push.ensures.items, chain-push, ← onto-push rest c.in-Some.statement nothing, ← before)
    c.loop-statement.invariant

pub returns : goal.returns
returns c =
    let none : c.loop-statement.backwards.items ≡ [] = search rules in
    rw (← c.loop-statement.invariant, none, chain-nothing) refl
