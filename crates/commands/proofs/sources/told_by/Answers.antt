use Rattle.commands.proofs.SourceLemmas.{told_plainly, told_with_lines}
use Rattle.commands.proofs.sources.told_by.Goals as goal

pub returns-then-not-explain-clause-told : goal.returns-then-not-explain-clause-told
returns-then-not-explain-clause-told c =
    told_plainly _ c.if-not-explain.true c.standing.ensures.told c.standing.ensures.library c.told_in.ensures

pub returns-in-Ok-clause-told : goal.returns-in-Ok-clause-told
returns-in-Ok-clause-told c =
    told_with_lines _ _ c.if-not-explain.false c.standing.ensures.told c.standing.ensures.library
    c.in-Ok.ensures.said c.explained_in.ensures
