use Rattle.std.proofs.Common.{◌∙◌, rules, tests}
use Rattle.std.proofs.lemmas.Iterator.{YieldsList-from_slice}
use Rattle.std.proofs.lemmas.Iterator.Consumers.{YieldsList-at, YieldsList-from_filter, count_from_yields_List}
use Rattle.tokens.specs.Lexeme.{lexeme}
use Rattle.explanations.specs.habits.Spots.{is_before}
use Rattle.explanations.proofs.habits_lemmas.HabitLemmas.{same_count}
use Rattle.explanations.proofs.habits.spots.count_before.Goals as goal

pub returns : goal.returns
returns c =
    let tokens = c.args.tokens.now in
    count_from_yields_List c.filter.result _ c.count.ensures.ran
    (YieldsList-from_filter _ (λ token. is_before c.args.at c.args.word.now (lexeme token))
    (YieldsList-at c.filter.ensures.source (YieldsList-from_slice tokens c.iter.ensures.rest))
    c.filter.ensures.closure (λ x b q k. search (rules, tests)))
    ∙ same_count lexeme (is_before c.args.at c.args.word.now) tokens
