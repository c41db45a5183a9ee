use Rattle.std.proofs.Common.{◌≡◌, ◌≢◌, true, false, length, Some, ap, ◌∙◌, sym, lit<, rules}
use Rattle.std.specs.Option.{option_map}
use Rattle.std.proofs.lemmas.Iterator.Splits.{YieldsList-from_str_split}
use Rattle.std.proofs.lemmas.Iterator.Consumers.{count_from_yields_List}
use Rattle.language.specs.arguments.Texts.{count_of, each_number, parts_of, rule_of_text}
use Rattle.language.proofs.arguments_lemmas.TextLemmas.{are_at_most, rule_of_judged, rule_of_numbers-miscounted}
use Rattle.language.proofs.arguments_lemmas.TextLemmas.{rule_of_numbers-counted}
use Rattle.language.proofs.arguments.texts.broken_rule.Goals.{After-all_at_most}
use Rattle.language.proofs.arguments.texts.broken_rule.Goals as goal

pub returns-then-count-number_count : goal.returns-then-count-number_count
returns-then-count-number_count c =
    let param = c.args.param.now in
    let parts = parts_of c.args.text.now in
    let counted : c.count.result ≡ length parts =
    count_from_yields_List _ _ c.count.ensures.ran
    (YieldsList-from_str_split 44 c.args.text.now (lit< tt) c.split.ensures.text c.split.ensures.has_more
    c.split.ensures.pattern) in
    let differs : length parts ≢ count_of param.form param.length =
    λ e. c.if-count-number_count.true (counted ∙ e ∙ sym c.number_count.ensures) in
    sym (rule_of_numbers-miscounted param parts differs)

judged : (c : After-all_at_most)
    → rule_of_text c.args.param.now c.args.text.now ≡ rule_of_judged c.all_at_most.result
judged c =
    let counted : c.count.result ≡ length (parts_of c.args.text.now) =
    count_from_yields_List _ _ c.count.ensures.ran
    (YieldsList-from_str_split 44 c.args.text.now (lit< tt) c.split.ensures.text c.split.ensures.has_more
    c.split.ensures.pattern) in
    let parts = parts_of c.args.text.now in
    rule_of_numbers-counted c.args.param.now parts c.all_at_most.result (sym counted
    ∙ c.if-count-number_count.false ∙ c.number_count.ensures) (c.all_at_most.ensures
    ∙ ap (λ most. option_map (are_at_most most) (each_number parts)) c.greatest.ensures)

pub returns-in-Some-true : goal.returns-in-Some-true
returns-in-Some-true c =
    let is : c.all_at_most.result ≡ Some true = search rules in
    sym (judged ((goal.at.returns-in-Some-true c).After-all_at_most) ∙ ap rule_of_judged is)

pub returns-in-Some-false : goal.returns-in-Some-false
returns-in-Some-false c =
    let is : c.all_at_most.result ≡ Some false = search rules in
    sym (judged ((goal.at.returns-in-Some-false c).After-all_at_most) ∙ ap rule_of_judged is)

pub returns-in-None : goal.returns-in-None
returns-in-None c =
    sym (judged ((goal.at.returns-in-None c).After-all_at_most) ∙ ap rule_of_judged c.in-None.is)
