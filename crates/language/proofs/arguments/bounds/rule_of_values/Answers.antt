use Rattle.std.proofs.Common.{◌≡◌, nat_le, if◌then◌else◌, Some, None, sym, ap, ◌∙◌, rules, tests}
use Rattle.std.specs.List.{list_all}
use Rattle.std.proofs.lemmas.Iterator.{YieldsList-from_slice}
use Rattle.std.proofs.lemmas.Iterator.Search.{all_from_yields_List}
use Rattle.language.specs.arguments.Within.{greatest_of}
use Rattle.language.specs.declared.arguments.fault.ArgumentRule.TheVariants.{Value}
use Rattle.language.proofs.arguments.bounds.rule_of_values.Goals as goal

pub returns-then-all : goal.returns-then-all
returns-then-all c =
    let e : c.all.result ≡ list_all (λ word. nat_le word (greatest_of c.args.kind)) c.args.words.now =
    all_from_yields_List (λ word. nat_le word (greatest_of c.args.kind)) _ _ _ c.all.ensures.ran
    (YieldsList-from_slice c.args.words.now cc) (λ x b q k. search (rules, tests)) in
    ap (λ b. if b then None else Some Value) (sym c.if-all.true ∙ e)
