-- All are well where each is.
use Rattle.std.proofs.Common.{◌≡◌, if◌then◌else◌, sym, ap, ◌∙◌, rules, tests}
use Rattle.std.specs.List.{list_all}
use Rattle.std.proofs.lemmas.Iterator.{YieldsList-from_slice}
use Rattle.std.proofs.lemmas.Iterator.Search.{all_from_yields_List}
use Rattle.commands.specs.Below.{HartEnd}
use Rattle.commands.specs.HartsText.{is_well}
use Rattle.commands.proofs.side_by_side.status_of.Goals as goal

pub returns-then-all-clause-exact : goal.returns-then-all-clause-exact
returns-then-all-clause-exact c =
    let e : c.all.result ≡ list_all (λ (end : HartEnd). is_well end.stop) c.args.ends.now =
    all_from_yields_List (λ (end : HartEnd). is_well end.stop) _ _ _ c.all.ensures.ran
    (YieldsList-from_slice c.args.ends.now cc) (λ x b q k. search (rules, tests)) in
    ap (λ b. if b then 0 else 5) (sym c.if-all.true ∙ e)
