use Rattle.std.proofs.Common.{◌∙◌, ◌∷◌, [], ◌++◌, ap, List}
use Rattle.hepurita.proofs.ListedLemmas.{alone_listed}
use Rattle.hepurita.specs.Below.{Violation}
use Rattle.hepurita.proofs.violating.alone.Goals as goal

pub returns-clause-found : goal.returns-clause-found
returns-clause-found c profile source refused =
    let refusal = c.args.refusal in
    let one : Violation = record { place = c.in-Some.place; rule = refusal.rule; why = refusal.why } in
    alone_listed profile source refusal c.in-Some.place c.push.new.self.items c.in-Some.is refused
    (c.in_ok-push.ensures.items ∙ ap (λ (front : List Violation). front ++ one ∷ []) c.new-found.ensures.items)
