use Rattle.std.proofs.Common.{◌≡◌, ap, sym, ◌∙◌, ◌++◌, ◌∷◌, [], map, length, nat_eq, false, rules}
use Rattle.std.proofs.lemmas.Result.{err_from_is_err_and}
use Rattle.std.proofs.lemmas.List.{map_push}
use Rattle.syntax.specs.private.Machine.{procedures}
use Rattle.syntax.specs.private.ParserViews.{ahead}
use Rattle.syntax.specs.Below.{procedure_tree}
use Rattle.syntax.proofs.ParserSteps.{ahead-procedure}
use Rattle.syntax.proofs.parser.Parser.procedures.Goals as goal

pub returns-in_err-procedure : goal.returns-in_err-procedure
returns-in_err-procedure c =
    let ps = map procedure_tree c.loop-self.procedures.items in
    let left : nat_eq (length c.loop-self.self.rest.now) 0 ≡ false = search rules in
    let p = err_from_is_err_and c.from_residual.result c.from_residual.ensures.1 in
    record {
      leads = rw (p.1, p.2, c.loop-self.invariant, ahead-procedure ps c.loop-self.self left)
          (c.in_err-procedure.ensures.leads (λ q. procedures (ps ++ q ∷ [])));
    }

pub loop-self-preserved : goal.loop-self-preserved
loop-self-preserved c =
    let items = c.loop-self.procedures.items in
    let ps = map procedure_tree items in
    let left : nat_eq (length c.loop-self.self.rest.now) 0 ≡ false = search rules in
    c.loop-self.invariant
    ∙ ahead-procedure ps c.loop-self.self left
    ∙ c.in_ok-procedure.ensures.leads (λ q. procedures (ps ++ q ∷ []))
    ∙ ap (λ xs. ahead (procedures xs) c.procedure.new.self)
    (sym (map_push procedure_tree items c.in_ok-procedure.procedure))
    ∙ ap (λ xs. ahead (procedures (map procedure_tree xs)) c.procedure.new.self) (sym c.in_ok-push.ensures.items)
