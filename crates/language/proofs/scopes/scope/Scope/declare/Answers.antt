use Rattle.std.proofs.Common.{◌∙◌, ap, is_some}
use Rattle.std.proofs.lemmas.Result.{IfOk-weaker, on_ok_weaker}
use Rattle.language.specs.Types.{declared, found}
use Rattle.language.proofs.scopes_lemmas.ScopeLemmas.{scope_as, declared_as, taken_as}
use Rattle.language.proofs.scopes.scope.Scope.declare.Goals as goal

pub returns-clause-taken : goal.returns-clause-taken
returns-clause-taken c =
    IfOk-weaker c.declare.result _ _
    (λ taken is. is ∙ taken_as c.self.inside.profile c.args.name.now c.self.inside.names
    ∙ ap (λ scope. is_some (found scope c.args.name.now)) c.self.view_is)
    c.declare.ensures.taken

pub returns-clause-ok : goal.returns-clause-ok
returns-clause-ok c =
    on_ok_weaker c.declare.result
    (λ is. ap (scope_as c.self.inside.profile) is
    ∙ declared_as c.self.inside.profile c.args.place c.args.name.now c.args.what c.self.inside.names
    ∙ ap (λ scope. declared scope c.args.place c.args.name.now c.args.what) c.self.view_is)
    c.declare.ensures.ok
