use Rattle.std.proofs.Common.{◌∙◌, ap}
use Rattle.language.specs.scopes.Shortened.{shortened}
use Rattle.language.proofs.scopes_lemmas.ScopeLemmas.{scope_as, shortened_as}
use Rattle.language.proofs.scopes.scope.Scope.truncate.Goals as goal

pub returns : goal.returns
returns c =
    ap (scope_as c.self.inside.profile) c.truncate.ensures
    ∙ shortened_as c.self.inside.profile c.args.len c.self.inside.names
    ∙ ap (shortened c.args.len) c.self.view_is
