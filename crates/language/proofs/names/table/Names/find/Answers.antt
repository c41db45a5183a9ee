use Rattle.std.proofs.Common.{ap, ◌∙◌}
use Rattle.language.specs.names.Scope.{found}
use Rattle.language.proofs.names_lemmas.EntryLemmas.{lookup-scope_of}
use Rattle.language.proofs.names.table.Names.find.Goals as goal

pub returns : goal.returns
returns g c =
    c.copied.ensures ∙ c.get.ensures.value
    ∙ lookup-scope_of (λ key. key.now) c.args.name.now c.self.inside.map.entries
    ∙ ap (λ scope. found scope c.args.name.now) c.self.view_is
