use Rattle.std.proofs.Common.{◌≡◌, None, ap, sym, ◌∙◌}
use Rattle.indexmap.proofs.CallerLemmas.{insert_entry-new}
use Rattle.language.specs.names.Scope.{found}
use Rattle.language.proofs.names_lemmas.EntryLemmas.{lookup-scope_of, scope_of-new, nothing}
use Rattle.language.proofs.names.table.Names.declare.Goals as goal

pub returns-clause-ok : goal.returns-clause-ok
returns-clause-ok g c =
    let absent : found c.args.self.now c.args.name.now ≡ None = sym c.find.ensures
    ∙ nothing c.find.result (sym c.is_some.ensures ∙ c.if-is_some.false) in
    let new = lookup-scope_of (λ key. key.now) c.args.name.now c.self.inside.map.entries
    ∙ (ap (λ scope. found scope c.args.name.now) c.self.view_is ∙ absent) in
    scope_of-new (λ key. key.now) c.self.inside.map.entries c.insert.new.self.entries c.args.self.now c.args.name
    c.args.what
    (c.in_ok-insert.ensures.entries ∙ insert_entry-new _ c.self.inside.map c.args.name c.args.what new)
    c.self.view_is absent
