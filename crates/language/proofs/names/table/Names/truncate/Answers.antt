use Rattle.language.proofs.names_lemmas.EntryLemmas.{scope_of-take}
use Rattle.language.proofs.names.table.Names.truncate.Goals as goal

pub returns : goal.returns
returns g c =
    scope_of-take (λ key. key.now) c.args.len c.self.inside.map.entries c.truncate.new.self.entries c.args.self.now
    c.truncate.ensures.entries c.self.view_is
