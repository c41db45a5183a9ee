use Rattle.std.proofs.Common.{◌∙◌, ap, sym}
use Rattle.std.specs.Option.{option_map, unwrap_or}
use Rattle.word.specs.Places.{origin}
use Rattle.language.specs.declared.scopes.scope.ScopeEntry.{ScopeEntry}
use Rattle.language.specs.names.Scope.{found}
use Rattle.language.proofs.names_lemmas.EntryLemmas.{found_part}
use Rattle.language.proofs.scopes.scope.Scope.place.Goals as goal

pub returns-in-Some : goal.returns-in-Some
returns-in-Some c =
    ap (λ entry. unwrap_or (option_map (λ (e : ScopeEntry). e.place) entry) origin) (sym c.in-Some.is ∙ c.find.ensures)
    ∙ ap (λ place. unwrap_or place origin)
    (sym (found_part (λ (entry : ScopeEntry). entry.place) c.self.inside.names c.args.name.now)
    ∙ ap (λ scope. found scope.places c.args.name.now) c.self.view_is)

pub returns-in-None : goal.returns-in-None
returns-in-None c =
    ap (λ entry. unwrap_or (option_map (λ (e : ScopeEntry). e.place) entry) origin) (sym c.in-None.is ∙ c.find.ensures)
    ∙ ap (λ place. unwrap_or place origin)
    (sym (found_part (λ (entry : ScopeEntry). entry.place) c.self.inside.names c.args.name.now)
    ∙ ap (λ scope. found scope.places c.args.name.now) c.self.view_is)
