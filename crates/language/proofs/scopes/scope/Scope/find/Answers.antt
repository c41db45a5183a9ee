use Rattle.std.proofs.Common.{◌∙◌, ap, sym}
use Rattle.std.specs.Option.{option_map}
use Rattle.language.specs.declared.scopes.scope.ScopeEntry.{ScopeEntry}
use Rattle.language.specs.names.Scope.{found}
use Rattle.language.proofs.names_lemmas.EntryLemmas.{found_part}
use Rattle.language.proofs.scopes.scope.Scope.find.Goals as goal

pub returns-in-Some : goal.returns-in-Some
returns-in-Some c =
    ap (option_map (λ (entry : ScopeEntry). entry.what)) (sym c.in-Some.is ∙ c.find.ensures)
    ∙ sym (found_part (λ (entry : ScopeEntry). entry.what) c.self.inside.names c.args.name.now)
    ∙ ap (λ scope. found scope.names c.args.name.now) c.self.view_is

pub returns-in-None : goal.returns-in-None
returns-in-None c =
    ap (option_map (λ (entry : ScopeEntry). entry.what)) (sym c.in-None.is ∙ c.find.ensures)
    ∙ sym (found_part (λ (entry : ScopeEntry). entry.what) c.self.inside.names c.args.name.now)
    ∙ ap (λ scope. found scope.names c.args.name.now) c.self.view_is
