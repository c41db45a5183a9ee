-- A scope is what its names stand for, and where they are declared.
use Rattle.std.proofs.Common.{◌≡◌, ℕ, List, take, Option, None, Some, is_some, refl, ap, ap₂, sym, ◌∙◌}
use Rattle.std.specs.Option.{option_map}
use Rattle.std.proofs.lemmas.List.{take-map}
use Rattle.word.specs.declared.place.Place.{Place}
use Rattle.word.specs.declared.profile.Profile.{Profile}
use Rattle.language.specs.declared.scopes.scope.ScopeEntry.{ScopeEntry}
use Rattle.language.specs.declared.typing.Declared.{Declared}
use Rattle.language.specs.names.Scope.{parts, declared as declared_in, found as found_in}
use Rattle.language.specs.scopes.Shortened.{shortened}
use Rattle.language.specs.Types.{Scope, declared, found}
use Rattle.language.proofs.names_lemmas.EntryLemmas.{declared_part, found_part}

abbrev pub Entries : Type 0
Entries = List (List ℕ × ScopeEntry)

abbrev pub what_of : ScopeEntry → Declared
what_of entry = entry.what

abbrev pub place_of : ScopeEntry → Place
place_of entry = entry.place

abbrev pub scope_as : Profile → Entries → Scope
scope_as profile entries = record {
  profile = profile;
  names = parts what_of entries;
  places = parts place_of entries;
}

pub shortened_as : (profile : Profile) (n : ℕ) (entries : Entries)
    → scope_as profile (take n entries) ≡ shortened n (scope_as profile entries)
shortened_as profile n entries =
    ap₂ (λ (names : List (List ℕ × Declared)) (places : List (List ℕ × Place)). record {
      profile = profile;
      names = names;
      places = places;
    })
    (sym (take-map (λ (e : List ℕ × ScopeEntry). (e.0, what_of e.1)) n entries))
    (sym (take-map (λ (e : List ℕ × ScopeEntry). (e.0, place_of e.1)) n entries))

pub declared_as : (profile : Profile) (place : Place) (name : List ℕ) (what : Declared) (entries : Entries)
    → scope_as profile (declared_in entries name (record { what = what; place = place }))
    ≡ declared (scope_as profile entries) place name what
declared_as profile place name what entries =
    ap₂ (λ (names : List (List ℕ × Declared)) (places : List (List ℕ × Place)). record {
      profile = profile;
      names = names;
      places = places;
    })
    (declared_part what_of entries name (record { what = what; place = place }))
    (declared_part place_of entries name (record { what = what; place = place }))

-- a name that is taken
pub taken_as : (profile : Profile) (name : List ℕ) (entries : Entries)
    → is_some (found_in entries name) ≡ is_some (found (scope_as profile entries) name)
taken_as profile name entries = by (found_in entries name) ∙ ap is_some (sym (found_part what_of entries name))
  where
    by : (o : Option ScopeEntry) → is_some o ≡ is_some (option_map what_of o)
    by (Some entry) = refl
    by None = refl
