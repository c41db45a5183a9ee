-- A map's entries, looked up and extended, are a scope, looked up and extended.
use Rattle.std.proofs.Common.{◌≡◌, ℕ, Bool, true, false, List, [], ◌∷◌, ◌++◌, Option, None, Some, cond, is_some, take, refl, sym}
use Rattle.std.proofs.Common.{ap, ◌∙◌}
use Rattle.std.proofs.lemmas.List.{map-append, take-map}
use Rattle.std.specs.Map.{lookup}
use Rattle.std.specs.Str.{bytes_eq}
use Rattle.std.specs.Option.{option_map}
use Rattle.language.specs.names.Scope.{found, declared, parts, scope_of}

-- a key's value is what its text stands for
pub lookup-scope_of : {K V : Type 0} (text : K → List ℕ) (name : List ℕ) (es : List (K × V))
    → lookup (λ k. bytes_eq name (text k)) es ≡ found (scope_of text es) name
lookup-scope_of text name [] = refl
lookup-scope_of text name (e ∷ es) =
    ap (λ rest. cond (bytes_eq name (text e.0)) (Some e.1) rest) (lookup-scope_of text name es)

-- a new name comes last
pub declared-new : {V : Type 0} (scope : List (List ℕ × V)) (name : List ℕ) (what : V) → found scope name ≡ None
    → declared scope name what ≡ scope ++ (name, what) ∷ []
declared-new scope name what absent = ap (λ o. cond (is_some o) scope (scope ++ (name, what) ∷ [])) absent

-- so does a new entry
pub scope_of-new : {K V : Type 0} (text : K → List ℕ) (es fs : List (K × V)) (scope : List (List ℕ × V)) (key : K)
    (what : V) → fs ≡ es ++ (key, what) ∷ [] → scope_of text es ≡ scope → found scope (text key) ≡ None
    → scope_of text fs ≡ declared scope (text key) what
scope_of-new text es fs scope key what more is absent =
    ap (scope_of text) more ∙ map-append (λ entry. (text entry.0, entry.1)) es ((key, what) ∷ [])
    ∙ ap (λ s. s ++ (text key, what) ∷ []) is ∙ sym (declared-new scope (text key) what absent)

-- what isn't there is nothing
pub nothing : {A : Type 0} (o : Option A) → is_some o ≡ false → o ≡ None
nothing None h = refl
nothing (Some x) h = cc

-- the earliest entries are the earliest names
pub scope_of-take : {K V : Type 0} (text : K → List ℕ) (n : ℕ) (es fs : List (K × V)) (scope : List (List ℕ × V))
    → fs ≡ take n es → scope_of text es ≡ scope → scope_of text fs ≡ take n scope
scope_of-take text n es fs scope fewer is =
    ap (scope_of text) fewer ∙ sym (take-map (λ entry. (text entry.0, entry.1)) n es) ∙ ap (take n) is

-- a part of what a name stands for
pub found_part : {V W : Type 0} (part : V → W) (scope : List (List ℕ × V)) (name : List ℕ)
    → found (parts part scope) name ≡ option_map part (found scope name)
found_part part [] name = refl
found_part part (e ∷ scope) name = by (bytes_eq name e.0) (found_part part scope name)
  where
    by : (b : Bool) → found (parts part scope) name ≡ option_map part (found scope name)
        → cond b (Some (part e.1)) (found (parts part scope) name)
        ≡ option_map part (cond b (Some e.1) (found scope name))
    by true rest = refl
    by false rest = rest

-- after a declaration
pub declared_part : {V W : Type 0} (part : V → W) (scope : List (List ℕ × V)) (name : List ℕ) (what : V)
    → parts part (declared scope name what) ≡ declared (parts part scope) name (part what)
declared_part {V = V} part scope name what =
    by (found scope name) ∙ ap (λ o. cond (is_some o) (parts part scope) (parts part scope ++ (name, part what) ∷ []))
    (sym (found_part part scope name))
  where
    by : (o : Option V) → parts part (cond (is_some o) scope (scope ++ (name, what) ∷ []))
        ≡ cond (is_some (option_map part o)) (parts part scope) (parts part scope ++ (name, part what) ∷ [])
    by (Some v) = refl
    by None = map-append (λ entry. (entry.0, part entry.1)) scope ((name, what) ∷ [])
