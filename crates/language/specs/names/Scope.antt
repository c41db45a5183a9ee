-- Names with what they stand for, as a list.
use Rattle.std.specs.Prelude.{ℕ, List, [], ◌∷◌, ◌++◌, Option, is_some, map, if◌then◌else◌}
use Rattle.std.specs.Str.{bytes_eq}
use Rattle.std.specs.Map.{lookup}

-- what a name stands for: its first declaration
abbrev pub found : {V : Type 0} → List (List ℕ × V) → List ℕ → Option V
found scope name = lookup (bytes_eq name) scope

-- the list after a declaration: of two declarations of a name the first keeps it
abbrev pub declared : {V : Type 0} → List (List ℕ × V) → List ℕ → V → List (List ℕ × V)
declared scope name what = if is_some (found scope name) then scope else scope ++ (name, what) ∷ []

-- a part of what each name stands for
abbrev pub parts : {V W : Type 0} → (V → W) → List (List ℕ × V) → List (List ℕ × W)
parts part scope = map (λ entry. (entry.0, part entry.1)) scope

-- a map's entries as such a list, each key seen as its text
abbrev pub scope_of : {K V : Type 0} → (K → List ℕ) → List (K × V) → List (List ℕ × V)
scope_of text entries = map (λ entry. (text entry.0, entry.1)) entries
