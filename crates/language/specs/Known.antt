-- What is known of the procedures that may be called, by their names.
use Rattle.std.specs.Prelude.{ℕ, List, [], ◌∷◌, Option, Some, None, if◌then◌else◌}
use Rattle.std.specs.Str.{bytes_eq}
use Rattle.language.specs.Tree.{ProcedureTree}

abbrev pub Known : Type 0 → Type 0
Known A = List ℕ → Option A

abbrev pub nothing_known : {A : Type 0} → Known A
nothing_known text = None

abbrev pub first_known : {A : Type 0} → Option A → Option A → Option A
first_known (Some one) other = Some one
first_known None other = other

-- with one more name: of two procedures of a name the first keeps it
abbrev pub with_known : {A : Type 0} → Known A → List ℕ → A → Known A
with_known known name what text = first_known (known text) (if bytes_eq text name then Some what else None)

-- of procedures in their order, each by what is known of the earlier ones
abbrev pub known_from : {A : Type 0} → (Known A → ProcedureTree → A) → Known A → List ProcedureTree → Known A
known_from make known [] = known
known_from make known (p ∷ ps) = known_from make (with_known known p.name (make known p)) ps

abbrev pub known_of : {A : Type 0} → (Known A → ProcedureTree → A) → List ProcedureTree → Known A
known_of make ps = known_from make nothing_known ps
