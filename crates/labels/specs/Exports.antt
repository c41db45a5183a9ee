-- Where the exported procedure stands.
use Rattle.std.specs.Prelude.{ℕ, List, length, Option}
use Rattle.std.specs.Option.{option_map}
use Rattle.labels.specs.Below.{ProcedureTree}

-- how many procedures stand before the exported one, where there is one
abbrev pub export_index : Option (List ProcedureTree × ProcedureTree) → Option ℕ
export_index found = option_map (λ (both : List ProcedureTree × ProcedureTree). length both.0) found
