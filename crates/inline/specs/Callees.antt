-- The procedures that a body may call, as they stand in memory.
use Rattle.std.specs.Prelude.{List, map}
use Rattle.inline.specs.Numbering.{Callables, callables}
use Rattle.inline.specs.Below.{Procedure, procedure_tree}

-- what is known behind these
abbrev pub called_by : List Procedure → Callables
called_by earlier = callables (map procedure_tree earlier)
