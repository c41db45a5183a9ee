-- What a program shows to those who call it: the exported procedure, and the shapes of its parameters.
use Rattle.std.specs.Prelude.{List, [], ◌∷◌, ◌++◌, Option, Some, None, is_some, if◌then◌else◌}
use Rattle.language.specs.declared.signature.Param.{Param}
use Rattle.language.specs.Tree.{ParameterTree, ProcedureTree}

-- a parameter without its name
abbrev pub param_of : ParameterTree → Param
param_of p = record { kind = p.kind; label = p.label; form = p.form; length = p.length }

-- the exported procedure, and those before it
abbrev pub exported : List ProcedureTree → List ProcedureTree → Option (List ProcedureTree × ProcedureTree)
exported before [] = None
exported before (p ∷ ps) = if is_some p.export then Some (before, p) else exported (before ++ p ∷ []) ps
