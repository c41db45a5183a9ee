-- What a procedure violates after its name.
use Rattle.std.specs.Prelude.{List, ◌++◌, None}
use Rattle.labels.specs.Below.{block_violations, parameter_violations, ProcedureTree, return_violations, Scope}
use Rattle.labels.specs.Below.{scope_after_all, Violation, with_parameters}

-- at its parameters, in its body and at its `return`, in the scope that has its name
abbrev pub inside_violations : List ProcedureTree → Scope → ProcedureTree → List Violation
inside_violations earlier scope p =
    parameter_violations scope p.parameters
    ++ block_violations earlier (with_parameters scope p.parameters) None p.body
    ++ return_violations (scope_after_all (with_parameters scope p.parameters) p.body) p.result p.returned
