use Rattle.std.proofs.Common.{◌≡◌, ◌++◌, drop, length, map, take}
use Rattle.inline.proofs.numbering.Numbering.parameters.Given as goal
use Rattle.inline.specs.Flat.{declaration_of}
use Rattle.inline.specs.Numbering.{param_of, with_parameters}
use Rattle.inline.specs.Below.{parameter_tree}

-- those before this one are done, and what is left leads to the same names and variables as all of them
abbrev pub invariant-loop-parameter : goal.invariant-loop-parameter
invariant-loop-parameter l =
    let rest = map parameter_tree (drop l.parameter-index l.parameters) in
    let all = map parameter_tree l.parameters in
    record {
      params : l.params.items ≡ map param_of (map parameter_tree (take l.parameter-index l.parameters));
      names : with_parameters l.self.names (length l.declared.items) rest
          ≡ with_parameters l.fn.self.names (length l.fn.declared.items) all;
      declared : l.declared.items ++ map declaration_of (map param_of rest) ≡ l.fn.declared.items
          ++ map declaration_of (map param_of all);
    }
