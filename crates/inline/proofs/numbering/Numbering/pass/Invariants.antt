use Rattle.std.proofs.Common.{[], drop, length, map, ◌++◌}
use Rattle.inline.proofs.PassLemmas.{Passes}
use Rattle.inline.proofs.numbering.Numbering.pass.Given as goal
use Rattle.inline.specs.Flat.{chain, flat_block}
use Rattle.inline.specs.Numbering.{begun, passed, passed_variables}
use Rattle.inline.specs.Below.{expr_tree, parameter_tree}

-- those before this one are passed, and with those left all are
abbrev pub invariant-loop-index : goal.invariant-loop-index
invariant-loop-index l =
    let ps = map parameter_tree l.parameters in
    let es = map expr_tree l.arguments in
    let names = l.self.names in
    let old = l.fn.declared.items in
    record {
      all : Passes names (flat_block l.flat.items) l.own.names l.declared.items
          (map parameter_tree (drop l.index l.parameters)) (map expr_tree (drop l.index l.arguments))
          (chain (flat_block l.fn.flat.items) (passed names (length old) ps es)) (begun names [] (length old) ps es)
          (old ++ passed_variables ps es);
    }
