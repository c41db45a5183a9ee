use Rattle.std.proofs.Common.{◌≡◌, map, drop, fold}
use Rattle.labels.specs.Below.{block_tree, block_violations, procedure_tree, scope_after_all, noted}
use Rattle.labels.proofs.statements.+statement.Given as goal

-- what is left of the statements leads to the same scope and the same findings as all of them
abbrev pub invariant-statements-loop-one : goal.invariant-statements-loop-one
invariant-statements-loop-one l =
    let rest = block_tree (drop l.one-index l.statements) in
    let all = block_tree l.fn.statements in
    let earlier = map procedure_tree l.earlier in
    record {
      names : scope_after_all l.names rest ≡ scope_after_all l.fn.names all;
      findings : fold noted l.findings (block_violations earlier l.names l.control rest)
          ≡ fold noted l.fn.findings (block_violations earlier l.fn.names l.fn.control all);
      control : l.control ≡ l.fn.control;
    }
