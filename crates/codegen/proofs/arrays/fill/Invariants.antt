use Rattle.std.proofs.Common.{◌≡◌, ◌++◌, ◌+◌, ◌*◌, ◌≤◌, drop, map, length}
use Rattle.codegen.proofs.Machine.{fill_code, ArePlacedTerms}
use Rattle.codegen.specs.Below.{term_tree}
use Rattle.codegen.proofs.arrays.fill.Given as goal

-- the code so far and that of what is left are the code of all values
abbrev pub invariant-loop-value : goal.invariant-loop-value
invariant-loop-value l =
    let rest = drop l.value-index l.values in
    record {
      code : l.code.items ++ fill_code l.layout l.kind l.place (map term_tree rest)
          ≡ l.fn.code.items ++ fill_code l.fn.layout l.fn.kind l.fn.offset (map term_tree l.fn.values);
      placed : ArePlacedTerms l.layout (map term_tree rest);
      room : l.place + 4 * length rest ≤ 262144;
    }
