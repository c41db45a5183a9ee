use Rattle.std.proofs.Common.{◌≡◌, ◌≤◌, ◌+◌, ◌*◌, ◌++◌}
use Rattle.functions.specs.Below.{element_bytes, elements_code}
use Rattle.functions.specs.function_code.private.Ways.{element_code}
use Rattle.functions.proofs.function_code.copying.elements.Given as goal

-- the code so far and that of the elements that are left are all of it
abbrev pub invariant-elements : goal.invariant-elements
invariant-elements l = record {
  code : l.code.items ++ elements_code (element_code l.fn.way l.fn.kind) (element_bytes l.fn.kind) l.offset l.left
      ≡ l.fn.code.items ++ elements_code (element_code l.fn.way l.fn.kind) (element_bytes l.fn.kind) 0
      l.fn.count;
  near : l.offset + 4 * l.left ≤ 128;
}

abbrev pub decreases-elements : goal.decreases-elements
decreases-elements l = l.left
