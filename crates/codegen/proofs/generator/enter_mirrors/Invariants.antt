use Rattle.std.proofs.Common.{◌≡◌, ◌++◌, drop}
use Rattle.codegen.specs.private.Fresh.{homes_but, starts_fresh}
use Rattle.codegen.specs.private.Generated.{mirrors_code}
use Rattle.codegen.proofs.generator.enter_mirrors.Given as goal

-- the code so far and that of the mirrors that are left are the code of all mirrors
abbrev pub invariant-loop-number : goal.invariant-loop-number
invariant-loop-number l =
    let a = l.allocation in
    let homes = homes_but (starts_fresh l.straight) 0 a.homes in
    l.code.items ++ mirrors_code homes l.number (drop l.number a.mirrors)
    ≡ l.fn.code.items ++ mirrors_code homes 0 a.mirrors
