use Rattle.std.proofs.Common.{◌≡◌, ◌≤◌, ◌+◌, ◌++◌, drop, length}
use Rattle.codegen.proofs.Machine.{entry_code}
use Rattle.codegen.specs.private.Fresh.{homes_but, starts_fresh}
use Rattle.codegen.proofs.generator.enter.Given as goal

-- the code so far and that of the homes that are left are the code of all homes
abbrev pub invariant-loop-number : goal.invariant-loop-number
invariant-loop-number l =
    let rest = drop l.number l.fn.layout.allocation.homes in
    let fresh = starts_fresh l.fn.straight in
    record {
      code : l.code.items ++ entry_code l.fn.layout.declared l.number (homes_but fresh l.number rest) ≡ l.fn.code.items
          ++ entry_code l.fn.layout.declared 0 (homes_but fresh 0 l.fn.layout.allocation.homes);
      within : l.number + length rest ≤ length l.fn.layout.declared + l.fn.layout.controls;
      layout : l.layout ≡ l.fn.layout;
    }
