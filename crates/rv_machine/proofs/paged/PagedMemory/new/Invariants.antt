use Rattle.std.proofs.Common.{◌≡◌, ℕ, take}
use Rattle.rv_machine.specs.Paged.{zeros_in, bytes_in}
use Rattle.rv_machine.proofs.paged.PagedMemory.new.Given as goal

-- the ranges so far have their pages
abbrev pub invariant-loop-range : goal.invariant-loop-range
invariant-loop-range l = (a : ℕ) → bytes_in l.pages.items a ≡ zeros_in (take l.range-index l.ranges) a
