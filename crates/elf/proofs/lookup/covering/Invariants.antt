use Rattle.std.proofs.Common.{◌≡◌, ◌-◌, ◌*◌, ◌/◌, find, length}
use Rattle.elf.specs.Lookup.{covers}
use Rattle.elf.specs.Symbols.{symbols_from, symbols_of}
use Rattle.elf.proofs.lookup.covering.Given as goal

abbrev pub invariant-symbols : goal.invariant-symbols
invariant-symbols l =
    find (covers l.wanted l.address) (symbols_of l.table)
    ≡ find (covers l.wanted l.address) (symbols_from (length l.table / 16 - l.k) (16 * l.k) l.table)
