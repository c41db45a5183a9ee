use Rattle.std.proofs.Common.{◌≡◌, ◌-◌, ◌*◌, ◌/◌, length}
use Rattle.elf.specs.Lookup.{fits, preferred}
use Rattle.elf.specs.Symbols.{symbols_from, symbols_of}
use Rattle.elf.proofs.Preference.{preferred_after}
use Rattle.elf.proofs.lookup.preferred.Given as goal

abbrev pub invariant-symbols : goal.invariant-symbols
invariant-symbols l =
    let test = fits l.wanted l.strings l.name in
    preferred test (symbols_of l.table)
    ≡ preferred_after test l.found (symbols_from (length l.table / 16 - l.k) (16 * l.k) l.table)
