use Rattle.std.proofs.Common.{◌≡◌, ◌+◌, ◌-◌, ◌*◌, find}
use Rattle.elf.specs.Symbols.{is_table, sections_from}
use Rattle.elf.proofs.section.table_of.Given as goal

abbrev pub invariant-sections : goal.invariant-sections
invariant-sections l =
    find is_table (sections_from l.count l.start l.bytes)
    ≡ find is_table (sections_from (l.count - l.k) (l.start + 40 * l.k) l.bytes)
