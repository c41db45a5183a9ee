use Rattle.std.proofs.Common.{◌≡◌, ◌++◌, codes, drop}
use Rattle.elf_reports.specs.Places.{address_text, callers_text}
use Rattle.elf_reports.proofs.places.push_place.Given as goal

-- with what is left, the text is the whole
abbrev pub invariant-calls : goal.invariant-calls
invariant-calls l =
    l.text.items ++ callers_text l.program (drop l.call-index l.calls)
    ≡ l.fn.text.items ++ codes "in " ++ address_text l.program l.pc ++ callers_text l.program l.calls
