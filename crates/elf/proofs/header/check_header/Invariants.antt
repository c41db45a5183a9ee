use Rattle.std.proofs.Common.{◌≡◌, drop}
use Rattle.std.specs.List.{flat_map}
use Rattle.elf.specs.Checks.{first_broken}
use Rattle.elf.specs.Header.{field_checks, header_checks}
use Rattle.elf.proofs.header.check_header.Given as goal

abbrev pub invariant-fields : goal.invariant-fields
invariant-fields l =
    first_broken (header_checks l.bytes)
    ≡ first_broken (flat_map (field_checks l.bytes) (drop l.field-index l.field-items))
