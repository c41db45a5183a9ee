use Rattle.std.proofs.Common.{◌≡◌, ◌+◌, ◌-◌, ◌*◌, ◌++◌}
use Rattle.elf.specs.Checks.{first_broken}
use Rattle.elf.specs.Segments.{checks_from, memory_of, program_headers_from, segment_checks, segments_in, segments_of}
use Rattle.elf.proofs.reading.segments_of.Given as goal

abbrev pub invariant-headers : goal.invariant-headers
invariant-headers l =
    let left = program_headers_from (l.count - l.k) (l.start + 32 * l.k) l.bytes in
    record {
      checks : first_broken (segment_checks l.bytes) ≡ first_broken (checks_from l.bytes l.segments.items left);
      loaded : segments_of l.bytes ≡ l.segments.items ++ segments_in l.bytes left;
      taken : l.taken ≡ memory_of l.segments.items;
    }
