use Rattle.std.proofs.Common.{◌≡◌, arith, drop, rules}
use Rattle.elf_runs.specs.Code.{halfwords_of, to_multiple}
use Rattle.elf_runs.proofs.CodeHalfwords.{halfwords_within, is_even}
use Rattle.elf_runs.proofs.code.halfword_code.Goals as goal

pub invariant_of-result : goal.invariant_of-result
invariant_of-result c =
    let segment = c.args.segment.now in
    let skipped : c.to_multiple-skipped.result ≡ to_multiple 2 segment.address = search rules in
    let are : c.in_ok-halfwords_of.field-0.items ≡ halfwords_of (drop (to_multiple 2 segment.address) segment.bytes) =
    search rules in
    let fits = halfwords_within segment.address segment.size segment.bytes c.in_ok-halfwords_of.field-0.items
    c.requires.0 c.requires.1 are in
    let even = is_even segment.address in
    record {
      even = omega (arith, even, skipped, c.from.ensures, c.from-2.ensures, c.address-2.ensures);
      within = omega (arith, fits, skipped, c.from.ensures, c.from-2.ensures, c.address-2.ensures);
    }
