use Rattle.std.proofs.Common.{◌≡◌, arith, drop, rules}
use Rattle.elf_runs.specs.Code.{to_multiple, words_of}
use Rattle.elf_runs.proofs.CodeWords.{code_within}
use Rattle.elf_runs.proofs.code.word_code.Goals as goal

pub invariant_of-result : goal.invariant_of-result
invariant_of-result c =
    let segment = c.args.segment.now in
    let skipped : c.to_multiple-skipped.result ≡ to_multiple 4 segment.address = search rules in
    let are : c.in_ok-words_of.field-0.items ≡ words_of (drop (to_multiple 4 segment.address) segment.bytes) =
    search rules in
    let fits = code_within segment.address segment.size segment.bytes c.in_ok-words_of.field-0.items c.requires.0
    c.requires.1 are in
    record { within = omega (arith, fits, skipped, c.from.ensures, c.from-2.ensures, c.address-2.ensures) }
