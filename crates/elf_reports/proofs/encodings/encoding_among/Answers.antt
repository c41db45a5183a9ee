use Rattle.std.proofs.Common.{◌∙◌, ap, sym}
use Rattle.elf_reports.specs.Below.{alignment_by, P1, ProgramCode}
use Rattle.elf_reports.specs.Encodings.{encoding_in}
use Rattle.elf_reports.proofs.Below.{found_there, passed_by}
use Rattle.elf_reports.proofs.encodings.encoding_among.Goals as goal

pub returns-then-has_code : goal.returns-then-has_code
returns-then-has_code c = λ compressed.
    c.encoding_in.ensures
    ∙ ap (λ (code : ProgramCode). encoding_in code c.args.address)
    (found_there (alignment_by compressed) P1 c.args.codes.now c.each.code-index c.code-item.result c.args.address
    c.each-test.true c.code-item.is _ (sym c.has_code.ensures ∙ c.if-has_code.true) (c.each.invariant compressed))

pub each-preserved : goal.each-preserved
each-preserved c = λ compressed.
    passed_by (alignment_by compressed) P1 c.args.codes.now c.each.code-index c.code-item.result c.args.address
    c.each-test.true c.code-item.is _ (sym c.has_code.ensures ∙ c.if-has_code.false) (c.each.invariant compressed)
