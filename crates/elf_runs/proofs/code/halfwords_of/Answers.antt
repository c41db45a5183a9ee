use Rattle.elf_runs.proofs.CodeHalfwords.{halfword_more, halfwords_done}
use Rattle.elf_runs.proofs.code.halfwords_of.Goals as goal

pub halfwords-preserved : goal.halfwords-preserved
halfwords-preserved c =
    rw c.in_ok-push.ensures.items
    (halfword_more c.args.bytes.now c.halfwords.halfwords.items c.halfwords.k c.from_le_bytes-halfword.result
    c.halfwords-test.true c.from_le_bytes-halfword.ensures c.halfwords.invariant)

pub returns : goal.returns
returns c =
    halfwords_done c.args.bytes.now c.halfwords.halfwords.items c.halfwords.k c.halfwords-test.false
    c.halfwords.invariant
