use Rattle.elf_runs.proofs.CodeWords.{word_more, words_done}
use Rattle.elf_runs.proofs.code.words_of.Goals as goal

pub words-preserved : goal.words-preserved
words-preserved c =
    rw c.in_ok-push.ensures.items
    (word_more c.args.bytes.now c.words.words.items c.words.k c.from_le_bytes-word.result c.words-test.true
    c.from_le_bytes-word.ensures c.words.invariant)

pub returns : goal.returns
returns c = words_done c.args.bytes.now c.words.words.items c.words.k c.words-test.false c.words.invariant
