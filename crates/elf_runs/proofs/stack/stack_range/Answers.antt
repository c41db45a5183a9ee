use Rattle.std.proofs.Common.{◌-◌, ◌*◌, ◌++◌, ◌∙◌, ap, arith, length, replicate}
use Rattle.elf_memory.specs.Arguments.{rounded}
use Rattle.elf_runs.proofs.Filling.{filled, stack_is, word_more}
use Rattle.elf_runs.proofs.stack.stack_range.Goals as goal

pub words-preserved : goal.words-preserved
words-preserved c =
    let words = c.args.words.now in
    let below = c.args.size - rounded (4 * length words) in
    let i = c.words.word-index in
    record {
      value =
          word_more (replicate below 0) (λ word. word.value) words i _ c.words.bytes.items
          c.extend_from_slice.new.self.items c.words-test.true c.words.invariant.value
          (c.in_ok-extend_from_slice.ensures.items ∙ ap (λ some. c.words.bytes.items ++ some) c.to_le_bytes.ensures);
      mask =
          word_more (replicate below 255) (λ word. word.unknown) words i _ c.words.unknown.items
          c.extend_from_slice-in-words.new.self.items c.words-test.true c.words.invariant.mask
          (c.in_ok-extend_from_slice-2.ensures.items
          ∙ ap (λ some. c.words.unknown.items ++ some) c.to_le_bytes-in-words.ensures);
    }

pub returns : goal.returns
returns c =
    let size = c.args.size in
    let words = c.args.words.now in
    let i = c.words.word-index in
    stack_is size words c.resize.new.self.items c.resize-2.new.self.items
    (c.in_ok-resize.ensures.items
    ∙ filled size 0 (λ word. word.value) words i _ c.words.bytes.items c.requires.room
    (omega (arith, c.words-test.false)) c.words.invariant.value c.words.bytes.ok.0)
    (c.in_ok-resize-2.ensures.items
    ∙ filled size 255 (λ word. word.unknown) words i _ c.words.unknown.items c.requires.room
    (omega (arith, c.words-test.false)) c.words.invariant.mask c.words.unknown.ok.0)
