use Rattle.std.proofs.Common.{arith}
use Rattle.compilation.proofs.BlankLemmas.{one_more}
use Rattle.compilation.proofs.blank.push_words.Goals as goal

pub words-preserved : goal.words-preserved
words-preserved c =
    let kept = c.words.invariant in (
      one_more c.words.offsets.items c.push.new.self.items _ c.words.offset c.words.left c.words-test.true
          c.in_ok-push.ensures.items kept.0,
      omega (arith, kept.1, c.words-test.true),
    )
