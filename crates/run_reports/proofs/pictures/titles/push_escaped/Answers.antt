-- One byte more.
use Rattle.std.proofs.Common.{refl}
use Rattle.run_reports.specs.pictures.Titles.{escaped, escaped_byte}
use Rattle.run_reports.proofs.pictures_lemmas.Written.{one_more}
use Rattle.run_reports.proofs.pictures.titles.push_escaped.Goals as goal

pub loop-byte-preserved : goal.loop-byte-preserved
loop-byte-preserved c =
    one_more (λ n byte. escaped_byte byte) (λ n text. escaped text) (λ n byte text. refl) c.args.text.now
    c.loop-byte.byte-index 0 c.loop-byte.page.items _ _ c.loop-byte-test.true c.in_ok-push_byte.ensures
    c.loop-byte.invariant
