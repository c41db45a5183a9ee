use Rattle.std.proofs.Common.{◌≡◌, ◌+◌, ◌*◌, suc, take, length, arith}
use Rattle.std.specs.Prelude.{slice_index}
use Rattle.std.proofs.Math.Seq.{take-suc}
use Rattle.std.proofs.lemmas.List.{length-take}
use Rattle.listing.specs.Code.{nothing}
use Rattle.listing.proofs.CodeLines.{one_word_more}
use Rattle.listing.proofs.words.list_words.Goals as goal

pub loop-word-init : goal.loop-word-init
loop-word-init c = record { listed = rw c.new-lines.ensures.items nothing; address = omega arith }

pub loop-word-preserved : goal.loop-word-preserved
loop-word-preserved c =
    let words = c.args.words.now in
    let i = c.loop-word.word-index in
    let pushed = c.in_ok-push_line.ensures in
    let more : i + 1 ≡ suc i = omega arith in
    let address : c.loop-word.address ≡ c.args.base + 4 * length (take i words) =
    omega (arith, length-take i words, c.loop-word.invariant.address) in
    record {
      listed =
          rw (more, take-suc words i 0 (omega arith), pushed.2, address)
          (one_word_more c.args.base (slice_index words i) pushed.0 (take i words) c.loop-word.lines.items
          c.loop-word.invariant.listed pushed.1);
      address = omega (arith, c.loop-word.invariant.address);
    }
