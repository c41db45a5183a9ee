use Rattle.std.proofs.Common.{◌≡◌, List, ℕ, subst}
use Rattle.input_files.specs.harts_file.private.Reading.{TakesLine}
use Rattle.input_files.proofs.harts_file_lemmas.TakenLemmas.{byte_read, feed_read}
use Rattle.input_files.proofs.harts_file.pieces.PlanFile.take_byte.Goals as goal

pub returns-in_ok-take-clause-more : goal.returns-in_ok-take-clause-more
returns-in_ok-take-clause-more c = λ text read.
    feed_read c.args.self.now c.take.new.self c.clear.new.self text c.args.byte c.if-byte-eq10.true read
    (subst (λ (line : List ℕ). TakesLine c.args.self.now.taken c.take.new.self line) c.as_slice.ensures.value
    c.in_ok-take.ensures.takes)
    c.clear.ensures.items

pub returns-in_ok-push-clause-more : goal.returns-in_ok-push-clause-more
returns-in_ok-push-clause-more c = λ text read.
    byte_read c.args.self.now c.push.new.self text c.args.byte c.if-byte-eq10.false read c.in_ok-push.ensures.items
