use Rattle.std.proofs.Common.{◌∙◌}
use Rattle.image.specs.Reading.{words_format}
use Rattle.image.proofs.Loop.{fails, goes_on, is_done, passed, words_repeat}
use Rattle.image.proofs.reading.Reader.words.Goals as goal

pub returns-in_err-take : goal.returns-in_err-take
returns-in_err-take c = λ next.
    let items = c.words.words.items in
    let fault = c.in_err-take.field-0.0 in
    passed (words_format c.args.count next) _ (λ words. next words.items) c.from_residual-in_err-take.result fault
    c.args.self.now c.words.self c.take.new.self c.from_residual-in_err-take.ensures.1 (c.words.invariant next)
    (fails words_repeat c.args.count c.words.counter 0 items next fault c.words.self c.words-test.true
    c.in_err-take.ensures.leads)

pub words-preserved : goal.words-preserved
words-preserved c = λ next.
    let items = c.words.words.items in
    rw c.in_ok-push.ensures.items
    (c.words.invariant next
    ∙ goes_on words_repeat c.args.count c.words.counter 0 items next c.in_ok-take.field-0
    c.words.self c.take.new.self c.words-test.true c.in_ok-take.ensures.leads)

pub returns : goal.returns
returns c = λ next.
    c.words.invariant next
    ∙ is_done words_repeat c.args.count c.words.counter 0 c.words.words.items next c.words.self c.words-test.false
