use Rattle.std.proofs.Common.{◌∙◌}
use Rattle.image.specs.Reading.{slots_format}
use Rattle.image.proofs.Loop.{fails, goes_on, is_done, passed, slots_repeat}
use Rattle.image.proofs.reading.Reader.slots.Goals as goal

pub returns-in_err-slot : goal.returns-in_err-slot
returns-in_err-slot c = λ next.
    let items = c.slots.slots.items in
    let fault = c.in_err-slot.field-0.0 in
    passed (slots_format c.args.count 0 next) _ (λ slots. next slots.items) c.from_residual-in_err-slot.result fault
    c.args.self.now c.slots.self c.slot.new.self c.from_residual-in_err-slot.ensures.1 (c.slots.invariant next)
    (fails slots_repeat c.args.count c.slots.counter c.slots.low items next fault c.slots.self c.slots-test.true
    c.in_err-slot.ensures)

pub slots-preserved : goal.slots-preserved
slots-preserved c = λ next.
    let items = c.slots.slots.items in
    rw (c.in_ok-push.ensures.items, c.end-low.ensures)
    (c.slots.invariant next
    ∙ goes_on slots_repeat c.args.count c.slots.counter c.slots.low items next c.in_ok-slot.slot
    c.slots.self c.slot.new.self c.slots-test.true c.in_ok-slot.ensures)

pub returns : goal.returns
returns c = λ next.
    c.slots.invariant next
    ∙ is_done slots_repeat c.args.count c.slots.counter c.slots.low c.slots.slots.items next c.slots.self
    c.slots-test.false
