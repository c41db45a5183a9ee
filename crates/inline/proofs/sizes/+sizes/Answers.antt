use Rattle.std.proofs.Common.{rules}
use Rattle.inline.proofs.NumberingLemmas.{conditional_whole, loop_whole}
use Rattle.inline.proofs.sizes.+sizes.Goals as goal

pub size_of_statement-returns-in-If : goal.size_of_statement-returns-in-If
size_of_statement-returns-in-If t c =
    rw (conditional_whole _ c.in-If.condition c.in-If.accepted c.in-If.otherwise c.in-If.is c.deref.ensures.value
    c.deref-in-If.ensures.value) (search rules)

pub size_of_statement-returns-in-For : goal.size_of_statement-returns-in-For
size_of_statement-returns-in-For t c =
    rw (loop_whole _ c.in-For.field-1 c.in-For.low c.in-For.high c.in-For.body c.in-For.is c.deref-in-For.ensures.value)
    (search rules)
