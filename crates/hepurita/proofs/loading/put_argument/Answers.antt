use Rattle.std.proofs.Common.{sym, ap, subst, ◌∙◌, arith}
use Rattle.hepurita.specs.Below.{Arg, HasShape, with_argument, Word}
use Rattle.hepurita.proofs.DataLemmas.{word_there}
use Rattle.hepurita.proofs.loading.put_argument.Goals as goal

pub returns-in-Word : goal.returns-in-Word
returns-in-Word g c =
    let slot = c.args.slot.now in
    let bytes = g.M.Memory.bytes c.args.memory.now in
    let shape : HasShape slot.param.form slot.param.length (Word c.in-Word.word) =
    subst (HasShape slot.param.form slot.param.length) c.in-Word.is c.requires.shape in
    c.store.ensures.stored (c.store.ensures.answer
    ∙ word_there c.args.frame bytes slot c.requires.data.data_there c.in-Word.word shape)
    ∙ sym (ap (λ (arg : Arg). with_argument c.args.frame bytes slot arg) c.in-Word.is)

pub overflow_add-at : goal.overflow_add-at
overflow_add-at g c = omega (arith, c.requires.data.below)
