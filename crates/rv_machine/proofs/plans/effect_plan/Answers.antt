-- The plan of a load and of a store.
use Rattle.rv_machine.specs.Harts.{pc_of, regs_of}
use Rattle.rv_machine.proofs.plans.effect_plan.Goals as goal

pub returns-in-Loads-clause-ends : goal.returns-in-Loads-clause-ends
returns-in-Loads-clause-ends g c =
    let form = c.args.form in
    rw c.in-Loads.is
    (c.load_plan.ensures.ends form.length form.alignment form.profile (pc_of c.args.hart.now) (regs_of c.args.hart.now))

pub returns-in-Stores-clause-ends : goal.returns-in-Stores-clause-ends
returns-in-Stores-clause-ends g c =
    let form = c.args.form in
    rw c.in-Stores.is
    (c.store_plan.ensures.ends form.length form.alignment form.profile (pc_of c.args.hart.now)
    (regs_of c.args.hart.now))
