-- What is known of two registers decides.
use Rattle.std.proofs.Common.{ap, ap₂, sym, ◌∙◌}
use Rattle.certified_runs.specs.Amounts.{decides_amount}
use Rattle.certified_runs.specs.Bits.{are_known, decides_branch, is_known_amount}
use Rattle.certified_runs.specs.Certified.{decides_product}
use Rattle.certified_runs.proofs.changes.decides.Goals as goal

pub returns-else-eq : goal.returns-else-eq
returns-else-eq g c = λ bytes.
    rw (c.in-Branch.is, sym c.eq.ensures ∙ c.if-eq.false) (c.decides_branch.ensures
    ∙ ap₂ (decides_branch c.in-Branch.test) (c.part.ensures bytes) (c.part-else-eq.ensures bytes))

pub returns-in-Register : goal.returns-in-Register
returns-in-Register g c = λ bytes.
    rw c.in-Register.is (c.decides_amount.ensures
    ∙ ap (decides_amount c.args.known.now.shifts c.in-Register.operation)
    (c.is_known_amount.ensures ∙ ap is_known_amount (c.part-in-Register.ensures bytes)))

pub returns-in-Multiply : goal.returns-in-Multiply
returns-in-Multiply g c = λ bytes.
    rw c.in-Multiply.is (c.decides_product.ensures ∙ ap (decides_product c.args.profile)
    (c.are_known.ensures ∙ ap₂ are_known (c.part-in-Multiply.ensures bytes) (c.part-in-Multiply-2.ensures bytes)))

pub returns-in-Divide : goal.returns-in-Divide
returns-in-Divide g c = λ bytes.
    rw c.in-Divide.is (c.are_known-in-Divide.ensures
    ∙ ap₂ are_known (c.part-in-Divide.ensures bytes) (c.part-in-Divide-2.ensures bytes))
