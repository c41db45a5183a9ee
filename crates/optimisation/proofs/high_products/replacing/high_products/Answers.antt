use Rattle.std.proofs.Common.{◌≡◌, true, false, None, sym, ◌∙◌}
use Rattle.std.proofs.lemmas.Bool.{cond-false, cond-true}
use Rattle.optimisation.specs.Below.{checked}
use Rattle.optimisation.specs.high_products.Exact.{with_high_products}
use Rattle.optimisation.specs.high_products.private.Replacing.{program_makes, replaced_program}
use Rattle.optimisation.proofs.high_products.replacing.high_products.Goals as goal

pub returns-then-not-program_makes-clause-exact : goal.returns-then-not-program_makes-clause-exact
unfolding with_high_products
returns-then-not-program_makes-clause-exact c =
    let p = c.args.straight.now in
    let not : program_makes p ≡ false = sym c.program_makes.ensures ∙ c.if-not-program_makes.true in
    sym (cond-false (program_makes p) (checked (replaced_program p)) None not)

pub returns-clause-exact : goal.returns-clause-exact
unfolding with_high_products
returns-clause-exact c =
    let p = c.args.straight.now in
    let makes : program_makes p ≡ true = sym c.program_makes.ensures ∙ c.if-not-program_makes.false in
    c.in_ok-replaced.ensures.exact ∙ sym (cond-true (program_makes p) (checked (replaced_program p)) None makes)
