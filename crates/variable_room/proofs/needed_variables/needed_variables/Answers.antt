use Rattle.std.proofs.Common.{◌≡◌, true, false, List, ap₂, sym, ◌∙◌}
use Rattle.std.proofs.lemmas.Bool.{cond-false, cond-true}
use Rattle.variable_room.specs.Below.{FlatVariable}
use Rattle.variable_room.specs.needed_variables.Exact.{needed_of}
use Rattle.variable_room.specs.needed_variables.private.Named.{Named, named_of, needed_from}
use Rattle.variable_room.specs.set_first.Order.{program_sets_first}
use Rattle.variable_room.proofs.needed_variables.needed_variables.Goals as goal

pub returns-then-not-branch-clause-exact : goal.returns-then-not-branch-clause-exact
unfolding needed_of
returns-then-not-branch-clause-exact c =
    let p = c.args.straight.now in
    let not : program_sets_first p ≡ false = sym c.in_ok-program_sets_first.ensures ∙ c.if-not-branch.true in
    c.in_ok-to_vec.ensures.items_if_clones_equal (λ x y h. h) ∙ c.declared.ensures
    ∙ sym (cond-false (program_sets_first p) (needed_from (named_of p) 0 p.declared) p.declared not)

pub returns-clause-exact : goal.returns-clause-exact
unfolding needed_of
returns-clause-exact c =
    let p = c.args.straight.now in
    let sets : program_sets_first p ≡ true = sym c.in_ok-program_sets_first.ensures ∙ c.if-not-branch.false in
    c.in_ok-only_named.ensures
    ∙ ap₂ (λ (named : Named) (ds : List FlatVariable). needed_from named 0 ds)
    (c.as_slice.ensures.value ∙ c.in_ok-named.ensures) c.declared-2.ensures
    ∙ sym (cond-true (program_sets_first p) (needed_from (named_of p) 0 p.declared) p.declared sets)
