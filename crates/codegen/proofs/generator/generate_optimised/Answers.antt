use Rattle.std.proofs.Common.{◌≡◌, IfOk, subst}
use Rattle.codegen.proofs.Machine.{Allocation, image_within, IsFitting}
use Rattle.codegen.specs.Exact.{optimised_fields_of}
use Rattle.codegen.specs.private.Homes.{word_homes}
use Rattle.codegen.proofs.WordHomes.{word_homes_fit}
use Rattle.codegen.proofs.generator.generate_optimised.Goals as goal

pub generate_with-requires : goal.generate_with-requires
generate_with-requires c =
    let p = c.args.straight.now in
    let is : word_homes p ≡ c.with_immediates-allocation.result =
    rw (
      c.with_immediates-allocation.ensures,
      c.new.ensures,
      c.as_slice-2.ensures.value,
      c.in_ok-unread.ensures,
      c.as_slice-3.ensures.value,
      c.in_ok-found.ensures.mirrors,
      c.as_slice.ensures.value,
      c.in_ok-found.ensures.homes,
      c.temporary_registers-count.ensures.count,
    ) in
    subst (IsFitting p) is (word_homes_fit p)

pub returns-clause-exact : goal.returns-clause-exact
unfolding optimised_fields_of
returns-clause-exact c =
    let p = c.args.straight.now in
    let is : c.with_immediates-allocation.result ≡ word_homes p =
    rw (
      c.with_immediates-allocation.ensures,
      c.new.ensures,
      c.as_slice-2.ensures.value,
      c.in_ok-unread.ensures,
      c.as_slice-3.ensures.value,
      c.in_ok-found.ensures.mirrors,
      c.as_slice.ensures.value,
      c.in_ok-found.ensures.homes,
      c.temporary_registers-count.ensures.count,
    ) in
    subst (λ (a : Allocation). IfOk c.generate_with.result (λ made. made ≡ image_within a p)) is
    c.generate_with.ensures.exact
