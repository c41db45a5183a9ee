use Rattle.std.proofs.Common.{◌≡◌, Option, Some, ap, sym, ◌∙◌}
use Rattle.codegen.proofs.Language.{IsCounted, StraightProgram}
use Rattle.codegen.proofs.Logic.{none-some, same_Some}
use Rattle.codegen.proofs.Machine.{Allocation, Fields, image_of, image_within, plain}
use Rattle.codegen.specs.Exact.{fields_of}
use Rattle.codegen.proofs.ImageLemmas.{image_there, plain_fits, program_length}
use Rattle.codegen.proofs.generator.generate.Goals as goal

pub generate_with-requires : goal.generate_with-requires
generate_with-requires c =
    rw (c.new-allocation.ensures, c.as_slice.ensures.value, c.new-homes.ensures.items) (plain_fits c.code.result.now)

-- so the image is there
made_plain : (code p : StraightProgram) (a : Allocation) (made : Option Fields) → code ≡ p → a ≡ plain
    → made ≡ image_within a code → IsCounted p → made ≡ Some (image_of plain p)
made_plain code p a made same bare is counted =
    is ∙ (ap (image_within a) same ∙ (ap (λ (b : Allocation). image_within b p) bare
    ∙ image_there plain p (program_length plain p counted (plain_fits p))))

pub unreachable-requires : goal.unreachable-requires
unreachable-requires c =
    let bare : c.new-allocation.result ≡ plain =
    rw (c.new-allocation.ensures, c.as_slice.ensures.value, c.new-homes.ensures.items) in
    none-some _ (sym c.in-None.is
    ∙ made_plain c.code.result.now c.args.straight.now c.new-allocation.result _ c.code.ensures.code bare
    c.in_ok-code.ensures.exact c.code.ensures.counted)

pub returns-clause-exact : goal.returns-clause-exact
unfolding fields_of
returns-clause-exact c =
    let bare : c.new-allocation.result ≡ plain =
    rw (c.new-allocation.ensures, c.as_slice.ensures.value, c.new-homes.ensures.items) in
    same_Some _ _ (sym c.in-Some.is
    ∙ made_plain c.code.result.now c.args.straight.now c.new-allocation.result _ c.code.ensures.code bare
    c.in_ok-code.ensures.exact c.code.ensures.counted)
