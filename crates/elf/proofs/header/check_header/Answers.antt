use Rattle.std.proofs.Common.{◌∙◌, refl, ap}
use Rattle.std.proofs.Math.ListN.{drop_of_length-le}
use Rattle.std.specs.List.{flat_map}
use Rattle.elf.specs.Checks.{first_broken}
use Rattle.elf.specs.Header.{field_checks, fields_in_order, header_checks}
use Rattle.elf.proofs.Broken.{item_broken, item_held, passed_on}
use Rattle.elf.proofs.header.check_header.Goals as goal

pub fields-init : goal.fields-init
unfolding header_checks
fields-init c = refl

pub fields-preserved : goal.fields-preserved
fields-preserved c =
    c.fields.invariant
    ∙ item_held (field_checks c.args.bytes.now) fields_in_order c.fields.field-index _ c.fields-test.true
    c.in_ok-check.ensures

pub returns-in_err-check : goal.returns-in_err-check
returns-in_err-check c =
    let broken = c.in_err-check.field-0.0 in
    passed_on c.from_residual.result broken (header_checks c.args.bytes.now) c.from_residual.ensures.1
    (c.fields.invariant
    ∙ item_broken (field_checks c.args.bytes.now) fields_in_order c.fields.field-index _ broken c.fields-test.true
    c.in_err-check.ensures)

pub returns : goal.returns
returns c =
    let none = drop_of_length-le fields_in_order c.fields-test.false in
    c.fields.invariant ∙ ap (λ rest. first_broken (flat_map (field_checks c.args.bytes.now) rest)) none
