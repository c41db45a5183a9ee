use Rattle.std.proofs.Common.{map, refl, ap, ◌∙◌}
use Rattle.inline.proofs.MeasureLemmas.{measured_alike}
use Rattle.inline.proofs.TableLemmas.{one_told}
use Rattle.inline.specs.declared.measured.Measured.{Measured}
use Rattle.inline.specs.Counts.{counted_extent}
use Rattle.inline.specs.Measured.{extent_of_measured, extents_in}
use Rattle.inline.specs.Below.{counted, extent_of, extents_of, nothing_known, parameter_tree, passed_words}
use Rattle.inline.specs.Below.{procedure_tree}
use Rattle.language.specs.names.Scope.{declared}
use Rattle.inline.proofs.sizes.measure_all.Goals as goal

pub loop-procedure-init : goal.loop-procedure-init
loop-procedure-init c = (nothing_known, (λ text. ap (λ table. extents_in table text) c.requires), refl)

pub loop-procedure-preserved : goal.loop-procedure-preserved
loop-procedure-preserved c =
    let measured : Measured = record { parameters = c.as_slice-parameters.result; size = c.size_of-size.result } in
    let taken = c.passed_words.ensures ∙ ap (λ ps. counted (passed_words (map parameter_tree ps)))
    c.as_slice-parameters.ensures.value in
    one_told extent_of_measured counted_extent extent_of c.args.procedures.now
    c.loop-procedure.procedure-index c.procedure-item.result c.loop-procedure.table c.declare.new.self measured
    (extents_of (map procedure_tree c.args.procedures.now)) c.loop-procedure-test.true c.procedure-item.is
    c.loop-procedure.invariant
    (λ known same. measured_alike known c.loop-procedure.table c.procedure-item.result measured
    c.passed_words.result same c.as_slice-parameters.ensures.value taken c.size_of-size.ensures)
    (c.in_ok-_taken.ensures.ok ∙ ap (λ text. declared c.loop-procedure.table text measured) c.as_str.ensures)
