-- The ranges have their pages.
use Rattle.std.proofs.Common.{ap, ◌∙◌}
use Rattle.std.proofs.Math.Path.{fun_ext}
use Rattle.std.proofs.lemmas.List.{take_all}
use Rattle.rv_machine.specs.Paged.{zeros_in}
use Rattle.rv_machine.proofs.paged.PagedMemory.new.Goals as goal

pub returns : goal.returns
returns c =
    let ranges = c.args.ranges.now in
    let all = take_all c.loop-range.range-index ranges c.loop-range-test.false in
    fun_ext (λ a. c.in_ok-add_first.ensures.bytes a ∙ c.loop-range.invariant a ∙ ap (λ rs. zeros_in rs a) all)
