-- The comparison that says how far it is is that of the image's two runs.
use Rattle.std.proofs.Common.{refl, sym, ◌∙◌, arith}
use Rattle.language.proofs.Handed.{err_is}
use Rattle.commands.proofs.ProgressLemmas.{on_err, told_of_pair}
use Rattle.hepurita.proofs.PairedLemmas.{memory_paired, refused_paired, observed_from}
use Rattle.commands.specs.Below.{code_of, compared, HasLines, paged_bytes, state_of}
use Rattle.commands.proofs.telling.pair_telling.Goals as goal

pub returns-in-Some-clause-paired : goal.returns-in-Some-clause-paired
returns-in-Some-clause-paired g c =
    refused_paired c.args.image.now c.args.one.now c.args.other.now c.in-Some.fault c.from.result c.from.ensures
    (sym c.fault_of_both.ensures.first ∙ c.in-Some.is)

pub returns-in_err-code-clause-paired : goal.returns-in_err-code-clause-paired
returns-in_err-code-clause-paired g c =
    memory_paired c.args.image.now c.args.one.now c.args.other.now _
    (sym c.fault_of_both.ensures.first ∙ c.in_default.is) (err_is _ c.from_residual.ensures.1)

pub returns-in_err-code-clause-untold : goal.returns-in_err-code-clause-untold
returns-in_err-code-clause-untold g c = on_err _ refl

pub load-requires : goal.load-requires
load-requires g c = (c.fault_of_both.ensures.within c.in_default.is).0

pub returns-in_err-one-clause-paired : goal.returns-in_err-one-clause-paired
returns-in_err-one-clause-paired g c =
    memory_paired c.args.image.now c.args.one.now c.args.other.now _
    (sym c.fault_of_both.ensures.first ∙ c.in_default.is) (err_is _ c.from_residual-in_err-one.ensures.1)

pub returns-in_err-one-clause-untold : goal.returns-in_err-one-clause-untold
returns-in_err-one-clause-untold g c = on_err _ refl

pub load-requires-2 : goal.load-requires-2
load-requires-2 g c = (c.fault_of_both.ensures.within c.in_default.is).1

pub returns-in_err-other-clause-paired : goal.returns-in_err-other-clause-paired
returns-in_err-other-clause-paired g c =
    memory_paired c.args.image.now c.args.one.now c.args.other.now _
    (sym c.fault_of_both.ensures.first ∙ c.in_default.is) (err_is _ c.from_residual-in_err-other.ensures.1)

pub returns-in_err-other-clause-untold : goal.returns-in_err-other-clause-untold
returns-in_err-other-clause-untold g c = on_err _ refl

pub compare_telling-requires-clause-few : goal.compare_telling-requires-clause-few
compare_telling-requires-clause-few g c =
    omega (arith, c.in_ok-one.ensures.steps, c.fault_of_both.ensures.allowed.steps)

pub compare_telling-requires-clause-equal : goal.compare_telling-requires-clause-equal
compare_telling-requires-clause-equal g c = c.in_ok-other.ensures.steps ∙ sym c.in_ok-one.ensures.steps

pub returns-clause-paired : goal.returns-clause-paired
returns-clause-paired g c =
    let image = c.args.image.now in
    let one = c.in_ok-one.one in
    let other = c.in_ok-other.other in
    let both = c.compare_telling.ensures.compared in
    compared (sym c.fault_of_both.ensures.first ∙ c.in_default.is)
    (observed_from image c.args.one.now (code_of c.in_ok-code.code) one.steps_left
    (state_of one.hart (paged_bytes one.memory)) both.0 c.in_ok-code.ensures c.in_ok-one.ensures.steps
    c.in_ok-one.ensures.state both.2)
    (observed_from image c.args.other.now (code_of c.in_ok-code.code) other.steps_left
    (state_of other.hart (paged_bytes other.memory)) both.1 c.in_ok-code.ensures c.in_ok-other.ensures.steps
    c.in_ok-other.ensures.state both.3)
    both.4

pub returns-clause-told : goal.returns-clause-told
returns-clause-told g c = λ tells.
    told_of_pair HasLines c.args.image.now c.args.one.now c.args.other.now c.in_ok-code.ensures
    c.in_ok-one.ensures.steps
    c.in_ok-one.ensures.state c.in_ok-other.ensures.state (c.compare_telling.ensures.told tells)
