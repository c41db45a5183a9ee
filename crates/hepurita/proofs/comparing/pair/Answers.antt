use Rattle.std.proofs.Common.{sym, ◌∙◌, arith}
use Rattle.std.proofs.lemmas.Result.{err_from_is_err_and}
use Rattle.hepurita.specs.Below.{code_of, paged_bytes, state_of}
use Rattle.hepurita.specs.Paired.{compared, out_of_memory, refused}
use Rattle.hepurita.proofs.PairedLemmas.{observed_from}
use Rattle.hepurita.proofs.comparing.pair.Goals as goal

pub returns-in-Some : goal.returns-in-Some
returns-in-Some c =
    rw c.from.ensures (refused (sym c.fault_of_both.ensures.first ∙ c.in-Some.is))

pub returns-in_err-code : goal.returns-in_err-code
returns-in_err-code c =
    let p = err_from_is_err_and c.from_residual.result c.from_residual.ensures.1 in
    rw (p.1, p.2) (out_of_memory (sym c.fault_of_both.ensures.first ∙ c.in_default.is))

pub load-requires : goal.load-requires
load-requires c = (c.fault_of_both.ensures.within c.in_default.is).0

pub returns-in_err-one : goal.returns-in_err-one
returns-in_err-one c =
    let p = err_from_is_err_and c.from_residual-in_err-one.result c.from_residual-in_err-one.ensures.1 in
    rw (p.1, p.2) (out_of_memory (sym c.fault_of_both.ensures.first ∙ c.in_default.is))

pub load-requires-2 : goal.load-requires-2
load-requires-2 c = (c.fault_of_both.ensures.within c.in_default.is).1

pub returns-in_err-other : goal.returns-in_err-other
returns-in_err-other c =
    let p = err_from_is_err_and c.from_residual-in_err-other.result c.from_residual-in_err-other.ensures.1 in
    rw (p.1, p.2) (out_of_memory (sym c.fault_of_both.ensures.first ∙ c.in_default.is))

pub compare-requires : goal.compare-requires
compare-requires c = omega (arith, c.in_ok-one.ensures.steps, c.fault_of_both.ensures.allowed.steps)

pub returns : goal.returns
returns c =
    let image = c.args.image.now in
    let one = c.in_ok-one.one in
    let other = c.in_ok-other.other in
    let both = c.compare.ensures.compared in
    compared (sym c.fault_of_both.ensures.first ∙ c.in_default.is)
    (observed_from image c.args.one.now (code_of c.in_ok-code.code) one.steps_left
    (state_of one.hart (paged_bytes one.memory)) both.0 c.in_ok-code.ensures c.in_ok-one.ensures.steps
    c.in_ok-one.ensures.state both.2)
    (observed_from image c.args.other.now (code_of c.in_ok-code.code) other.steps_left
    (state_of other.hart (paged_bytes other.memory)) both.1 c.in_ok-code.ensures c.in_ok-other.ensures.steps
    c.in_ok-other.ensures.state both.3)
    both.4
