use Rattle.std.proofs.Common.{ap, subst}
use Rattle.std.proofs.lemmas.Result.{err_from_is_err_and, IfOk-weaker, IfErr-weaker}
use Rattle.hepurita.specs.Below.{Profile, program_tree, ProgramTree}
use Rattle.hepurita.proofs.BuiltLemmas.{IsAllowedFlat, IsLargeFor, refusal_of_types, refusal_of_export, small_flat}
use Rattle.hepurita.proofs.TellingLemmas.{IsToldOfSize, told_of_size}
use Rattle.hepurita.specs.Told.{of_types}
use Rattle.hepurita.proofs.judging.flat_of.Goals as goal

pub returns-in_err-checked-clause-refused : goal.returns-in_err-checked-clause-refused
returns-in_err-checked-clause-refused c =
    let p = err_from_is_err_and c.from_residual.result c.from_residual.ensures.1 in
    rw (p.1, p.2) (refusal_of_types c.args.profile (program_tree c.args.program.now) c.in_err-checked.field-0.0
    c.in_err-checked.ensures.refused)

pub returns-clause-accepted : goal.returns-clause-accepted
returns-clause-accepted c =
    let same = ap program_tree c.in_ok-checked.ensures.program in
    IfOk-weaker c.inline.result _ _
    (λ flat h. small_flat c.args.profile (program_tree c.args.program.now) flat
    c.in_ok-checked.ensures.well_typed
    (subst (λ (o : Profile). IsAllowedFlat o (program_tree c.args.program.now) flat) c.in_ok-checked.ensures.profile
    (subst (λ (q : ProgramTree). IsAllowedFlat c.in_ok-checked.checked.profile q flat) same h)))
    c.inline.ensures.accepted

pub returns-clause-refused : goal.returns-clause-refused
returns-clause-refused c =
    let same = ap program_tree c.in_ok-checked.ensures.program in
    IfErr-weaker c.inline.result _ _ (λ refusal h.
    refusal_of_export c.args.profile (program_tree c.args.program.now) refusal
    c.in_ok-checked.ensures.well_typed
    (subst (λ (q : ProgramTree). IsLargeFor c.args.profile q refusal) same h)) c.inline.ensures.refused

pub returns-in_err-checked-clause-told : goal.returns-in_err-checked-clause-told
returns-in_err-checked-clause-told c =
    let p = err_from_is_err_and c.from_residual.result c.from_residual.ensures.1 in
    rw (p.1, p.2) (of_types c.in_err-checked.ensures.told)

pub returns-clause-told : goal.returns-clause-told
returns-clause-told c =
    let same = ap program_tree c.in_ok-checked.ensures.program in
    IfErr-weaker c.inline.result _ _ (λ refusal h.
    told_of_size c.args.profile (program_tree c.args.program.now) refusal
    c.in_ok-checked.ensures.well_typed
    (subst (λ (q : ProgramTree). IsToldOfSize c.args.profile q refusal) same h)) c.inline.ensures.told
