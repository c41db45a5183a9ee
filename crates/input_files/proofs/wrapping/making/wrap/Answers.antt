use Rattle.input_files.specs.Below.{program_tree}
use Rattle.input_files.proofs.wrapping_lemmas.WrapLaws.{limits_of}
use Rattle.input_files.proofs.wrapping.making.wrap.Goals as goal

pub fields_for-requires-clause-lengths : goal.fields_for-requires-clause-lengths
fields_for-requires-clause-lengths c =
    let judged = c.in_ok-accepted.ensures.accepted in
    let limits = limits_of c.args.asked.profile c.args.text.now (program_tree c.in_ok-accepted.accepted.program)
    judged.0 judged.1 judged.2 in
    rw (c.as_slice-params.ensures.value, judged.3) limits.lengths

pub fields_for-requires-clause-given : goal.fields_for-requires-clause-given
fields_for-requires-clause-given c =
    let judged = c.in_ok-accepted.ensures.accepted in
    let limits = limits_of c.args.asked.profile c.args.text.now (program_tree c.in_ok-accepted.accepted.program)
    judged.0 judged.1 judged.2 in
    rw (c.as_slice-params.ensures.value, judged.3) limits.given
