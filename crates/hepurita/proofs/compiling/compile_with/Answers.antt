use Rattle.hepurita.proofs.compiling.compile_with.Goals as goal

pub returns-clause-compiled : goal.returns-clause-compiled
returns-clause-compiled c =
    let is = c.in_ok-flattened.ensures.accepted in
    (is.before, is.export, c.in_ok-code.ensures.compiled c.args.profile c.args.source.now is)

pub returns-clause-started : goal.returns-clause-started
returns-clause-started c =
    let is = c.in_ok-flattened.ensures.accepted in
    let code = c.in_ok-code.ensures in
    let begun = code.started c.args.profile c.args.source.now is in
    (is.before, is.export, code.compiled c.args.profile c.args.source.now is, begun.0, begun.1)
