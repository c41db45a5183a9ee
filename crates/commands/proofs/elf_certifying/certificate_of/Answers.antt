use Rattle.commands.specs.Below.{collected}
use Rattle.commands.proofs.ProgressLemmas.{function_told}
use Rattle.commands.proofs.elf_certifying.certificate_of.Goals as goal

pub returns-then-options-clause-told : goal.returns-then-options-clause-told
returns-then-options-clause-told g c = λ tells.
    let err = c.certify_function_telling.new.err in
    function_told c.args.program.now c.args.asked.now
    (collected (g.E.Sink.taken c.args.err.now) (g.E.Sink.failures c.args.err.now))
    (collected (g.E.Sink.taken err) (g.E.Sink.failures err)) c.certify_function_telling.result _ _ c.if-options.true
    c.run_options-run.ensures.exact (c.certify_function_telling.ensures.told tells)
