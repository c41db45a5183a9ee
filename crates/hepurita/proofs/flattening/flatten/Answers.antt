use Rattle.std.proofs.lemmas.Result.{err_from_is_err_and}
use Rattle.hepurita.specs.Below.{program_tree}
use Rattle.hepurita.proofs.BuiltLemmas.{refusal_of_source, refusal_of_program}
use Rattle.hepurita.proofs.flattening.flatten.Goals as goal

pub returns-in_err-program-clause-refused : goal.returns-in_err-program-clause-refused
returns-in_err-program-clause-refused c =
    let p = err_from_is_err_and c.from_residual.result c.from_residual.ensures.1 in
    rw (p.1, p.2) (refusal_of_source c.args.profile c.args.source.now c.in_err-program.field-0.0
    c.in_err-program.ensures.refused)

pub returns-in_err-flat-clause-refused : goal.returns-in_err-flat-clause-refused
returns-in_err-flat-clause-refused c =
    let p = err_from_is_err_and c.from_residual-in_err-flat.result c.from_residual-in_err-flat.ensures.1 in
    rw (p.1, p.2) (refusal_of_program c.args.profile c.args.source.now (program_tree c.in_ok-program.program)
    c.in_err-flat.field-0.0 c.in_ok-program.ensures.accepted c.in_err-flat.ensures.refused c.in_err-flat.ensures.told)

pub returns-clause-accepted : goal.returns-clause-accepted
returns-clause-accepted c =
    let made = c.in_ok-flat.ensures.accepted in
    record {
      before = made.0;
      export = made.1;
      read = c.in_ok-program.ensures.accepted;
      small = made.2;
      body = made.3;
    }
