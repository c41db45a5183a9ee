use Rattle.std.proofs.lemmas.Result.{IfOk-weaker}
use Rattle.hepurita.proofs.OneImage.{ok_both}
use Rattle.hepurita.specs.Below.{program_tree}
use Rattle.hepurita.proofs.building.build_with.Goals as goal

pub returns-clause-accepted : goal.returns-clause-accepted
returns-clause-accepted c =
    let made = c.in_ok-compiled.ensures.compiled in
    IfOk-weaker c.write.result _ _ (λ bytes h. record {
      program = program_tree c.in_ok-compiled.compiled.program;
      before = made.0;
      export = made.1;
      image = c.in_ok-compiled.compiled.code;
      compilation = made.2;
      are_bytes = h.1;
      spelled = h.0;
    })
    (ok_both c.write.result _ _ c.write.ensures.spelled c.write.ensures.bytes)
