use Rattle.std.proofs.lemmas.Result.{IfOk-weaker}
use Rattle.image_reports.proofs.vectors.trying.try_vectors.Goals as goal

pub returns-clause-report : goal.returns-clause-report
returns-clause-report c =
    let source = c.in_ok-image.ensures.image in
    IfOk-weaker c.try_all.result _ _ (λ report tally. record {
      program = source.0;
      image = c.in_ok-image.image;
      is_source = source.1;
      tally = tally;
    })
    (c.try_all.ensures.tally source.0 (c.args.optimisation, c.args.profile, c.args.source.now, source.1))
