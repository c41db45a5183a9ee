use Rattle.std.proofs.Common.{Ok, Err, sym, ◌∙◌}
use Rattle.image_reports.proofs.vectors_lemmas.GivenLemmas.{not_argument, not_stopped}
use Rattle.image_reports.proofs.vectors_lemmas.MeaningLemmas.{meant, only_memory, lists_short}
use Rattle.image_reports.proofs.vectors.running.outcome_of.Goals as goal

pub unreachable-requires : goal.unreachable-requires
unreachable-requires c =
    let program = c.requires.source.0 in
    let args = c.args.args.now in
    let fault = c.in-Err-Argument.field-0 in
    let outcome = meant c.images_do_what_sources_mean.ensures.outcome program c.args.image.now args _ _ _ (Err fault)
    c.requires.source.1 c.requires.within (c.in-Err-Argument.ensures.executed) in
    let calm = c.in-Err-Argument.ensures.ready tt in
    not_argument c.in-Err-Argument.field-0-0 c.in-Err-Argument.field-0-1 (sym c.in-Err-Argument.field-0-is
    ∙ only_memory program args fault outcome calm)

pub unreachable-requires-in-Err-Stopped : goal.unreachable-requires-in-Err-Stopped
unreachable-requires-in-Err-Stopped c =
    let program = c.requires.source.0 in
    let args = c.args.args.now in
    let fault = c.in-Err-Stopped.field-0 in
    let outcome = meant c.images_do_what_sources_mean.ensures.outcome program c.args.image.now args _ _ _ (Err fault)
    c.requires.source.1 c.requires.within (c.in-Err-Stopped.ensures.executed) in
    let calm = c.in-Err-Stopped.ensures.ready tt in
    not_stopped c.in-Err-Stopped.field-0-0 (sym c.in-Err-Stopped.field-0-is
    ∙ only_memory program args fault outcome calm)

pub returns-in_ok-lists_of-in-Ok-clause-means : goal.returns-in_ok-lists_of-in-Ok-clause-means
returns-in_ok-lists_of-in-Ok-clause-means c =
    λ program is. (
      c.in-Ok.outcome,
      meant c.images_do_what_sources_mean.ensures.outcome program c.args.image.now c.args.args.now _ _ _
          (Ok c.in-Ok.outcome) is c.requires.within (c.in-Ok.ensures.executed),
      c.in_ok-lists_of-in-Ok.ensures,
    )

pub returns-in_ok-lists_of-in-Ok-clause-short : goal.returns-in_ok-lists_of-in-Ok-clause-short
returns-in_ok-lists_of-in-Ok-clause-short c =
    let short = lists_short c.args.image.now c.args.args.now _ _ _ c.in-Ok.outcome
    c.requires.source.1.3.compilation.allowed (c.in-Ok.ensures.executed) in
    rw (c.in_ok-lists_of-in-Ok.ensures) short
