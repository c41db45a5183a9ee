use Rattle.std.proofs.Common.{Some, [], ◌∷◌, arith, refl, rules}
use Rattle.std.proofs.lemmas.Grind.{common_steps}
use Rattle.std.proofs.lemmas.Option.{slice_get_read}
use Rattle.intervals.proofs.UndoingLemmas.{put_back}
use Rattle.intervals.proofs.known.KnownBounds.set.Goals as goal

pub returns-clause-from : goal.returns-clause-from
returns-clause-from c = record {
  changes = record { variable = c.args.variable; before = c.in-Some.before } ∷ [];
  kept = c.in_ok-push.ensures.items;
  rewound = put_back c.args.self.now.bounds.items c.args.variable (Some c.args.interval) c.in-Some.before
      (slice_get_read c.args.self.now.bounds.items _ c.args.variable c.in-Some.before refl (search rules)
      (grind (arith, common_steps)));
}
