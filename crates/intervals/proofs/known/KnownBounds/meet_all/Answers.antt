use Rattle.std.proofs.Common.{◌+◌, rules, drop, ap, sym, ◌∙◌}
use Rattle.intervals.specs.Narrowing.{met_all}
use Rattle.intervals.proofs.UndoingLemmas.{from_before}
use Rattle.intervals.proofs.WalkLemmas.{next_said}
use Rattle.intervals.proofs.known.KnownBounds.meet_all.Goals as goal

pub loop-said-preserved : goal.loop-said-preserved
loop-said-preserved c = record {
  bounds = ap (λ bounds. met_all bounds (drop (c.loop-said.said-index + 1) c.args.told.now))
      c.in_ok-meet.ensures.bounds
      ∙ (sym (next_said c.loop-said.self.bounds.items c.args.told.now c.loop-said.said-index _ (search rules))
      ∙ c.loop-said.invariant.bounds);
  from = from_before c.args.self.now c.loop-said.self c.meet.new.self c.loop-said.invariant.from
      c.in_ok-meet.ensures.from;
}
