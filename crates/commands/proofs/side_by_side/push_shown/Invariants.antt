-- The lines so far, and those of the steps that are left, are all.
use Rattle.std.proofs.Common.{◌≡◌, ◌++◌, drop}
use Rattle.commands.specs.HartsText.{shown_text}
use Rattle.commands.proofs.side_by_side.push_shown.Given as goal

abbrev pub invariant-loop-step : goal.invariant-loop-step
invariant-loop-step l = l.text.items ++ shown_text (drop l.step-index l.seen) ≡ l.fn.text.items ++ shown_text l.seen
