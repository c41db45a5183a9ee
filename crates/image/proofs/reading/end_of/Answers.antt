use Rattle.std.proofs.Common.{◌∙◌}
use Rattle.image.proofs.SlotEnds.{slots_end_at_last}
use Rattle.image.proofs.reading.end_of.Goals as goal

pub returns-in-len1-up : goal.returns-in-len1-up
returns-in-len1-up c = c.end.ensures ∙ slots_end_at_last 0 _ c.args.slots.now c.in-len1-up.len_at_least
