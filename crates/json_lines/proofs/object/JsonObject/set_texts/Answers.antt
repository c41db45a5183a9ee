use Rattle.std.proofs.Common.{map, take}
use Rattle.json_lines.proofs.ObjectLemmas.{texts_without_float}
use Rattle.json_lines.proofs.object.JsonObject.set_texts.Goals as goal

pub set-requires : goal.set-requires
set-requires c =
    rw c.from.ensures (rw c.loop-text.invariant
    (texts_without_float (map (λ text. text.now) (take c.loop-text.text-index c.args.texts.now))))
