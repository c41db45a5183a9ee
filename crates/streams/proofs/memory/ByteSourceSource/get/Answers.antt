use Rattle.std.proofs.Common.{◌-◌, length, List, ℕ, take, drop, arith, ◌∙◌, ap}
use Rattle.streams.proofs.Pieces.{handed-piece, take-rest}
use Rattle.std.proofs.lemmas.Grind.{common_steps}
use Rattle.streams.proofs.memory.ByteSourceSource.get.Goals as goal

pub returns-clause-hands_out : goal.returns-clause-hands_out
returns-clause-hands_out c =
    λ _.
    handed-piece c.self.inside.bytes.items c.args.self.now c.copy_from_slice.new.self _
    c.self.inside.read c.min-count.result c.self.view_is
    (c.copy_from_slice.ensures.after
    ∙ ap (take c.min-count.result)
    (ap (λ (l : List ℕ). take (length l - c.self.inside.read) (drop c.self.inside.read l)) c.deref.ensures.value
    ∙ take-rest c.self.inside.bytes.items c.self.inside.read ∙ c.self.view_is))
    (grind (arith, common_steps))
