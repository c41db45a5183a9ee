use Rattle.std.proofs.Common.{List, ℕ, arith, ◌∙◌}
use Rattle.std.proofs.lemmas.Grind.{common_steps}
use Rattle.streams.proofs.Pieces.{taken-more}
use Rattle.streams.proofs.sink.put_all.Goals as goal

pub loop-put-preserved : goal.loop-put-preserved
loop-put-preserved g c =
    let bytes : List ℕ = c.args.bytes.now in (
      grind (arith, common_steps, c.in_ok-put.ensures.within (grind (arith, common_steps))),
      λ tells.
          taken-more bytes (g.S.Sink.taken c.args.sink.now) (g.S.Sink.taken c.loop-put.sink)
          (g.S.Sink.taken c.put.new.self) c.loop-put.put c.in_ok-put.field-0
          (c.loop-put.invariant.1 tells)
          (c.in_ok-put.ensures.takes tells (grind (arith, common_steps))),
      c.in_ok-put.ensures.calm ∙ c.loop-put.invariant.2,
    )
