use Rattle.std.proofs.Common.{ℕ, List, length, ap, arith}
use Rattle.expression_code.proofs.Places.{offsets_count, end_listed}
use Rattle.expression_code.proofs.layout.Layout.result.Goals as goal

pub bounds-self-inside-self-inside : goal.bounds-self-inside-self-inside
bounds-self-inside-self-inside c = omega (arith, ap (λ (l : List ℕ). length l) c.self.invariant.0, offsets_count)

pub returns-clause-place : goal.returns-clause-place
returns-clause-place c = grind (arith, end_listed, c.self.invariant.0, c.self.view_is)

pub returns-clause-room : goal.returns-clause-room
returns-clause-room c = grind (arith, c.self.view_is, c.self.invariant.1)
