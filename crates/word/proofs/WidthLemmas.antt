-- How many bits there can be.
use Rattle.std.proofs.Common.{◌<◌, ◌≤◌, arith}
use Rattle.word.specs.declared.width.Width.{Width}
use Rattle.word.specs.declared.width.Width.TheVariants.{W8, W16, W32}
use Rattle.word.specs.Widths.{bits}

pub bits-positive : (w : Width) → 0 < bits w
bits-positive W8 = omega arith
bits-positive W16 = omega arith
bits-positive W32 = omega arith

pub bits-at_most : (w : Width) → bits w ≤ 32
bits-at_most W8 = omega arith
bits-at_most W16 = omega arith
bits-at_most W32 = omega arith
