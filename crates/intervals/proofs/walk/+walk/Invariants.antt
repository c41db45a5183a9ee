use Rattle.std.proofs.Common.{◌≡◌, drop, fold}
use Rattle.intervals.specs.Below.{flat_block, noted}
use Rattle.intervals.specs.Ranges.{bounds_after_all, counted_all}
use Rattle.intervals.specs.Undoing.{CameFrom}
use Rattle.intervals.specs.Ranges.{violations_all}
use Rattle.intervals.proofs.walk.+walk.Given as goal

-- what is left of the statements leads to the same as all of them
abbrev pub invariant-statements-loop-one : goal.invariant-statements-loop-one
invariant-statements-loop-one l =
    let rest = flat_block (drop l.one-index l.body) in
    let all = flat_block l.fn.body in
    record {
      bounds : bounds_after_all l.declared l.walk.known.bounds.items rest
          ≡ bounds_after_all l.fn.declared l.fn.walk.known.bounds.items all;
      from : CameFrom l.fn.walk.known l.walk.known;
      iterations : counted_all l.declared l.walk.known.bounds.items l.walk.iterations.items rest
          ≡ counted_all l.fn.declared l.fn.walk.known.bounds.items l.fn.walk.iterations.items all;
      findings : fold noted l.walk.findings (violations_all l.declared l.walk.known.bounds.items rest)
          ≡ fold noted l.fn.walk.findings (violations_all l.fn.declared l.fn.walk.known.bounds.items all);
      declared : l.declared ≡ l.fn.declared;
    }
