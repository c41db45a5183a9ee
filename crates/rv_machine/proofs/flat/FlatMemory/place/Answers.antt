-- Bytes are data exactly where all of them lie in the stretch.
use Rattle.std.proofs.Common.{◌≤◌, arith, sym, ap, is_some}
use Rattle.rv_machine.specs.Sizes.{byte_count}
use Rattle.rv_machine.proofs.Stretch.{some_bytes, number_outside, number_within}
use Rattle.rv_machine.proofs.flat.FlatMemory.place.Goals as goal

-- an address below the base is too far from it
from_base : (c : goal.Then-start-bytes) → c.args.self.now.base ≤ c.args.a
from_base c = omega (arith, some_bytes c.args.n)

pub returns-then-start-bytes-clause-found : goal.returns-then-start-bytes-clause-found
returns-then-start-bytes-clause-found c =
    let m = c.args.self.now in
    let from = from_base c in
    sym (number_within m.base m.bytes.items (byte_count c.args.n) c.args.a from
    (omega (arith, from)))

pub returns-then-start-bytes-clause-within : goal.returns-then-start-bytes-clause-within
returns-then-start-bytes-clause-within c =
    let m = c.args.self.now in
    let from = from_base c in
    (omega (arith, from), omega arith)

pub returns-else-start-bytes-clause-found : goal.returns-else-start-bytes-clause-found
returns-else-start-bytes-clause-found c =
    let m = c.args.self.now in
    sym
    (ap is_some (number_outside m.base m.bytes.items (byte_count c.args.n) c.args.a (some_bytes c.args.n)
    (λ within. omega (arith, within.0, within.1))))
