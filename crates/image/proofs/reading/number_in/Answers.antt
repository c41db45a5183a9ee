use Rattle.std.proofs.Common.{arith}
use Rattle.image.proofs.Bytes.{all_bytes, number_fits}
use Rattle.image.proofs.reading.number_in.Goals as goal

pub returns-clause-fits : goal.returns-clause-fits
returns-clause-fits c =
    let all = all_bytes c.args.bytes.now (λ i. omega (arith, c.type_inv.bytes i)) in
    rw c.read_uint.ensures (number_fits c.args.size c.args.bytes.now all)
