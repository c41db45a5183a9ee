use Rattle.std.proofs.Common.{arith}
use Rattle.image.proofs.Bytes.{all_bytes}
use Rattle.image.proofs.reading.read.Goals as goal

pub fields-requires : goal.fields-requires
fields-requires c = all_bytes c.args.bytes.now (λ i. omega (arith, c.type_inv.bytes i))
