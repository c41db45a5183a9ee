-- A byte has room for a bit below the eighth.
use Rattle.std.proofs.Common.{ap, arith, bit_xor, slice_index, slice_set, ◌≡◌, ◌*◌, ◌%◌, ◌^◌}
use Rattle.std.proofs.Math.Pow.{pow-lt}
use Rattle.elf_witnesses.proofs.secrets.flip_bit.Goals as goal

pub returns : goal.returns
returns c =
    let bytes = c.args.bytes.now in
    let small = pow-lt c.requires.bit in
    let bit : 1 * 2 ^ c.args.bit % 256 ≡ 2 ^ c.args.bit = omega (arith, small) in
    ap (λ mask. slice_set bytes c.args.place (bit_xor (slice_index bytes c.args.place) mask)) bit
