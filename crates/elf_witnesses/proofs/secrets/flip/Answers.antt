-- One byte more is flipped.
use Rattle.std.proofs.Common.{slice_index_or, w8, arith}
use Rattle.std.specs.Int.{bit_not}
use Rattle.std.proofs.lemmas.List.{get_or_default}
use Rattle.std.proofs.lemmas.List.Edits.{map_over_more}
use Rattle.elf_witnesses.proofs.secrets.flip.Goals as goal

pub bytes-preserved : goal.bytes-preserved
bytes-preserved c =
    map_over_more (bit_not w8) c.args.bytes.now c.bytes.bytes c.bytes.byte-index
    (slice_index_or c.bytes.bytes c.bytes.byte-index 0) (omega arith) c.bytes.invariant
    (get_or_default c.bytes.bytes c.bytes.byte-index 0 _ (omega arith))
