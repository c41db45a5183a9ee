-- The bytes that were written are the number's.
use Rattle.std.proofs.Common.{◌+◌, ◌/◌, sym, ap, ◌∙◌, refl, arith}
use Rattle.std.proofs.lemmas.List.{with_items_is}
use Rattle.rv_machine.specs.Bytes.{with_number, bytes_from}
use Rattle.rv_machine.specs.Flat.{flat_bytes}
use Rattle.rv_machine.specs.Sizes.{byte_count}
use Rattle.rv_machine.proofs.SizedNumbers.{one_written, one_more_written}
use Rattle.rv_machine.proofs.flat.FlatMemory.put.Goals as goal

pub returns-in-Byte : goal.returns-in-Byte
returns-in-Byte c =
    let m = flat_bytes c.args.self.now in
    let base = c.args.self.now.base in
    let v = c.args.v in
    let start = c.args.start in
    let a = base + start in
    let slice = ap (bytes_from base) c.as_mut_slice-bytes.ensures.value in
    let kept = with_items_is c.args.self.now.bytes c.put_byte.new.bytes (c.put_byte.ensures.len
    ∙ c.as_mut_slice-bytes.ensures.len) in
    ap (bytes_from base) kept ∙ one_written m _ _ a _ v refl slice (c.put_byte.ensures.bytes base)
    ∙ ap (λ n. with_number m (byte_count n) a v) (sym c.in-Byte.is)

pub returns-in-Half : goal.returns-in-Half
returns-in-Half c =
    let m = flat_bytes c.args.self.now in
    let base = c.args.self.now.base in
    let v = c.args.v in
    let start = c.args.start in
    let a = base + start in
    let m1 = bytes_from base c.put_byte-in-Half.new.bytes in
    let slice = ap (bytes_from base) c.as_mut_slice-bytes.ensures.value in
    let high = one_written m _ m1 (a + 1) _ (v / 256) (omega arith) slice (c.put_byte-in-Half.ensures.bytes base) in
    let kept = with_items_is c.args.self.now.bytes c.put_byte-in-Half-2.new.bytes (c.put_byte-in-Half-2.ensures.len
    ∙ c.put_byte-in-Half.ensures.len ∙ c.as_mut_slice-bytes.ensures.len) in
    ap (bytes_from base) kept ∙ one_more_written m m1 (bytes_from base c.put_byte-in-Half-2.new.bytes) 1 a _ v refl
    high (c.put_byte-in-Half-2.ensures.bytes base)
    ∙ ap (λ n. with_number m (byte_count n) a v) (sym c.in-Half.is)

pub returns-in-Word : goal.returns-in-Word
returns-in-Word c =
    let m = flat_bytes c.args.self.now in
    let base = c.args.self.now.base in
    let v = c.args.v in
    let start = c.args.start in
    let a = base + start in
    let m1 = bytes_from base c.put_byte-in-Word.new.bytes in
    let m2 = bytes_from base c.put_byte-in-Word-2.new.bytes in
    let m3 = bytes_from base c.put_byte-in-Word-3.new.bytes in
    let slice = ap (bytes_from base) c.as_mut_slice-bytes.ensures.value in
    let fourth = one_written m _ m1 (a + 1 + 1 + 1) _ (v / 256 / 256 / 256) (omega arith) slice
    (c.put_byte-in-Word.ensures.bytes base) in
    let third = one_more_written m m1 m2 1 (a + 1 + 1) _ (v / 256 / 256) (omega arith) fourth
    (c.put_byte-in-Word-2.ensures.bytes base) in
    let second = one_more_written m m2 m3 2 (a + 1) _ (v / 256) (omega arith) third
    (c.put_byte-in-Word-3.ensures.bytes base) in
    let kept = with_items_is c.args.self.now.bytes c.put_byte-in-Word-4.new.bytes (c.put_byte-in-Word-4.ensures.len
    ∙ c.put_byte-in-Word-3.ensures.len ∙ c.put_byte-in-Word-2.ensures.len ∙ c.put_byte-in-Word.ensures.len
    ∙ c.as_mut_slice-bytes.ensures.len) in
    ap (bytes_from base) kept ∙ one_more_written m m3 (bytes_from base c.put_byte-in-Word-4.new.bytes) 3 a _ v refl
    second (c.put_byte-in-Word-4.ensures.bytes base)
    ∙ ap (λ n. with_number m (byte_count n) a v) (sym c.in-Word.is)
