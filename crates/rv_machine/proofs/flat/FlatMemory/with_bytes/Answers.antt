-- One byte more.
use Rattle.std.specs.Prelude.{is_some}
use Rattle.std.proofs.Common.{◌≡◌, ◌+◌, ◌<◌, take, true, sym, ap, ◌∙◌, add-one, arith}
use Rattle.rv_machine.proofs.Pages.{number_at-one}
use Rattle.rv_machine.specs.Bytes.{ByteMap, number_at, with_number}
use Rattle.rv_machine.specs.Flat.{loaded_bytes}
use Rattle.rv_machine.proofs.LoadedBytes.{loaded_inside, put_next}
use Rattle.rv_machine.proofs.flat.FlatMemory.with_bytes.Goals as goal

pub loop-k-preserved : goal.loop-k-preserved
loop-k-preserved c =
    let address = c.args.base in
    let size = c.args.size in
    let bytes = c.args.bytes.now in
    let k = c.loop-k.k in
    let so_far = loaded_bytes address size (take k bytes) in
    let within : k < size = omega (arith, c.loop-k-test.true, c.requires.fits) in
    let there : c.store.result ≡ true = c.store.ensures.answer
    ∙ ap (λ (m : ByteMap). is_some (number_at m 1 (address + k))) c.loop-k.invariant
    ∙ ap is_some (number_at-one so_far (address + k) ∙ loaded_inside address size (take k bytes) k within) in
    c.store.ensures.stored there
    ∙ ap (λ (m : ByteMap). with_number m 1 (address + k) c.from.result) c.loop-k.invariant
    ∙ put_next address size bytes k c.from.result within (omega (arith, c.from.ensures, c.type_inv.bytes k))
    c.from.ensures
    ∙ ap (λ n. loaded_bytes address size (take n bytes)) (sym (add-one k))
