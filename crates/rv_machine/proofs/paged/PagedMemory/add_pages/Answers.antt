-- One page more.
use Rattle.std.proofs.Common.{[], ◌∷◌, sym, ap, ◌∙◌, arith}
use Rattle.rv_machine.specs.Bytes.{ByteMap, zeros}
use Rattle.rv_machine.specs.Flat.{flat_bytes}
use Rattle.rv_machine.specs.Paged.{zeros_in, first_of, bytes_in}
use Rattle.rv_machine.proofs.Pages.{first_of-assoc, bytes_in-append, zeros_in-grown}
use Rattle.rv_machine.proofs.paged.PagedMemory.add_pages.Goals as goal

pub pages-preserved : goal.pages-preserved
pages-preserved c =
    let low = c.args.range.begin in
    let from = c.pages.begin in
    let n = c.min-bytes.result in
    let page = c.in_ok-new.field-0 in
    record {
      bytes = λ a.
          let old = bytes_in c.args.pages.now.items a in
          let so_far = zeros_in (record { begin = low; end = from } ∷ []) a in
          ap (λ ps. bytes_in ps a) c.in_ok-push.ensures.items
          ∙ bytes_in-append c.pages.pages.items page a
          ∙ ap (λ o. first_of o (flat_bytes page a)) (c.pages.invariant.bytes a)
          ∙ ap (λ (m : ByteMap). first_of (first_of old so_far) (m a)) c.in_ok-new.ensures
          ∙ sym (first_of-assoc old so_far (zeros from n a))
          ∙ ap (first_of old) (zeros_in-grown low from n a c.pages.invariant.from);
      from = omega arith;
      to = omega arith;
    }
