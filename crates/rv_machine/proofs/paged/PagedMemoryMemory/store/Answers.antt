-- The first page has all bytes of the number, or it is as it was.
use Rattle.std.specs.Prelude.{is_some}
use Rattle.std.proofs.Common.{refl, sym, ap, ◌∙◌}
use Rattle.rv_machine.specs.Bytes.{ByteMap, number_at, with_number}
use Rattle.rv_machine.specs.Sizes.{byte_count}
use Rattle.rv_machine.proofs.Pages.{first_at, number_at-page, with_number-page, set-same}
use Rattle.rv_machine.proofs.paged.PagedMemoryMemory.store.Goals as goal

pub returns-then-store : goal.returns-then-store
returns-then-store c =
    let items = c.args.self.now.pages.items in
    let page = c.index_mut-page.result.now in
    let n = byte_count c.args.n in
    let at = first_at c.args.self.now page c.index_mut-page.ensures.value in
    let whole = sym c.store.ensures.answer ∙ c.if-store.true in
    record {
      answer = sym (ap is_some (number_at-page items 0 page n c.args.a at (λ x low high. refl) whole) ∙ whole);
      stored = λ _. with_number-page items 0 page c.store.new.self n c.args.a c.args.v at (λ x low high. refl)
          (c.store.ensures.stored c.if-store.true);
      unchanged = λ nowhere. cc;
    }

pub returns : goal.returns
returns c =
    let items = c.args.self.now.pages.items in
    let page = c.index_mut-page.result.now in
    let n = byte_count c.args.n in
    let at = first_at c.args.self.now page c.index_mut-page.ensures.value in
    let same = set-same items 0 page c.store.new.self at (c.store.ensures.unchanged c.if-store.false) in
    record {
      answer = c.store_anywhere.ensures.answer ∙ ap (λ (m : ByteMap). is_some (number_at m n c.args.a)) same;
      stored = λ there. c.store_anywhere.ensures.stored there
          ∙ ap (λ (m : ByteMap). with_number m n c.args.a c.args.v) same;
      unchanged = λ nowhere. c.store_anywhere.ensures.unchanged nowhere ∙ same;
    }
