-- The first page has all bytes of the number.
use Rattle.std.specs.Prelude.{is_some}
use Rattle.std.proofs.Common.{refl, sym, ap, ◌∙◌}
use Rattle.rv_machine.specs.Sizes.{byte_count}
use Rattle.rv_machine.proofs.Pages.{first_at, number_at-page}
use Rattle.rv_machine.proofs.paged.PagedMemoryMemory.load.Goals as goal

pub returns-then-is_some-clause-number : goal.returns-then-is_some-clause-number
returns-then-is_some-clause-number c =
    let items = c.args.self.now.pages.items in
    let page = c.index-page.result.now in
    let at = first_at c.args.self.now page c.index-page.ensures in
    let whole = ap is_some (sym c.load-number.ensures.number) ∙ sym c.is_some.ensures ∙ c.if-is_some.true in
    c.load-number.ensures.number
    ∙ sym (number_at-page items 0 page (byte_count c.args.n) c.args.a at (λ x low high. refl) whole)
