-- One byte.
use Rattle.std.proofs.Common.{refl, sym, ◌∙◌}
use Rattle.rv_machine.specs.Paged.{paged_bytes}
use Rattle.rv_machine.proofs.Pages as pages
use Rattle.rv_machine.proofs.paged.PagedMemory.byte.Goals as goal

pub returns-in-Some-clause-number : goal.returns-in-Some-clause-number
returns-in-Some-clause-number c =
    let page = c.in-Some.ensures.page in
    c.load.ensures.number ∙ pages.number_at-read c.args.self.now.pages.items c.in-Some.index page.0 1 c.args.a page.1
    c.in-Some.ensures.first page.2 c.index-page.result.now c.index-page.ensures

pub returns-in-None-clause-number : goal.returns-in-None-clause-number
returns-in-None-clause-number c =
    sym (pages.number_at-one (paged_bytes c.args.self.now) c.args.a ∙ c.in-None.ensures.none refl refl)
