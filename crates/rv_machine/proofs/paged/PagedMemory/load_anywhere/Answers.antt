-- The number of one page.
use Rattle.std.proofs.Common.{◌∙◌}
use Rattle.rv_machine.specs.Sizes.{byte_count}
use Rattle.rv_machine.proofs.Pages.{number_at-read}
use Rattle.rv_machine.proofs.paged.PagedMemory.load_anywhere.Goals as goal

pub returns-in-Some-clause-number : goal.returns-in-Some-clause-number
returns-in-Some-clause-number c =
    let page = c.in-Some.ensures.page in
    c.load.ensures.number ∙ number_at-read c.args.self.now.pages.items c.in-Some.index page.0 (byte_count c.args.n)
    c.args.a page.1 c.in-Some.ensures.first page.2 c.index-page.result.now c.index-page.ensures
