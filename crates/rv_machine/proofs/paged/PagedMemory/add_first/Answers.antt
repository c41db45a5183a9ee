-- A page without a byte has no data behind the others.
use Rattle.std.proofs.Common.{ap, ◌∙◌}
use Rattle.rv_machine.specs.Bytes.{ByteMap}
use Rattle.rv_machine.specs.Paged.{first_of, bytes_in}
use Rattle.rv_machine.proofs.Pages.{bytes_in-append, nothing_more}
use Rattle.rv_machine.proofs.paged.PagedMemory.add_first.Goals as goal

pub returns-in_ok-push-clause-bytes : goal.returns-in_ok-push-clause-bytes
returns-in_ok-push-clause-bytes c =
    let made = c.args.pages.now.items in
    λ a. ap (λ ps. bytes_in ps a) c.in_ok-push.ensures.items
    ∙ bytes_in-append made c.in_ok-new.field-0 a
    ∙ ap (λ (m : ByteMap). first_of (bytes_in made a) (m a)) c.in_ok-new.ensures
    ∙ nothing_more (bytes_in made) a
