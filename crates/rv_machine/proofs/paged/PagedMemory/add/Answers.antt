-- One page more. A first page without a byte has served.
use Rattle.std.proofs.Common.{◌≡◌, ℕ, ◌<◌, List, ◌∷◌, [], ◌++◌, length, Some, refl, ap, ◌∙◌, arith}
use Rattle.std.specs.Prelude.{slice_get}
use Rattle.std.proofs.lemmas.Option.{slice_get_read}
use Rattle.rv_machine.specs.Bytes.{ByteMap}
use Rattle.rv_machine.specs.Flat.{flat_bytes}
use Rattle.rv_machine.specs.Paged.{bytes_in, first_of}
use Rattle.rv_machine.specs.declared.flat.FlatMemory.{FlatMemory}
use Rattle.rv_machine.proofs.Pages.{behind_empty, bytes_in-append}
use Rattle.rv_machine.proofs.paged.PagedMemory.add.Goals as goal

-- the new page is behind the others
behind : (before after : List FlatMemory) (page : FlatMemory) (loaded : ByteMap) (a : ℕ)
    → after ≡ before ++ page ∷ [] → flat_bytes page ≡ loaded
    → bytes_in after a ≡ first_of (bytes_in before a) (loaded a)
behind before after page loaded a is bytes =
    ap (λ ps. bytes_in ps a) is ∙ bytes_in-append before page a
    ∙ ap (λ (m : ByteMap). first_of (bytes_in before a) (m a)) bytes

pub returns-then-is_empty-clause-added : goal.returns-then-is_empty-clause-added
returns-then-is_empty-clause-added c = λ a.
    let after = c.push.new.self.items in
    let first = c.index.result.now in
    let some : 0 < length after = omega (arith, c.push.new.self.ok.0, c.in_ok-push.ensures.len) in
    let at : slice_get after 0 ≡ Some first = slice_get_read after _ _ first refl some c.index.ensures in
    ap (λ ps. bytes_in ps a) c.remove.ensures.by_index.2
    ∙ behind_empty after first a at (c.is_empty.ensures c.if-is_empty.true a)
    ∙ behind c.args.self.now.pages.items after c.in_ok-page.page _ a c.in_ok-push.ensures.items c.in_ok-page.ensures

pub returns-else-is_empty-clause-added : goal.returns-else-is_empty-clause-added
returns-else-is_empty-clause-added c = λ a.
    behind c.args.self.now.pages.items c.push.new.self.items c.in_ok-page.page _ a c.in_ok-push.ensures.items
    c.in_ok-page.ensures
