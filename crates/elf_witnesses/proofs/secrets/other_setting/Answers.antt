-- The setting is of the same object and size, and its bytes are drawn by those of the first.
use Rattle.std.proofs.Common.{◌≡◌, length, refl, ap, ◌∙◌}
use Rattle.std.specs.Vec.{with_items}
use Rattle.std.proofs.lemmas.List.{with_items_is}
use Rattle.elf_witnesses.specs.Drawn.{numbers_of, other_bytes}
use Rattle.elf_witnesses.proofs.secrets.other_setting.Goals as goal

pub returns-clause-alike : goal.returns-clause-alike
returns-clause-alike c =
    let copy = c.in_ok-bytes.bytes in
    let bytes = c.change.new.bytes in
    let named = c.in_ok-object.ensures.items ∙ c.deref-2.ensures.value in
    let fits : length bytes ≡ copy.len = c.change.auto.bytes ∙ c.deref_mut.ensures.len in
    let sized : length (with_items copy bytes).items ≡ length c.args.first.now.bytes.items =
    ap length (with_items_is copy bytes fits) ∙ fits ∙ c.in_ok-bytes.ensures.len ∙ ap length c.deref.ensures.value in
    rw (named, sized) refl

pub returns-clause-drawn : goal.returns-clause-drawn
returns-clause-drawn c =
    let copy = c.in_ok-bytes.bytes in
    let bytes = c.change.new.bytes in
    let fits : length bytes ≡ copy.len = c.change.auto.bytes ∙ c.deref_mut.ensures.len in
    let copied : c.deref_mut.result.now ≡ c.args.first.now.bytes.items =
    c.deref_mut.ensures.value ∙ c.in_ok-bytes.ensures.items ∙ c.deref.ensures.value in
    ap (λ items. (items, numbers_of c.change.new.random)) (with_items_is copy bytes fits) ∙ c.change.ensures
    ∙ ap (λ items. other_bytes c.args.attempt items (numbers_of c.args.random.now)) copied
