-- The setting is of the secret's object, and of its size.
use Rattle.std.proofs.Common.{◌≡◌, length, refl, sym, ◌∙◌}
use Rattle.elf_witnesses.specs.Below.{object_named}
use Rattle.elf_memory.specs.Objects.{size_of}
use Rattle.elf_witnesses.proofs.secrets.first_setting.Goals as goal

pub returns-clause-alike : goal.returns-clause-alike
returns-clause-alike c =
    let named = c.in_ok-object.ensures.items ∙ c.deref.ensures.value in
    let sized : length c.in_ok-bytes.bytes.items
    ≡ size_of (object_named c.args.program.now c.args.secret.now.object.items) =
    c.in_ok-bytes.ensures.size ∙ c.size_of.ensures in
    rw (named, sized) refl

pub returns-clause-drawn : goal.returns-clause-drawn
returns-clause-drawn c = rw (sym c.size_of.ensures) c.in_ok-bytes.ensures.drawn
