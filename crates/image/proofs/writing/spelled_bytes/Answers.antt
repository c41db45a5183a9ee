use Rattle.std.proofs.Common.{◌≡◌, ◌≤◌, ◌∙◌, length, rules, ap, subst, sym}
use Rattle.image.specs.Limits.{longest_image}
use Rattle.image.specs.Reading.{AreBytes, reading}
use Rattle.image.specs.private.Spelling.{spelling}
use Rattle.image.proofs.Lengths.{short}
use Rattle.image.proofs.Spellings.{reading_again, spelling_bytes}
use Rattle.image.proofs.writing.spelled_bytes.Goals as goal

pub returns-clause-spelled : goal.returns-clause-spelled
returns-clause-spelled c =
    let is : c.put_fields.new.out.items ≡ spelling c.args.fields.now = search rules in
    ap reading is ∙ reading_again c.args.fields.now c.slots.ensures.allowed

pub returns-clause-short : goal.returns-clause-short
returns-clause-short c =
    let is : c.put_fields.new.out.items ≡ spelling c.args.fields.now = search rules in
    subst (λ bytes. length bytes ≤ longest_image) (sym is) (short c.args.fields.now c.slots.ensures.allowed)

pub returns-clause-bytes : goal.returns-clause-bytes
returns-clause-bytes c =
    let is : c.put_fields.new.out.items ≡ spelling c.args.fields.now = search rules in
    subst AreBytes (sym is) (spelling_bytes c.args.fields.now c.slots.ensures.allowed)
