-- The number is the register's.
use Rattle.std.proofs.Common.{◌≡◌, ◌++◌, List, ℕ, ap, append_assoc, codes, sym, ◌∙◌}
use Rattle.std.specs.Fmt.{decimal}
use Rattle.std.specs.String.{string_bytes}
use Rattle.rv_code.specs.FieldText.{reg_text}
use Rattle.image_reports.proofs.certificate_explanations.lines.push_since.Goals as goal

pub returns : goal.returns
returns c =
    let before = string_bytes c.args.text.now in
    let register = reg_text c.args.register in
    let since = codes " unknown since entry " in
    let entry = decimal c.args.entry in
    let said : string_bytes c.write.new.self ≡ before ++ (register ++ (since ++ entry)) =
    rw c.number-number.ensures.value at c.in_ok-write.ensures.bytes in
    said ∙ ap (λ (rest : List ℕ). before ++ rest) (sym (append_assoc register since entry))
