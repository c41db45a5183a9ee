use Rattle.std.proofs.Common.{◌≡◌, ◌++◌, ◌∙◌, Global, List, ℕ, Vec, ap, append_assoc, codes, sym}
use Rattle.std.specs.Fmt.{decimal}
use Rattle.std.specs.String.{string_bytes}
use Rattle.rv_code.specs.FieldText.{reg_text}
use Rattle.elf_reports.specs.Explained.{load_address_text}
use Rattle.elf_reports.specs.Places.{read_text}
use Rattle.elf_reports.proofs.origin_lines.load_text.Goals as goal

pub returns : goal.returns
returns c =
    let register = reg_text c.args.register in
    let since = codes " unknown since entry " in
    let entry = decimal c.args.entry in
    let said : string_bytes c.in_ok-said.said ≡ register ++ (since ++ entry) = c.in_ok-said.ensures.ok in
    c.in_ok-push_read.ensures
    ∙ ap (λ (text : List ℕ). text ++ read_text c.args.program.now c.args.stack c.args.address)
    (ap (λ (bytes : Vec ℕ Global). bytes.items) c.into_bytes-text.ensures.value
    ∙ c.in_ok-push_load.ensures
    ∙ ap (λ (text : List ℕ). text ++ load_address_text c.args.address) (said ∙ sym (append_assoc register since entry)))
