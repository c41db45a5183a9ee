use Rattle.std.proofs.Common.{◌≡◌, ◌++◌, ◌∙◌, Global, List, ℕ, Option, Vec, ap, append_assoc, codes, sym}
use Rattle.std.specs.String.{string_bytes}
use Rattle.rv_code.specs.FieldText.{reg_text}
use Rattle.elf_reports.specs.Explained.{argument_text}
use Rattle.elf_reports.proofs.origin_lines.start_line.Goals as goal

pub returns : goal.returns
returns c =
    let register = reg_text c.args.register in
    let since = codes " unknown since the start: " in
    let first = reg_text c.args.first in
    let said : string_bytes c.in_ok-text.text ≡ register ++ (since ++ first) = c.in_ok-text.ensures.ok in
    ap (λ (bytes : Vec ℕ Global). bytes.items) c.into_bytes.ensures.value
    ∙ c.in_ok-push_str.ensures.bytes
    ∙ ap (λ (text : List ℕ). text ++ codes "\n")
    (c.in_ok-push_argument.ensures
    ∙ ap (λ (text : List ℕ). text ++ argument_text c.argument_in.result) (said ∙ sym (append_assoc register since first))
    ∙ ap (λ (index : Option ℕ). register ++ since ++ first ++ argument_text index) c.argument_in.ensures)
