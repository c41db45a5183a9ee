use Rattle.std.proofs.Common.{◌≡◌, ◌++◌, ◌∙◌, List, ℕ, ap, codes}
use Rattle.elf_reports.proofs.origin_lines.load_line.Goals as goal

pub returns : goal.returns
returns c =
    let found = c.in_ok-line.ensures in
    let line = c.in_ok-line.line.items in (
      found.0,
      line,
      found.1,
      found.2,
      c.in_ok-extend_from_slice-2.ensures.items
          ∙ ap (λ (shown : List ℕ). c.extend_from_slice.new.self.items ++ shown) c.as_slice.ensures.value
          ∙ ap (λ (text : List ℕ). text ++ line)
          (c.in_ok-extend_from_slice.ensures.items ∙ ap (λ (text : List ℕ). text ++ codes ", by ") c.in_ok-text.ensures.items),
    )
