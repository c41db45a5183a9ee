use Rattle.std.proofs.Common.{append_assoc, refl}
use Rattle.std.specs.String.{string_bytes}
use Rattle.elf_reports.proofs.encoding_lines.halfword_line.Goals as goal

pub returns : goal.returns
returns c = (
  string_bytes c.in_ok-text.text,
  c.in_ok-text.ensures,
  simp (
    c.in_ok-extend_from_slice-6.ensures.items,
    c.in_ok-extend_from_slice-5.ensures.items,
    c.as_bytes.ensures.value,
    c.in_ok-extend_from_slice-4.ensures.items,
    c.in_ok-extend_from_slice-3.ensures.items,
    c.as_slice-2.ensures,
    c.four_digits.ensures,
    c.in_ok-extend_from_slice-2.ensures.items,
    c.in_ok-extend_from_slice.ensures.items,
    c.as_slice.ensures,
    c.eight_digits.ensures,
    c.new-line.ensures.items,
    append_assoc,
  ) refl,
)
