use Rattle.std.proofs.Common.{◌≡◌, ◌%◌, ◌^◌, ◌++◌, length, drop}
use Rattle.std.specs.String.{string_bytes}
use Rattle.functions.specs.Below.{code_of}
use Rattle.functions.specs.function_text.AssemblerText.{behind, sections_lines}
use Rattle.functions.specs.function_text.Functions.{parts_of}
use Rattle.functions.proofs.function_text.assembler.push_sections.Given as goal

abbrev pub invariant-loop-section : goal.invariant-loop-section
invariant-loop-section l = record {
  text : string_bytes l.text
      ++ sections_lines l.fn.notation l.fn.name (parts_of l.fn.function) l.fn.distance l.at (drop l.section-index l.sections)
      ≡ string_bytes l.fn.text
      ++ sections_lines l.fn.notation l.fn.name (parts_of l.fn.function) l.fn.distance l.fn.start l.fn.sections;
  at : behind l.at (code_of l.fn.function.image l.fn.function.pace l.fn.distance (drop l.section-index l.sections))
      ≡ behind l.fn.start (code_of l.fn.function.image l.fn.function.pace l.fn.distance l.fn.sections);
  left : l.left ≡ length (code_of l.fn.function.image l.fn.function.pace 0 (drop l.section-index l.sections)) % 2 ^ 32;
}
