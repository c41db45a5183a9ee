use Rattle.std.proofs.Common.{refl}
use Rattle.commands.proofs.elf_witnessing.witness_text.Goals as goal

pub returns : goal.returns
returns c = record {
  line = c.in_ok-line.line.items;
  shown = c.in_ok-line.ensures;
  whole =
      simp (
        c.in_ok-push_settings-2.ensures,
        c.as_slice-4.ensures.value,
        c.in_ok-push_settings.ensures,
        c.as_slice-3.ensures.value,
        c.in_ok-push_place.ensures,
        c.as_slice-2.ensures.value,
        c.in_ok-extend_from_slice.ensures.items,
        c.as_slice.ensures.value,
        c.in_ok-text.ensures,
      ) refl;
}
