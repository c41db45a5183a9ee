use Rattle.std.proofs.Common.{◌↔◌}
use Rattle.std.specs.String.{string_bytes}
use Rattle.image_reports.proofs.vectors_lemmas.SpellLemmas.{SpellFrom}
use Rattle.image_reports.proofs.vectors.wanted.spell.Given as goal

-- the texts so far spell the lists so far: all do where those that are left do
abbrev pub invariant-loop-index : goal.invariant-loop-index
invariant-loop-index l = SpellFrom string_bytes l.texts l.lists 0 ↔ SpellFrom string_bytes l.texts l.lists l.index
