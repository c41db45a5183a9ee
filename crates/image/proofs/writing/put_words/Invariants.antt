use Rattle.std.proofs.Common.{◌≡◌, ◌++◌, take}
use Rattle.std.specs.List.{flat_map}
use Rattle.image.specs.declared.field.Field.TheVariants as fields
use Rattle.image.specs.private.Spelling.{spelled}
use Rattle.image.proofs.writing.put_words.Given as goal

abbrev pub invariant-loop-word : goal.invariant-loop-word
invariant-loop-word l = l.out.items ≡ l.fn.out.items ++ flat_map (spelled fields.Word) (take l.word-index l.words)
