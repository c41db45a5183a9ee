use Rattle.std.proofs.Common.{◌≡◌, map, take}
use Rattle.std.specs.String.{string_bytes}
use Rattle.input_files.proofs.harts_file.jobs.kept_texts.Given as goal

-- those so far are kept
abbrev pub invariant-texts : goal.invariant-texts
invariant-texts l = map string_bytes l.kept.items ≡ map (λ text. text.now) (take l.text-index l.texts)
