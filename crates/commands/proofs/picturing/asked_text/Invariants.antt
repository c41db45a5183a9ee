-- The words so far, and those that are left, are all.
use Rattle.std.proofs.Common.{◌≡◌, ◌++◌, drop, codes, map}
use Rattle.std.specs.List.{flat_map}
use Rattle.std.specs.String.{string_bytes}
use Rattle.commands.specs.Pictures.{asked_text}
use Rattle.commands.proofs.picturing.asked_text.Given as goal

abbrev pub invariant-loop-word : goal.invariant-loop-word
invariant-loop-word l =
    string_bytes l.text ++ flat_map (λ word. codes " " ++ word) (map (λ word. word.now) (drop l.word-index l.arguments))
    ≡ asked_text l.path (map (λ word. word.now) l.arguments)
