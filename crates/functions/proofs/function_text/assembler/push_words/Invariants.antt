use Rattle.std.proofs.Common.{◌≡◌, take}
use Rattle.std.specs.String.{string_bytes}
use Rattle.functions.specs.function_text.AssemblerText.{behind, ListsWords}
use Rattle.functions.proofs.function_text.assembler.push_words.Given as goal

-- the words so far are listed
abbrev pub invariant-loop-word : goal.invariant-loop-word
invariant-loop-word l =
    ListsWords l.fn.notation l.fn.function.name l.fn.start (take l.word-index l.words) (string_bytes l.lines)
    × (l.at ≡ behind l.fn.start (take l.word-index l.words))
