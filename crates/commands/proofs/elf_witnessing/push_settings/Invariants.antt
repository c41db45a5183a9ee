use Rattle.std.proofs.Common.{◌≡◌, ◌++◌, drop}
use Rattle.commands.specs.FunctionWitnesses.{settings_words}
use Rattle.commands.proofs.elf_witnessing.push_settings.Given as goal

-- with what is left, the text is the whole but for the end of its line
abbrev pub invariant-settings : goal.invariant-settings
invariant-settings l =
    l.text.items ++ settings_words (drop l.setting-index l.settings)
    ≡ l.fn.text.items ++ l.name ++ settings_words l.settings
