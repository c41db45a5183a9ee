-- Words of which some bits are not known.
use Rattle.std.specs.Prelude.{ℕ, ◌-◌, ◌^◌}
use Rattle.elf_memory.specs.declared.words.Word.{Word}

-- a word all of whose bits are known
abbrev pub known : ℕ → Word
known n = record { value = n; unknown = 0 }

-- a word of which no bit is known. That it stands as 0 means nothing
abbrev pub anything : Word
anything = record { value = 0; unknown = 2 ^ 32 - 1 }
