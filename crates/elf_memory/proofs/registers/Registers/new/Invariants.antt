use Rattle.std.proofs.Common.{◌≡◌, ◌<◌, ℕ, length, slice_index}
use Rattle.elf_memory.specs.Begin.{register_by}
use Rattle.elf_memory.proofs.registers.Registers.new.Given as goal

abbrev pub invariant-registers : goal.invariant-registers
invariant-registers l =
    record {
      value : (j : ℕ) → j < l.r → slice_index l.values j ≡ (register_by l.global_pointer l.words j).value;
      mask : (j : ℕ) → j < l.r → slice_index l.unknown j ≡ (register_by l.global_pointer l.words j).unknown;
      values : length l.values ≡ 32;
      masks : length l.unknown ≡ 32;
    }
