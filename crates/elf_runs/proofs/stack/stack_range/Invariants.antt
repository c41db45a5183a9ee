use Rattle.std.proofs.Common.{◌≡◌, ◌++◌, ◌-◌, ◌*◌, length, map, replicate, take, w32}
use Rattle.std.specs.Int.{to_le_bytes}
use Rattle.std.specs.List.{flat_map}
use Rattle.elf_memory.specs.Arguments.{rounded}
use Rattle.elf_runs.proofs.stack.stack_range.Given as goal

abbrev pub invariant-words : goal.invariant-words
invariant-words l =
    let below = l.size - rounded (4 * length l.words) in
    let done = take l.word-index l.words in
    record {
      value :
          l.bytes.items ≡ replicate below 0 ++ flat_map (to_le_bytes w32) (map (λ word. word.value) done);
      mask :
          l.unknown.items ≡ replicate below 255 ++ flat_map (to_le_bytes w32) (map (λ word. word.unknown) done);
    }
