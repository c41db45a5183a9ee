use Rattle.std.proofs.Common.{ℕ, ap, arith, ◌∙◌}
use Rattle.std.proofs.lemmas.List.{length-set}
use Rattle.elf_memory.specs.Begin.{register_by}
use Rattle.elf_memory.proofs.Filling.{below_more}
use Rattle.elf_memory.proofs.registers.Registers.new.Goals as goal

pub registers-preserved : goal.registers-preserved
registers-preserved c =
    let f : ℕ → ℕ = λ j. (register_by c.args.global_pointer c.args.words.now j).value in
    let g : ℕ → ℕ = λ j. (register_by c.args.global_pointer c.args.words.now j).unknown in
    let old = c.registers.invariant in
    let r = c.registers.r in
    record {
      value =
          below_more c.registers.values f r c.register_by-word.result.value
          (omega (arith, old.values, c.registers-test.true)) old.value (ap (λ word. word.value) c.register_by-word.ensures);
      mask =
          below_more c.registers.unknown g r c.register_by-word.result.unknown
          (omega (arith, old.masks, c.registers-test.true)) old.mask (ap (λ word. word.unknown) c.register_by-word.ensures);
      values = length-set c.registers.values r c.register_by-word.result.value ∙ old.values;
      masks = length-set c.registers.unknown r c.register_by-word.result.unknown ∙ old.masks;
    }
