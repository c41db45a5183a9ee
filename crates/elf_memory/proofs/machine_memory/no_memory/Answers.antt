use Rattle.std.proofs.Common.{◌≡◌, ℕ, [], None, ap}
use Rattle.std.proofs.lemmas.Result.{IfOk-weaker}
use Rattle.rv_machine.specs.Paged.{zeros_in}
use Rattle.elf_memory.specs.Below.{ByteMap, paged_bytes}
use Rattle.elf_memory.proofs.machine_memory.no_memory.Goals as goal

pub returns : goal.returns
returns c =
    IfOk-weaker c.new.result (λ memory. paged_bytes memory ≡ zeros_in [])
    (λ memory. (a : ℕ) → paged_bytes memory a ≡ None) (λ memory is a. ap (λ (m : ByteMap). m a) is) c.new.ensures
