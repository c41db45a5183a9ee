-- The secrets are drawn, and tried.
use Rattle.std.proofs.Common.{◌≡◌, ℕ, Err, IfOk, IfSome, List, map, None, Ok, Option, Result}
use Rattle.rand_core.specs.Stream.{Stream}
use Rattle.elf_witnesses.specs.Below.{Executable}
use Rattle.elf_memory.specs.declared.asked.Asked.{Asked}
use Rattle.elf_memory.specs.declared.asked.Setting.{Setting}
use Rattle.elf_runs.specs.declared.fault.StartFault.{StartFault}
use Rattle.elf_runs.specs.declared.options.RunOptions.{RunOptions}
use Rattle.elf_witnesses.specs.declared.witnessing.Witness.{Witness}
use Rattle.elf_witnesses.specs.Drawn.{first_secrets, numbers_of, other_secrets, size_in}
use Rattle.elf_witnesses.specs.Witnessed.{IsWitness, set_bytes, ShowsSame}
use Rattle.elf_witnesses.specs.private.ComparedRuns.{IsTried}
use Rattle.elf_witnesses.proofs.witnessing.witness_of_try.Goals as goal

tried : (program : Executable) (asked : Asked) (options : RunOptions) (attempt : ℕ) (numbers between next : Stream)
    (one other : List Setting) (result : Result (Option Witness) StartFault)
    → (map set_bytes one, between) ≡ first_secrets attempt (map (size_in program) asked.secrets.items) numbers
    → (map set_bytes other, next) ≡ other_secrets attempt (map set_bytes one) between
    → IfOk result (λ found. IfSome found (IsWitness program asked options))
    → IfOk result (λ found. IfSome found (λ witness. (witness.one.items ≡ one) × (witness.other.items ≡ other)))
    → IfOk result (λ found. found ≡ None → ShowsSame program asked options one other)
    → IfOk result (IsTried program asked options attempt numbers next)
tried program asked options attempt numbers between next one other (Ok found) drawn drawn' witness given same = record {
  one = one;
  other = other;
  between = between;
  drawn = drawn;
  drawn' = drawn';
  witness = witness;
  given = given;
  same = same;
}
tried program asked options attempt numbers between next one other (Err e) drawn drawn' witness given same = tt

pub returns-clause-tried : goal.returns-clause-tried
returns-clause-tried c =
    tried c.args.program.now c.args.asked.now c.args.options c.args.attempt (numbers_of c.args.random.now) _ _
    c.in_ok-one.one.items c.in_ok-other.other.items c.witness_by.result
    (rw c.deref.ensures.value at c.in_ok-one.ensures.drawn) (rw c.deref-2.ensures.value at c.in_ok-other.ensures.drawn)
    c.witness_by.ensures.witness c.witness_by.ensures.given c.witness_by.ensures.same
