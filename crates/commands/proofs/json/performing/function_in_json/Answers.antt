use Rattle.std.proofs.Common.{refl}
use Rattle.commands.specs.FunctionFiles.{not_accepted}
use Rattle.commands.specs.Judged.{no_sources}
use Rattle.commands.specs.Sources.{no_memory}
use Rattle.commands.specs.TwoFiles.{refused}
use Rattle.commands.specs.json.Performed.{answered_in_json}
use Rattle.commands.proofs.JsonLemmas.{counts_fault, counts_memory, gives_fault, gives_memory}
use Rattle.commands.proofs.json.performing.function_in_json.Goals as goal

pub returns-in_err-line-clause-gives : goal.returns-in_err-line-clause-gives
returns-in_err-line-clause-gives g c = λ files.
    gives_memory _ c.from_residual.ensures.1 (λ f memory. refused (not_accepted (no_sources (no_memory memory))) refl)

pub returns-in_err-line-clause-counted : goal.returns-in_err-line-clause-counted
returns-in_err-line-clause-counted g c =
    counts_memory {before = g.F.Files.store c.args.files.now} _ c.from_residual.ensures.1 refl

pub returns-in_err-write_function-clause-gives : goal.returns-in_err-write_function-clause-gives
returns-in_err-write_function-clause-gives g c = λ files.
    gives_fault _ _ c.from_residual-in_err-write_function.ensures.1 (c.in_err-write_function.ensures.refused files)

pub returns-in_err-write_function-clause-counted : goal.returns-in_err-write_function-clause-counted
returns-in_err-write_function-clause-counted g c =
    counts_fault _ _ _ c.from_residual-in_err-write_function.ensures.1 c.in_err-write_function.ensures.counted

pub returns-clause-gives : goal.returns-clause-gives
returns-clause-gives g c = λ files.
    answered_in_json (c.in_ok-line.ensures.text, c.in_ok-line.ensures.status)
    (c.in_ok-write_function.ensures.said files)

pub returns-clause-counted : goal.returns-clause-counted
returns-clause-counted g c = c.in_ok-write_function.ensures.calm
