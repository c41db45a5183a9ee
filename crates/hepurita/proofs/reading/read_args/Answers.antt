use Rattle.std.proofs.Common.{◌≡◌, Err, ap}
use Rattle.language.specs.declared.arguments.texts.ReadError.TheVariants as errors
use Rattle.hepurita.proofs.FaultLemmas.{same_fault, no_fault}
use Rattle.hepurita.proofs.reading.read_args.Goals as goal

pub returns-in-Err-Argument-clause-fault : goal.returns-in-Err-Argument-clause-fault
returns-in-Err-Argument-clause-fault c =
    let was : c.read.result ≡ Err (errors.Argument c.in-Err-Argument.fault) = cc in
    λ fault. same_fault c.in-Err-Argument.fault fault _ c.read.result _ was (ap Err c.from.ensures)
    (c.read.ensures.fault fault)

pub returns-in-Err-Memory-clause-fault : goal.returns-in-Err-Memory-clause-fault
returns-in-Err-Memory-clause-fault c =
    let was : c.read.result ≡ Err errors.Memory = cc in
    λ fault. no_fault fault _ c.read.result _ was (λ h. cc) (c.read.ensures.fault fault)
