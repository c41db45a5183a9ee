use Rattle.elf_runs.proofs.Promises.{all_begin, all_shift, all_show}
use Rattle.elf_runs.proofs.laws.certificates_of_functions_hold.Goals as goal

pub returns-clause-same : goal.returns-clause-same
returns-clause-same c = all_show

pub returns-clause-amounts : goal.returns-clause-amounts
returns-clause-amounts c = all_shift

pub returns-clause-may_differ : goal.returns-clause-may_differ
returns-clause-may_differ c = all_begin
