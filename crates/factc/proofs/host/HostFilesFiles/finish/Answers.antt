use Rattle.std.proofs.Common.{None, ap, arith}
use Rattle.commands.specs.Contents.{Store}
use Rattle.commands.proofs.StreamCounts.{kept_times}
use Rattle.factc.proofs.host.HostFilesFiles.finish.Goals as goal

pub returns-clause-counts : goal.returns-clause-counts
returns-clause-counts g c =
    ap (λ (s : Store). s.failures)
    (kept_times (λ path. None) c.args.self.now.failures c.args.sink.failures c.saturating_add-self.result
    (omega arith) c.saturating_add-self.ensures)
