use Rattle.std.proofs.Common.{None, arith}
use Rattle.commands.proofs.StreamCounts.{kept_times}
use Rattle.factc.proofs.host.HostFilesFiles.close.Goals as goal

pub returns : goal.returns
returns g c =
    kept_times (λ path. None) c.args.self.now.failures c.args.source.failures c.saturating_add-self.result
    (omega arith) c.saturating_add-self.ensures
