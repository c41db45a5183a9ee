use Rattle.std.proofs.Common.{ℕ, ◌+◌, ◌-◌, ◌^◌, Some, None, if◌then◌else◌, min, ap, ◌∙◌, arith}
use Rattle.std.specs.Str.{bytes_eq}
use Rattle.std.specs.String.{string_bytes}
use Rattle.commands.proofs.StreamCounts.{kept_times}
use Rattle.examples.proofs.one_file.OneFileFiles.close.Goals as goal

pub returns : goal.returns
returns c =
    kept_times
    (λ path. if bytes_eq path (string_bytes c.args.self.now.path) then Some c.args.self.now.file.bytes else None)
    c.args.self.now.failures c.args.source.inner.failures c.saturating_add-self.result (omega arith)
    (c.saturating_add-self.ensures ∙ ap (λ (n : ℕ). min (c.args.self.now.failures + n) (2 ^ 64 - 1)) c.failures.ensures)
