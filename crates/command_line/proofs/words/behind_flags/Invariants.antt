use Rattle.std.proofs.Common.{◌≡◌, map, length}
use Rattle.command_line.specs.Words.{behind_flags}
use Rattle.command_line.proofs.words.behind_flags.Given as goal

abbrev pub invariant-loop-rest : goal.invariant-loop-rest
invariant-loop-rest l = behind_flags (map (λ word. word.now) l.rest) ≡ behind_flags (map (λ word. word.now) l.words)

abbrev pub decreases-loop-rest : goal.decreases-loop-rest
decreases-loop-rest l = length l.rest
