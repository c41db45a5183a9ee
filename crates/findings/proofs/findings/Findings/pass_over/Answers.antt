use Rattle.std.proofs.Common.{◌∙◌, refl}
use Rattle.findings.proofs.NotedLemmas.{untold}
use Rattle.findings.proofs.findings.Findings.pass_over.Goals as goal

pub returns : goal.returns
returns c why = c.note.ensures ∙ untold c.args.self.now _ _ refl refl c.requires
