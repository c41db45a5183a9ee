use Rattle.std.proofs.Common.{refl}
use Rattle.labels.proofs.ExportLemmas.{found_over}
use Rattle.labels.proofs.checker.judged.Goals as goal

pub returns-clause-findings : goal.returns-clause-findings
returns-clause-findings c =
    let items = c.args.procedures.now in
    found_over c.args.profile items items refl c.args.before c.note_exports-export.new.findings
    c.note_procedures.new.findings c.note_exports-export.ensures.findings c.in_ok-note_procedures.ensures.findings
