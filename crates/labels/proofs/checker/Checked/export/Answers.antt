use Rattle.std.proofs.Common.{◌≡◌, get_or, sym}
use Rattle.labels.proofs.ExportLemmas.{export_read, parts_of}
use Rattle.labels.specs.Below.{IsGrammatical}
use Rattle.labels.proofs.checker.Checked.export.Goals as goal

pub returns : goal.returns
returns c =
    let checked = c.args.self.now in
    let items = checked.program.now in
    let same = c.procedures-procedures.ensures.procedures in
    let read : c.index-procedures-self.result ≡ get_or items checked.export c.index-procedures-self.result =
    rw (sym same) c.index-procedures-self.is in
    let parts = parts_of IsGrammatical items checked.export c.index-procedures-self.result checked.inside read
    c.procedures-procedures.ensures.grammatical in
    rw same
    (record {
      exported = export_read items checked.export c.index-procedures-self.result checked.inside read
          checked.exported;
      earlier = parts.0;
      grammatical = parts.1;
    })
