use Rattle.std.proofs.Common.{Some, Result, Err, String, Global, refl, sym, ap, ◌∙◌}
use Rattle.std.proofs.lemmas.Str.{IsUtf8-string_bytes}
use Rattle.commands.specs.FileTexts.{not_read}
use Rattle.commands.specs.Unread.{unread}
use Rattle.commands.specs.Below.{BuildFault, one_more, Refusal}
use Rattle.commands.proofs.Counting.{text_counts, err_inj}
use Rattle.commands.proofs.texts.text_of_file.Goals as goal

pub returns-in_default-clause-refused : goal.returns-in_default-clause-refused
returns-in_default-clause-refused g c = λ tells. not_read (unread refl)

pub returns-in-Ok-text-clause-said : goal.returns-in-Ok-text-clause-said
returns-in-Ok-text-clause-said g c = λ tells. record {
  held =
      c.in-Ok.ensures.opens tells
      ∙ ap Some (sym (c.in-Ok-text.ensures.whole (c.in-Ok.ensures.told tells)));
  is_text = (c.in-Ok-text.ensures.within, IsUtf8-string_bytes c.in-Ok-text.text);
}

pub returns-in-Err-clause-refused : goal.returns-in-Err-clause-refused
returns-in-Err-clause-refused g c = λ tells.
    c.text_fault.ensures.fault (g.F.Files.store c.args.files.now).contents _
    (c.in-Ok.ensures.opens tells) (c.in-Err.ensures.fault (c.in-Ok.ensures.told tells))

pub returns-in-Err-clause-counted : goal.returns-in-Err-clause-counted
returns-in-Err-clause-counted g c =
    let gives : BuildFault Refusal → Result (String Global) (BuildFault Refusal) = λ why. Err why in
    text_counts c.in-Err.fault c.text_fault.result (g.F.Files.store c.args.files.now)
    (rw c.in-Ok.ensures.calm at c.close.ensures)
    (λ is. c.in-Err.ensures.counts (ap gives is) ∙ ap one_more c.in-Ok.ensures.fresh)
    (λ other. c.in-Err.ensures.calm (λ is. other (err_inj is)) ∙ c.in-Ok.ensures.fresh)
    (λ is. c.in-Err.ensures.unwritten (ap gives is)) c.text_fault.ensures.counts c.text_fault.ensures.calm
