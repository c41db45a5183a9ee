use Rattle.std.proofs.Common.{ap, ◌∙◌, IfErr, OnOk, subst}
use Rattle.std.proofs.lemmas.Result.{on_ok_weaker}
use Rattle.std.specs.String.{string_bytes}
use Rattle.commands.specs.Contents.{Store}
use Rattle.commands.specs.TwoFiles.{AreWritten, AreCutOff, refused, cut_off}
use Rattle.language.proofs.Handed.{handed_on}
use Rattle.commands.proofs.Counting.{counted_by, kept_by, write_failed, either_write_counts}
use Rattle.commands.proofs.Writing.{err_both}
use Rattle.commands.proofs.function_files.write_function.Goals as goal

pub returns-in_err-texts-clause-refused : goal.returns-in_err-texts-clause-refused
returns-in_err-texts-clause-refused g c = λ tells.
    handed_on _ _ c.from_residual.ensures.1
    (refused (c.in_err-texts.ensures.refused tells) (kept_by _ _ _ c.in_err-texts.ensures.counted))

pub returns-in_err-texts-clause-untouched : goal.returns-in_err-texts-clause-untouched
returns-in_err-texts-clause-untouched g c =
    handed_on _ _ c.from_residual.ensures.1 (λ other. kept_by _ _ _ c.in_err-texts.ensures.counted)

pub returns-in_err-texts-clause-counted : goal.returns-in_err-texts-clause-counted
returns-in_err-texts-clause-counted g c =
    handed_on _ _ c.from_residual.ensures.1 (counted_by _ _ _ c.in_err-texts.ensures.counted)

pub returns-clause-said : goal.returns-clause-said
returns-clause-said g c = λ tells.
    let assembler = string_bytes c.in_ok-texts.texts.assembler in
    let header = string_bytes c.in_ok-texts.texts.header in
    on_ok_weaker c.write_both.result
    (λ written. record {
      bytes = assembler;
      more = header;
      such = c.in_ok-texts.ensures.said tells;
      written = written;
    })
    (subst (λ (s : Store). OnOk c.write_both.result
    (AreWritten c.args.assembler.now c.args.header.now assembler header s.contents
    (g.F.Files.store c.write_both.new.files).contents)) c.in_ok-texts.ensures.calm
    (c.write_both.ensures.written tells))

pub returns-clause-refused : goal.returns-clause-refused
returns-clause-refused g c = λ tells.
    err_both _ _ _ c.write_both.result
    (subst (λ (s : Store). IfErr c.write_both.result
    (AreCutOff c.args.assembler.now c.args.header.now (string_bytes c.in_ok-texts.texts.assembler)
    (string_bytes c.in_ok-texts.texts.header) s.contents (g.F.Files.store c.write_both.new.files).contents))
    c.in_ok-texts.ensures.calm (c.write_both.ensures.cut_off tells)) c.write_both.ensures.fault
    (λ fault cut why. cut_off (c.in_ok-texts.ensures.said tells) cut)

pub returns-clause-calm : goal.returns-clause-calm
returns-clause-calm g c =
    on_ok_weaker c.write_both.result (λ same. same ∙ ap (λ (s : Store). s.failures) c.in_ok-texts.ensures.calm)
    c.write_both.ensures.calm

pub returns-clause-counted : goal.returns-clause-counted
returns-clause-counted g c =
    write_failed c.write_both.result _ _
    (either_write_counts c.args.assembler.now c.args.header.now (g.F.Files.store c.args.files.now).failures
    c.write_both.result c.write_both.ensures.fault)
    (rw c.in_ok-texts.ensures.calm at c.write_both.ensures.counts)
