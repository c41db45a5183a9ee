use Rattle.std.proofs.Common.{OnOk, OnErr, ap, ◌∙◌, subst}
use Rattle.std.proofs.lemmas.Result.{on_ok_weaker}
use Rattle.commands.specs.Contents.{Store, IsWritten, IsCutOff}
use Rattle.commands.specs.Written.{refused, cut_off}
use Rattle.language.proofs.Handed.{handed_on}
use Rattle.commands.proofs.Counting.{counted_by, kept_by, write_failed, if_write_counts}
use Rattle.commands.proofs.Writing.{err_both}
use Rattle.commands.proofs.texts.build_image.Goals as goal

pub returns-in_err-built-clause-refused : goal.returns-in_err-built-clause-refused
returns-in_err-built-clause-refused g c = λ tells.
    handed_on _ _ c.from_residual.ensures.1
    (refused (c.in_err-built.ensures.refused tells) (kept_by _ _ _ c.in_err-built.ensures.counted))

pub returns-in_err-built-clause-untouched : goal.returns-in_err-built-clause-untouched
returns-in_err-built-clause-untouched g c =
    handed_on _ _ c.from_residual.ensures.1 (λ other. kept_by _ _ _ c.in_err-built.ensures.counted)

pub returns-in_err-built-clause-counted : goal.returns-in_err-built-clause-counted
returns-in_err-built-clause-counted g c =
    handed_on _ _ c.from_residual.ensures.1 (counted_by _ _ _ c.in_err-built.ensures.counted)

pub returns-clause-said : goal.returns-clause-said
returns-clause-said g c = λ tells.
    let bytes = c.in_ok-built.built.items in
    on_ok_weaker c.write_file.result
    (λ written. record { bytes = bytes; such = c.in_ok-built.ensures.said tells; written = written })
    (subst (λ (s : Store). OnOk c.write_file.result
    (IsWritten c.args.image.now bytes s.contents (g.F.Files.store c.write_file.new.files).contents))
    c.in_ok-built.ensures.calm
    (rw c.as_slice.ensures.value at (c.write_file.ensures.written tells)))

pub returns-clause-refused : goal.returns-clause-refused
returns-clause-refused g c = λ tells.
    err_both _ _ _ c.write_file.result
    (subst (λ (s : Store). OnErr c.write_file.result
    (IsCutOff c.args.image.now c.in_ok-built.built.items s.contents (g.F.Files.store c.write_file.new.files).contents))
    c.in_ok-built.ensures.calm
    (rw c.as_slice.ensures.value at (c.write_file.ensures.cut_off tells))) c.write_file.ensures.fault
    (λ fault cut why. cut_off (c.in_ok-built.ensures.said tells) cut why)

pub returns-clause-calm : goal.returns-clause-calm
returns-clause-calm g c =
    on_ok_weaker c.write_file.result (λ same. same ∙ ap (λ (s : Store). s.failures) c.in_ok-built.ensures.calm)
    c.write_file.ensures.calm

pub returns-clause-counted : goal.returns-clause-counted
returns-clause-counted g c =
    write_failed c.write_file.result _ _
    (if_write_counts c.args.image.now (g.F.Files.store c.args.files.now).failures c.write_file.result
    c.write_file.ensures.fault)
    (rw c.in_ok-built.ensures.calm at c.write_file.ensures.counts)
