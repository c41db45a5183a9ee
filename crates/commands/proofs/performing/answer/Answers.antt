use Rattle.std.proofs.Common.{refl}
use Rattle.commands.proofs.AnswerLemmas.{does_read, ends_read, does_fault, ends_fault, does_silently, told_after}
use Rattle.commands.proofs.AnswerLemmas.{part_after}
use Rattle.commands.proofs.PictureProgress.{file_picture_reaches}
use Rattle.commands.proofs.ProgressLemmas.{pair_reaches, certificate_reaches, function_reaches}
use Rattle.commands.proofs.RunLines.{run_reaches}
use Rattle.commands.proofs.performing.answer.Goals as goal

pub returns-in-Check-clause-does : goal.returns-in-Check-clause-does
returns-in-Check-clause-does g c = λ files out.
    does_read _ _ c.in-Check.is (c.check_text.ensures.finds files) c.check_text.ensures.read out c.print.ensures

pub returns-in-Check-clause-ended : goal.returns-in-Check-clause-ended
returns-in-Check-clause-ended g c = ends_read _ _ c.check_text.ensures.read c.print.ensures

pub returns-in-CheckAll-clause-does : goal.returns-in-CheckAll-clause-does
returns-in-CheckAll-clause-does g c = λ files out.
    does_read _ _ c.in-CheckAll.is (c.check_all.ensures.finds files) c.check_all.ensures.read out
    c.print-in-CheckAll.ensures

pub returns-in-CheckAll-clause-ended : goal.returns-in-CheckAll-clause-ended
returns-in-CheckAll-clause-ended g c = ends_read _ _ c.check_all.ensures.read c.print-in-CheckAll.ensures

pub returns-in-Stat-clause-does : goal.returns-in-Stat-clause-does
returns-in-Stat-clause-does g c = λ files out.
    does_read _ _ c.in-Stat.is (c.measure_file.ensures.finds files) c.measure_file.ensures.read out
    c.print-in-Stat.ensures

pub returns-in-Stat-clause-ended : goal.returns-in-Stat-clause-ended
returns-in-Stat-clause-ended g c = ends_read _ _ c.measure_file.ensures.read c.print-in-Stat.ensures

pub returns-in-Eval-clause-does : goal.returns-in-Eval-clause-does
returns-in-Eval-clause-does g c = λ files out.
    does_read _ _ c.in-Eval.is (c.evaluate_text.ensures.finds files) c.evaluate_text.ensures.read out
    c.print-in-Eval.ensures

pub returns-in-Eval-clause-ended : goal.returns-in-Eval-clause-ended
returns-in-Eval-clause-ended g c = ends_read _ _ c.evaluate_text.ensures.read c.print-in-Eval.ensures

pub returns-in-Run-clause-does : goal.returns-in-Run-clause-does
returns-in-Run-clause-does g c = λ files out.
    does_read _ _ c.in-Run.is (c.run_image.ensures.finds files) c.run_image.ensures.read out c.print-in-Run.ensures

pub returns-in-Run-clause-ended : goal.returns-in-Run-clause-ended
returns-in-Run-clause-ended g c = ends_read _ _ c.run_image.ensures.read c.print-in-Run.ensures

pub returns-in-Pair-clause-does : goal.returns-in-Pair-clause-does
returns-in-Pair-clause-does g c = λ files out.
    does_read _ _ c.in-Pair.is (c.pair_image.ensures.finds files) c.pair_image.ensures.read out c.print-in-Pair.ensures

pub returns-in-Pair-clause-ended : goal.returns-in-Pair-clause-ended
returns-in-Pair-clause-ended g c = ends_read _ _ c.pair_image.ensures.read c.print-in-Pair.ensures

pub returns-in-Certify-clause-does : goal.returns-in-Certify-clause-does
returns-in-Certify-clause-does g c = λ files out.
    does_read _ _ c.in-Certify.is (c.certify_image.ensures.finds files) c.certify_image.ensures.read out
    c.print-in-Certify.ensures

pub returns-in-Certify-clause-ended : goal.returns-in-Certify-clause-ended
returns-in-Certify-clause-ended g c = ends_read _ _ c.certify_image.ensures.read c.print-in-Certify.ensures

pub returns-in-Picture-clause-does : goal.returns-in-Picture-clause-does
returns-in-Picture-clause-does g c = λ files out.
    does_read _ _ c.in-Picture.is (c.picture_image.ensures.finds files) c.picture_image.ensures.read out
    c.print-in-Picture.ensures

pub returns-in-Picture-clause-ended : goal.returns-in-Picture-clause-ended
returns-in-Picture-clause-ended g c = ends_read _ _ c.picture_image.ensures.read c.print-in-Picture.ensures

pub returns-in-Picture-clause-told : goal.returns-in-Picture-clause-told
returns-in-Picture-clause-told g c = λ files err.
    told_after c.in-Picture.is _ _ _ c.print-in-Picture.ensures (c.picture_image.ensures.told files err)

pub returns-in-Picture-clause-part : goal.returns-in-Picture-clause-part
returns-in-Picture-clause-part g c = λ files err.
    part_after c.in-Picture.is _ _ _ _ c.print-in-Picture.ensures (c.picture_image.ensures.part files err)
    (c.picture_image.ensures.told files err)
    (file_picture_reaches _ _ _ _ _ c.in-Picture.progress)

pub returns-in-List-clause-does : goal.returns-in-List-clause-does
returns-in-List-clause-does g c = λ files out.
    does_read _ _ c.in-List.is (c.list_image.ensures.finds files) c.list_image.ensures.read out c.print-in-List.ensures

pub returns-in-List-clause-ended : goal.returns-in-List-clause-ended
returns-in-List-clause-ended g c = ends_read _ _ c.list_image.ensures.read c.print-in-List.ensures

pub returns-in-Harts-clause-does : goal.returns-in-Harts-clause-does
returns-in-Harts-clause-does g c = λ files out.
    does_read _ _ c.in-Harts.is (c.run_file.ensures.finds files) c.run_file.ensures.read out c.print-in-Harts.ensures

pub returns-in-Harts-clause-ended : goal.returns-in-Harts-clause-ended
returns-in-Harts-clause-ended g c = ends_read _ _ c.run_file.ensures.read c.print-in-Harts.ensures

pub returns-in-Vectors-clause-does : goal.returns-in-Vectors-clause-does
returns-in-Vectors-clause-does g c = λ files out.
    does_read _ _ c.in-Vectors.is (c.try_file.ensures.finds files) c.try_file.ensures.read out
    c.print-in-Vectors.ensures

pub returns-in-Vectors-clause-ended : goal.returns-in-Vectors-clause-ended
returns-in-Vectors-clause-ended g c = ends_read _ _ c.try_file.ensures.read c.print-in-Vectors.ensures

pub returns-in-Explain-clause-does : goal.returns-in-Explain-clause-does
returns-in-Explain-clause-does g c = λ files out.
    does_read _ _ c.in-Explain.is (c.lines_of.ensures.finds _)
    (c.lines_of.ensures.read (g.F.Files.store c.args.files.now)) out c.print-in-Explain.ensures

pub returns-in-Explain-clause-ended : goal.returns-in-Explain-clause-ended
returns-in-Explain-clause-ended g c =
    ends_read _ _ (c.lines_of.ensures.read (g.F.Files.store c.args.files.now)) c.print-in-Explain.ensures

pub returns-in_err-build_image-in-Build-clause-does : goal.returns-in_err-build_image-in-Build-clause-does
returns-in_err-build_image-in-Build-clause-does g c = λ files out.
    does_fault _ _ _ c.in-Build.is _ _ c.from_residual.ensures.1 (c.in_err-build_image-in-Build.ensures.refused files)
    c.in_err-build_image-in-Build.ensures.counted

pub returns-in_err-build_image-in-Build-clause-ended : goal.returns-in_err-build_image-in-Build-clause-ended
returns-in_err-build_image-in-Build-clause-ended g c =
    ends_fault _ _ _ _ _ c.from_residual.ensures.1 c.in_err-build_image-in-Build.ensures.counted

pub returns-in_ok-build_image-in-Build-clause-does : goal.returns-in_ok-build_image-in-Build-clause-does
returns-in_ok-build_image-in-Build-clause-does g c = λ files out.
    does_silently c.in-Build.is (refl, refl) (c.in_ok-build_image-in-Build.ensures.said files)
    c.in_ok-build_image-in-Build.ensures.calm

pub returns-in_err-write_function-in-Function-clause-does : goal.returns-in_err-write_function-in-Function-clause-does
returns-in_err-write_function-in-Function-clause-does g c = λ files out.
    does_fault _ _ _ c.in-Function.is _ _ c.from_residual-in_err-write_function-in-Function.ensures.1
    (c.in_err-write_function-in-Function.ensures.refused files)
    c.in_err-write_function-in-Function.ensures.counted

pub returns-in_err-write_function-in-Function-clause-ended : goal.returns-in_err-write_function-in-Function-clause-ended
returns-in_err-write_function-in-Function-clause-ended g c =
    ends_fault _ _ _ _ _ c.from_residual-in_err-write_function-in-Function.ensures.1
    c.in_err-write_function-in-Function.ensures.counted

pub returns-in_ok-write_function-in-Function-clause-does : goal.returns-in_ok-write_function-in-Function-clause-does
returns-in_ok-write_function-in-Function-clause-does g c = λ files out.
    does_silently c.in-Function.is (refl, refl) (c.in_ok-write_function-in-Function.ensures.said files)
    c.in_ok-write_function-in-Function.ensures.calm

pub returns-in_err-wrap_code-in-Wrap-clause-does : goal.returns-in_err-wrap_code-in-Wrap-clause-does
returns-in_err-wrap_code-in-Wrap-clause-does g c = λ files out.
    does_fault _ _ _ c.in-Wrap.is _ _ c.from_residual-in_err-wrap_code-in-Wrap.ensures.1
    (c.in_err-wrap_code-in-Wrap.ensures.refused files)
    c.in_err-wrap_code-in-Wrap.ensures.counted

pub returns-in_err-wrap_code-in-Wrap-clause-ended : goal.returns-in_err-wrap_code-in-Wrap-clause-ended
returns-in_err-wrap_code-in-Wrap-clause-ended g c =
    ends_fault _ _ _ _ _ c.from_residual-in_err-wrap_code-in-Wrap.ensures.1 c.in_err-wrap_code-in-Wrap.ensures.counted

pub returns-in_ok-wrap_code-in-Wrap-clause-does : goal.returns-in_ok-wrap_code-in-Wrap-clause-does
returns-in_ok-wrap_code-in-Wrap-clause-does g c = λ files out.
    does_silently c.in-Wrap.is (refl, refl) (c.in_ok-wrap_code-in-Wrap.ensures.said files)
    c.in_ok-wrap_code-in-Wrap.ensures.calm

pub returns-in-Leak-clause-does : goal.returns-in-Leak-clause-does
returns-in-Leak-clause-does g c = λ files out. rw c.in-Leak.is (c.leak_image.ensures.does files out)

pub returns-in-Leak-clause-ended : goal.returns-in-Leak-clause-ended
returns-in-Leak-clause-ended g c = c.leak_image.ensures.ended

pub returns-in-Run-clause-told : goal.returns-in-Run-clause-told
returns-in-Run-clause-told g c = λ files err.
    told_after c.in-Run.is _ _ _ c.print-in-Run.ensures (c.run_image.ensures.told files err)

pub returns-in-Run-clause-part : goal.returns-in-Run-clause-part
returns-in-Run-clause-part g c = λ files err.
    part_after c.in-Run.is _ _ _ _ c.print-in-Run.ensures (c.run_image.ensures.part files err)
    (c.run_image.ensures.told files err)
    (run_reaches _ _ _ _ _ c.in-Run.options)

pub returns-in-Pair-clause-told : goal.returns-in-Pair-clause-told
returns-in-Pair-clause-told g c = λ files err.
    told_after c.in-Pair.is _ _ _ c.print-in-Pair.ensures (c.pair_image.ensures.told files err)

pub returns-in-Pair-clause-part : goal.returns-in-Pair-clause-part
returns-in-Pair-clause-part g c = λ files err.
    part_after c.in-Pair.is _ _ _ _ c.print-in-Pair.ensures (c.pair_image.ensures.part files err)
    (c.pair_image.ensures.told files err)
    (pair_reaches _ _ _ _ _ c.in-Pair.options.progress)

pub returns-in-Certify-clause-told : goal.returns-in-Certify-clause-told
returns-in-Certify-clause-told g c = λ files err.
    told_after c.in-Certify.is _ _ _ c.print-in-Certify.ensures (c.certify_image.ensures.told files err)

pub returns-in-Certify-clause-part : goal.returns-in-Certify-clause-part
returns-in-Certify-clause-part g c = λ files err.
    part_after c.in-Certify.is _ _ _ _ c.print-in-Certify.ensures (c.certify_image.ensures.part files err)
    (c.certify_image.ensures.told files err)
    (certificate_reaches _ _ _ _ _ c.in-Certify.options.progress c.in-Certify.options.shifts)

pub returns-in-ElfCertify-clause-does : goal.returns-in-ElfCertify-clause-does
returns-in-ElfCertify-clause-does g c = λ files out.
    does_read _ _ c.in-ElfCertify.is (c.certify_elf.ensures.finds files) c.certify_elf.ensures.read out
    c.print-in-ElfCertify.ensures

pub returns-in-ElfCertify-clause-ended : goal.returns-in-ElfCertify-clause-ended
returns-in-ElfCertify-clause-ended g c = ends_read _ _ c.certify_elf.ensures.read c.print-in-ElfCertify.ensures

pub returns-in-ElfCertify-clause-told : goal.returns-in-ElfCertify-clause-told
returns-in-ElfCertify-clause-told g c = λ files err.
    told_after c.in-ElfCertify.is _ _ _ c.print-in-ElfCertify.ensures (c.certify_elf.ensures.told files err)

pub returns-in-ElfCertify-clause-part : goal.returns-in-ElfCertify-clause-part
returns-in-ElfCertify-clause-part g c = λ files err.
    part_after c.in-ElfCertify.is _ _ _ _ c.print-in-ElfCertify.ensures (c.certify_elf.ensures.part files err)
    (c.certify_elf.ensures.told files err)
    (function_reaches _ _ _ _ _ _ c.in-ElfCertify.options.progress)

pub returns-in-ElfLeak-clause-does : goal.returns-in-ElfLeak-clause-does
returns-in-ElfLeak-clause-does g c = λ files out. rw c.in-ElfLeak.is (c.leak_elf.ensures.does files out)

pub returns-in-ElfLeak-clause-ended : goal.returns-in-ElfLeak-clause-ended
returns-in-ElfLeak-clause-ended g c = c.leak_elf.ensures.ended

pub returns-in-ElfWitness-clause-does : goal.returns-in-ElfWitness-clause-does
returns-in-ElfWitness-clause-does g c = λ files out.
    does_read _ _ c.in-ElfWitness.is (c.witness_elf.ensures.finds files) c.witness_elf.ensures.read out
    c.print-in-ElfWitness.ensures

pub returns-in-ElfWitness-clause-ended : goal.returns-in-ElfWitness-clause-ended
returns-in-ElfWitness-clause-ended g c = ends_read _ _ c.witness_elf.ensures.read c.print-in-ElfWitness.ensures
