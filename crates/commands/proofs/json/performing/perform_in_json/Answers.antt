use Rattle.std.proofs.Common.{refl, ⊎_elim}
use Rattle.commands.specs.ImageRefusals as images
use Rattle.commands.specs.Meanings as meanings
use Rattle.commands.specs.Vectors as vectors
use Rattle.command_line.specs.declared.words.Request.TheVariants as requests
use Rattle.commands.specs.Below.{collected}
use Rattle.commands.proofs.JsonLemmas.{calm_of, costs_memory, counts_lines, ends_line, gives_lines, in_text}
use Rattle.commands.proofs.JsonLemmas.{lines_told, performed_from, performed_quietly}
use Rattle.commands.proofs.ProgressLemmas.{certificate_reaches, pair_reaches}
use Rattle.commands.proofs.json.performing.perform_in_json.Goals as goal

pub returns-in-Check-clause-performed : goal.returns-in-Check-clause-performed
returns-in-Check-clause-performed g c = λ files out err.
    rw c.in-Check.is (performed_quietly c.of.ensures
    (c.check_in_json-given.ensures.gives files) c.check_in_json-given.ensures.counted
    (λ files err. refl) (c.tell.ensures.told out err))

pub returns-in-CheckAll-clause-performed : goal.returns-in-CheckAll-clause-performed
returns-in-CheckAll-clause-performed g c = λ files out err.
    rw c.in-CheckAll.is (performed_quietly c.of-in-CheckAll.ensures
    (c.all_in_json-given.ensures.gives files) c.all_in_json-given.ensures.counted
    (λ files err. refl) (c.tell-in-CheckAll.ensures.told out err))

pub returns-in-Check-clause-calm : goal.returns-in-Check-clause-calm
returns-in-Check-clause-calm g c = calm_of c.check_in_json-given.result c.tell.ensures.counted

pub returns-in-CheckAll-clause-calm : goal.returns-in-CheckAll-clause-calm
returns-in-CheckAll-clause-calm g c = calm_of c.all_in_json-given.result c.tell-in-CheckAll.ensures.counted

pub returns-in-Check-clause-counted : goal.returns-in-Check-clause-counted
returns-in-Check-clause-counted g c =
    ends_line c.check_in_json-given.result c.check_in_json-given.ensures.counted c.tell.ensures.counted

pub returns-in-CheckAll-clause-counted : goal.returns-in-CheckAll-clause-counted
returns-in-CheckAll-clause-counted g c =
    ends_line c.all_in_json-given.result c.all_in_json-given.ensures.counted c.tell-in-CheckAll.ensures.counted

pub returns-in-Build-clause-performed : goal.returns-in-Build-clause-performed
returns-in-Build-clause-performed g c = λ files out err.
    rw c.in-Build.is (performed_quietly c.of-in-Build.ensures
    (c.build_in_json-given.ensures.gives files) c.build_in_json-given.ensures.counted
    (λ files err. refl) (c.tell-in-Build.ensures.told out err))

pub returns-in-Build-clause-calm : goal.returns-in-Build-clause-calm
returns-in-Build-clause-calm g c = calm_of c.build_in_json-given.result c.tell-in-Build.ensures.counted

pub returns-in-Build-clause-counted : goal.returns-in-Build-clause-counted
returns-in-Build-clause-counted g c =
    ends_line c.build_in_json-given.result c.build_in_json-given.ensures.counted c.tell-in-Build.ensures.counted

pub returns-in-Function-clause-performed : goal.returns-in-Function-clause-performed
returns-in-Function-clause-performed g c = λ files out err.
    rw c.in-Function.is (performed_quietly c.of-in-Function.ensures
    (c.function_in_json-given.ensures.gives files) c.function_in_json-given.ensures.counted
    (λ files err. refl) (c.tell-in-Function.ensures.told out err))

pub returns-in-Function-clause-calm : goal.returns-in-Function-clause-calm
returns-in-Function-clause-calm g c = calm_of c.function_in_json-given.result c.tell-in-Function.ensures.counted

pub returns-in-Function-clause-counted : goal.returns-in-Function-clause-counted
returns-in-Function-clause-counted g c = ends_line c.function_in_json-given.result
    c.function_in_json-given.ensures.counted c.tell-in-Function.ensures.counted

pub returns-in-Stat-clause-performed : goal.returns-in-Stat-clause-performed
returns-in-Stat-clause-performed g c = λ files out err.
    rw c.in-Stat.is (performed_quietly c.of-in-Stat.ensures
    (gives_lines _ _ c.lines_in_json-given.ensures (λ files line status is. is) (λ text status said f memory.
    (costs_memory said.0 memory, refl))
    (c.measure_file-found.ensures.finds files) c.measure_file-found.ensures.read)
    (counts_lines _ _ c.lines_in_json-given.ensures c.measure_file-found.ensures.read) (λ files err. refl)
    (c.tell-in-Stat.ensures.told out err))

pub returns-in-Stat-clause-calm : goal.returns-in-Stat-clause-calm
returns-in-Stat-clause-calm g c = calm_of c.lines_in_json-given.result c.tell-in-Stat.ensures.counted

pub returns-in-Stat-clause-counted : goal.returns-in-Stat-clause-counted
returns-in-Stat-clause-counted g c =
    ends_line c.lines_in_json-given.result
    (counts_lines _ _ c.lines_in_json-given.ensures c.measure_file-found.ensures.read)
    c.tell-in-Stat.ensures.counted

pub returns-in-Eval-clause-performed : goal.returns-in-Eval-clause-performed
returns-in-Eval-clause-performed g c = λ files out err.
    rw c.in-Eval.is (performed_quietly c.of-in-Eval.ensures
    (gives_lines _ _ c.lines_in_json-given-in-Eval.ensures (λ files line status is. is) (λ text status said f memory.
    (meanings.out_of_memory memory, refl))
    (c.evaluate_text-found.ensures.finds files) c.evaluate_text-found.ensures.read)
    (counts_lines _ _ c.lines_in_json-given-in-Eval.ensures c.evaluate_text-found.ensures.read) (λ files err. refl)
    (c.tell-in-Eval.ensures.told out err))

pub returns-in-Eval-clause-calm : goal.returns-in-Eval-clause-calm
returns-in-Eval-clause-calm g c = calm_of c.lines_in_json-given-in-Eval.result c.tell-in-Eval.ensures.counted

pub returns-in-Eval-clause-counted : goal.returns-in-Eval-clause-counted
returns-in-Eval-clause-counted g c =
    ends_line c.lines_in_json-given-in-Eval.result
    (counts_lines _ _ c.lines_in_json-given-in-Eval.ensures c.evaluate_text-found.ensures.read)
    c.tell-in-Eval.ensures.counted

pub returns-in-Pair-clause-performed : goal.returns-in-Pair-clause-performed
returns-in-Pair-clause-performed g c = λ files out err.
    rw c.in-Pair.is (performed_from c.of-in-Pair.ensures
    (gives_lines _ _ c.lines_in_json-given-in-Pair.ensures (λ files line status is. is) (λ text status said f memory.
    (images.out_of_memory memory, refl))
    (c.pair_image-found.ensures.finds files) c.pair_image-found.ensures.read)
    (counts_lines _ _ c.lines_in_json-given-in-Pair.ensures c.pair_image-found.ensures.read)
    (lines_told (requests.Pair c.in-Pair.image c.in-Pair.arguments c.in-Pair.options)
    (g.F.Files.store c.args.files.now).contents
    c.args.err.now c.pair_image-found.new.err (λ e. collected (g.E.Sink.taken e) (g.E.Sink.failures e))
    c.lines_in_json-given-in-Pair.ensures
    (c.pair_image-found.ensures.told files err) (c.pair_image-found.ensures.part files err)
    (pair_reaches _ _ _ _ _ c.in-Pair.options.progress))
    (c.tell-in-Pair.ensures.told out err))

pub returns-in-Pair-clause-calm : goal.returns-in-Pair-clause-calm
returns-in-Pair-clause-calm g c = calm_of c.lines_in_json-given-in-Pair.result c.tell-in-Pair.ensures.counted

pub returns-in-Pair-clause-counted : goal.returns-in-Pair-clause-counted
returns-in-Pair-clause-counted g c =
    ends_line c.lines_in_json-given-in-Pair.result
    (counts_lines _ _ c.lines_in_json-given-in-Pair.ensures c.pair_image-found.ensures.read)
    c.tell-in-Pair.ensures.counted

pub returns-in-Certify-clause-performed : goal.returns-in-Certify-clause-performed
returns-in-Certify-clause-performed g c = λ files out err.
    rw c.in-Certify.is (performed_from c.of-in-Certify.ensures
    (gives_lines _ _ c.lines_in_json-given-in-Certify.ensures (λ files line status is. is)
    (λ text status said f memory. (images.out_of_memory memory, refl))
    (c.certify_image-found.ensures.finds files) c.certify_image-found.ensures.read)
    (counts_lines _ _ c.lines_in_json-given-in-Certify.ensures c.certify_image-found.ensures.read)
    (lines_told (requests.Certify c.in-Certify.image c.in-Certify.arguments c.in-Certify.options)
    (g.F.Files.store c.args.files.now).contents
    c.args.err.now c.certify_image-found.new.err (λ e. collected (g.E.Sink.taken e) (g.E.Sink.failures e))
    c.lines_in_json-given-in-Certify.ensures
    (c.certify_image-found.ensures.told files err) (c.certify_image-found.ensures.part files err)
    (certificate_reaches _ _ _ _ _ c.in-Certify.options.progress c.in-Certify.options.shifts))
    (c.tell-in-Certify.ensures.told out err))

pub returns-in-Certify-clause-calm : goal.returns-in-Certify-clause-calm
returns-in-Certify-clause-calm g c = calm_of c.lines_in_json-given-in-Certify.result c.tell-in-Certify.ensures.counted

pub returns-in-Certify-clause-counted : goal.returns-in-Certify-clause-counted
returns-in-Certify-clause-counted g c =
    ends_line c.lines_in_json-given-in-Certify.result
    (counts_lines _ _ c.lines_in_json-given-in-Certify.ensures c.certify_image-found.ensures.read)
    c.tell-in-Certify.ensures.counted

pub returns-in-Vectors-clause-performed : goal.returns-in-Vectors-clause-performed
returns-in-Vectors-clause-performed g c = λ files out err.
    rw c.in-Vectors.is (performed_quietly refl
    (gives_lines _ _ c.lines_in_json-given-in-Vectors.ensures (λ files line status is. is)
    (λ text status said f memory. (vectors.no_memory memory, refl))
    (c.try_file-found.ensures.finds files) c.try_file-found.ensures.read)
    (counts_lines _ _ c.lines_in_json-given-in-Vectors.ensures c.try_file-found.ensures.read) (λ files err. refl)
    (c.tell-in-Vectors.ensures.told out err))

pub returns-in-Vectors-clause-calm : goal.returns-in-Vectors-clause-calm
returns-in-Vectors-clause-calm g c = calm_of c.lines_in_json-given-in-Vectors.result c.tell-in-Vectors.ensures.counted

pub returns-in-Vectors-clause-counted : goal.returns-in-Vectors-clause-counted
returns-in-Vectors-clause-counted g c =
    ends_line c.lines_in_json-given-in-Vectors.result
    (counts_lines _ _ c.lines_in_json-given-in-Vectors.ensures c.try_file-found.ensures.read)
    c.tell-in-Vectors.ensures.counted

pub returns-in-Run-clause-performed : goal.returns-in-Run-clause-performed
returns-in-Run-clause-performed g c = λ files out err.
    let done = c.perform_in_text.ensures.performed files out err in
    ⊎_elim (λ run. in_text _ run.3 (λ p. p) done)
    (⊎_elim (λ leak. in_text _ leak.2 (λ p. p) done)
    (⊎_elim (λ picture. in_text _ picture.3 (λ p. p) done)
    (⊎_elim (λ list. in_text _ list.1 (λ p. p) done)
    (⊎_elim (λ wrap. in_text _ wrap.6 (λ p. p) done)
    (⊎_elim (λ harts. in_text _ harts.1 (λ p. p) done)
    (⊎_elim (λ explain. in_text _ explain.1 (λ p. p) done)
    (⊎_elim (λ certify. in_text _ certify.3 (λ p. p) done)
    (⊎_elim (λ leak. in_text _ leak.3 (λ p. p) done) (λ witness. in_text _ witness.4 (λ p. p) done)))))))))
    c.in-Run.is
