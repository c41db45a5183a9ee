use Rattle.std.proofs.Common.{◌≡◌, ◌∙◌, ap, inr, map, refl}
use Rattle.std.specs.String.{string_bytes}
use Rattle.language.proofs.Handed.{handed_on, converted_on}
use Rattle.commands.proofs.AnswerLemmas.{read_fault, read_memory}
use Rattle.commands.proofs.HartLemmas.{hart_refused, job_from}
use Rattle.commands.proofs.side_by_side.load_job.Goals as goal

pub returns-in_err-words-clause-refused : goal.returns-in_err-words-clause-refused
returns-in_err-words-clause-refused g c = λ tells.
    converted_on _ c.from_residual.ensures.1 (λ e memory. inr memory)

pub returns-in_err-words-clause-read : goal.returns-in_err-words-clause-read
returns-in_err-words-clause-read g c = read_memory _ c.from_residual.ensures.1 refl

pub returns-in_err-image-clause-refused : goal.returns-in_err-image-clause-refused
returns-in_err-image-clause-refused g c = λ tells.
    let words = map (λ word. word.now) c.as_slice-2.result.now in
    let same : words ≡ map string_bytes c.args.job.now.arguments.items =
    ap (map (λ word. word.now)) c.as_slice-2.ensures.value ∙ c.in_ok-words.ensures
    ∙ ap (map string_bytes) c.as_slice.ensures.value in
    handed_on _ _ c.from_residual-in_err-image.ensures.1
    (hart_refused (g.F.Files.store c.args.files.now).contents c.args.job.now c.in_err-image.field-0.0
    c.as_str.result.now words c.as_str.ensures.value same (c.in_err-image.ensures.refused tells))

pub returns-in_err-image-clause-read : goal.returns-in_err-image-clause-read
returns-in_err-image-clause-read g c =
    read_fault _ _ _ _ c.from_residual-in_err-image.ensures.1 c.in_err-image.ensures.read

pub returns-clause-said : goal.returns-clause-said
returns-clause-said g c = λ tells.
    let words = map (λ word. word.now) c.as_slice-2.result.now in
    let same : words ≡ map string_bytes c.args.job.now.arguments.items =
    ap (map (λ word. word.now)) c.as_slice-2.ensures.value ∙ c.in_ok-words.ensures
    ∙ ap (map string_bytes) c.as_slice.ensures.value in
    job_from (g.F.Files.store c.args.files.now).contents c.args.job.now c.in_ok-image.image c.in_ok-image.args
    c.as_str.result.now words c.as_str.ensures.value same (c.in_ok-image.ensures.said tells)
    c.in_ok-image.ensures.spelled

pub returns-clause-read : goal.returns-clause-read
returns-clause-read g c = c.in_ok-image.ensures.read
