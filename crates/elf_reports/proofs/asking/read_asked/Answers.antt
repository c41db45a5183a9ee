use Rattle.std.proofs.Common.{◌∙◌, ap, Option}
use Rattle.std.specs.Option.{option_or}
use Rattle.elf_reports.specs.Asking.{arguments_spelled, settings_spelled, spelling, texts}
use Rattle.elf_reports.specs.Below.{first_unmet, Unmet}
use Rattle.elf_reports.proofs.Spelling.{joined, told_on}
use Rattle.elf_reports.proofs.asking.read_asked.Goals as goal

pub returns-in_err-arguments-clause-fault : goal.returns-in_err-arguments-clause-fault
returns-in_err-arguments-clause-fault c =
    let words = c.args.words.now in
    let arguments = arguments_spelled (texts words.arguments.now) in
    let settings = settings_spelled (texts words.settings.now) in
    told_on c.from_residual.result c.in_err-arguments.field-0.0 arguments (spelling words) c.from_residual.ensures.1
    c.in_err-arguments.ensures.fault
    (λ unmet told. joined arguments settings ∙ ap (λ (o : Option Unmet). option_or o (first_unmet settings)) told)

pub returns-in_err-settings-clause-fault : goal.returns-in_err-settings-clause-fault
returns-in_err-settings-clause-fault c =
    let words = c.args.words.now in
    let arguments = arguments_spelled (texts words.arguments.now) in
    let settings = settings_spelled (texts words.settings.now) in
    told_on c.from_residual-in_err-settings.result c.in_err-settings.field-0.0 settings (spelling words)
    c.from_residual-in_err-settings.ensures.1 c.in_err-settings.ensures.fault
    (λ unmet told. joined arguments settings
    ∙ ap (λ (o : Option Unmet). option_or o (first_unmet settings)) c.in_ok-arguments.ensures.met ∙ told)

pub returns-clause-met : goal.returns-clause-met
returns-clause-met c =
    let words = c.args.words.now in
    let arguments = arguments_spelled (texts words.arguments.now) in
    let settings = settings_spelled (texts words.settings.now) in
    joined arguments settings
    ∙ ap (λ (o : Option Unmet). option_or o (first_unmet settings)) c.in_ok-arguments.ensures.met
    ∙ c.in_ok-settings.ensures.met
