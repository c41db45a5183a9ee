use Rattle.std.proofs.Common.{[], ◌∙◌, ℕ, List, Some, ap, get_or, map}
use Rattle.std.specs.Borrow.{Bor}
use Rattle.elf_reports.specs.Asking.{asked_setting, setting_in, setting_spelled, settings_spelled, texts}
use Rattle.std.proofs.lemmas.List.{take_all}
use Rattle.elf_reports.proofs.Spelling.{asked_more, none_told, none_told_at, told_at, told_on}
use Rattle.elf_reports.proofs.asking.settings_in.Goals as goal

pub returns-in_err-setting_at-clause-fault : goal.returns-in_err-setting_at-clause-fault
returns-in_err-setting_at-clause-fault c =
    let words = c.args.words.now in
    let none : Bor (List ℕ) = record { ref_ptr = (0, 0); now = [] } in
    told_on c.from_residual.result c.in_err-setting_at.field-0.0
    (setting_spelled c.each.k (get_or words c.each.k none).now) (settings_spelled (texts words))
    c.from_residual.ensures.1 c.in_err-setting_at.ensures.fault
    (λ unmet. told_at setting_spelled words c.each.k none unmet c.each-test.true c.each.invariant.met)

pub each-preserved : goal.each-preserved
each-preserved c =
    let words = c.args.words.now in
    let none : Bor (List ℕ) = record { ref_ptr = (0, 0); now = [] } in
    record {
      met = none_told_at setting_spelled words c.each.k none c.each-test.true c.each.invariant.met
          c.in_ok-setting_at.ensures.met;
      asked =
          asked_more (λ one. Some (asked_setting one)) setting_in words c.each.k none c.in_ok-setting_at.field-0
          c.each.settings.items c.push.new.self.items c.each-test.true c.each.invariant.asked
          c.in_ok-setting_at.ensures.setting c.in_ok-push.ensures.items;
    }

pub returns-clause-met : goal.returns-clause-met
returns-clause-met c = none_told setting_spelled c.args.words.now c.each.k c.each-test.false c.each.invariant.met

pub returns-clause-settings : goal.returns-clause-settings
returns-clause-settings c =
    c.each.invariant.asked
    ∙ ap (λ (words : List (Bor (List ℕ))). map setting_in (texts words))
    (take_all c.each.k c.args.words.now c.each-test.false)
