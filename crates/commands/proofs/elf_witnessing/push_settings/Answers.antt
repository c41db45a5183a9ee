use Rattle.std.proofs.Common.{◌≡◌, ◌∙◌, ◌++◌, ◌+◌, ℕ, List, ap, append_assoc, drop, sym}
use Rattle.std.proofs.lemmas.List.{drop_more}
use Rattle.commands.specs.Below.{Setting}
use Rattle.commands.specs.FunctionWitnesses.{setting_words, settings_words}
use Rattle.commands.proofs.elf_witnessing.push_settings.Goals as goal

-- one setting more
setting_more : (before words rest new whole : List ℕ) → new ≡ before ++ words → before ++ (words ++ rest) ≡ whole
    → new ++ rest ≡ whole
setting_more before words rest new whole is all = ap (λ t. t ++ rest) is ∙ append_assoc before words rest ∙ all

pub settings-preserved : goal.settings-preserved
settings-preserved c =
    let settings = c.args.settings.now in
    let k = c.settings.setting-index in
    let setting = c.setting-item.result in
    let rest = settings_words (drop (k + 1) settings) in
    let left : settings_words (drop k settings) ≡ setting_words setting ++ rest =
    ap settings_words (drop_more settings k setting c.settings-test.true)
    ∙ ap (λ (one : Setting). setting_words one ++ rest) (sym c.setting-item.is) in
    setting_more c.settings.text.items (setting_words setting) rest _ _ c.in_ok-push_setting.ensures
    (ap (λ t. c.settings.text.items ++ t) (sym left) ∙ c.settings.invariant)
