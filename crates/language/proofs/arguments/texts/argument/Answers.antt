use Rattle.std.proofs.Common.{◌≡◌, ◌==◌, [], ◌∷◌, length, get_or, Some, ap, ◌∙◌, sym, arith}
use Rattle.std.specs.List.{slice_split}
use Rattle.language.specs.arguments.Texts.{numbers_of, count_of}
use Rattle.language.proofs.arguments_lemmas.ReadLemmas.{words_are, Fitting-from_rule, single, IsWithin-array, IsWithin-word}
use Rattle.language.proofs.arguments.texts.argument.Goals as goal

pub index-requires : goal.index-requires
index-requires c =
    let param = c.args.param.now in
    let fit = Fitting-from_rule param (numbers_of c.args.text.now) c.requires in
    let words : c.in_ok-words.words.items ≡ fit.0 = c.in_ok-words.ensures
    ∙ words_are param (slice_split (λ byte. byte == 44) c.args.text.now) fit.0 fit.1 fit.2 in
    let one : length fit.0 ≡ 1 = fit.2.count ∙ ap (λ form. count_of form param.length) c.in-SingleWord.is in
    omega (arith, ap length words, one, c.in_ok-words.words.ok.0)

pub returns-in-SingleWord : goal.returns-in-SingleWord
returns-in-SingleWord c =
    let param = c.args.param.now in
    let fit = Fitting-from_rule param (numbers_of c.args.text.now) c.requires in
    let words : c.in_ok-words.words.items ≡ fit.0 = c.in_ok-words.ensures
    ∙ words_are param (slice_split (λ byte. byte == 44) c.args.text.now) fit.0 fit.1 fit.2 in
    let one : length fit.0 ≡ 1 = fit.2.count ∙ ap (λ form. count_of form param.length) c.in-SingleWord.is in
    let word = c.index.result.now in
    let same : word ∷ [] ≡ fit.0 = ap (λ w. w ∷ []) (c.index.ensures ∙ ap (λ l. get_or l 0 word) words)
    ∙ single fit.0 word one in
    record {
      spelled = ap Some same ∙ sym fit.1;
      within = IsWithin-word param word fit.0 c.in-SingleWord.is same fit.2;
    }

pub returns-in-FixedArray : goal.returns-in-FixedArray
returns-in-FixedArray c =
    let param = c.args.param.now in
    let fit = Fitting-from_rule param (numbers_of c.args.text.now) c.requires in
    let words : c.in_ok-words.words.items ≡ fit.0 = c.in_ok-words.ensures
    ∙ words_are param (slice_split (λ byte. byte == 44) c.args.text.now) fit.0 fit.1 fit.2 in
    record {
      spelled = ap Some (c.new.ensures ∙ words) ∙ sym fit.1;
      within = IsWithin-array param c.new.result fit.0 c.in-FixedArray.is (c.new.ensures ∙ words) fit.2;
    }
