use Rattle.std.proofs.Common.{◌≡◌, ap, ◌∙◌, ◌++◌, ◌+◌, ◌%◌, ◌^◌, ℕ, List, drop, length, map}
use Rattle.functions.specs.Below.{Instr, word_of}
use Rattle.functions.proofs.function_code_lemmas.DistanceLemmas.{left_first, left_on, words_on}
use Rattle.functions.proofs.function_code.words.push_sections.Goals as goal

pub loop-section-preserved : goal.loop-section-preserved
loop-section-preserved c =
    let image = c.args.image.now in
    let pace = c.args.around.pace in
    let sections = c.args.sections.now in
    let i = c.loop-section.section-index in
    let some = c.loop-section-test.true in
    let held = c.loop-section.invariant in
    let begun = left_first image pace sections i _ some c.loop-section.left held.left in
    let code = c.in_ok-code.ensures (drop (i + 1) sections) begun in
    let pushed = c.in_ok-push_words.ensures
    ∙ ap (λ (xs : List Instr). c.loop-section.words.items ++ map word_of xs) c.as_slice.ensures.value in
    let long : c.len.result ≡ length c.in_ok-code.code.items = search in
    record {
      words = words_on image pace sections i _ some c.args.behind c.loop-section.words.items c.push_words.new.words.items
          _ c.in_ok-code.code.items pushed code held.words;
      left = left_on image pace sections i _ some c.loop-section.left c.wrapped-left.result _ c.in_ok-code.code.items
          held.left code (c.wrapped-left.ensures ∙ ap (λ (n : ℕ). n % 2 ^ 32) long);
    }
