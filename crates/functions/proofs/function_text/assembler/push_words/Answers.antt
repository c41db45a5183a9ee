use Rattle.std.proofs.Common.{◌≡◌, ℕ, ◌+◌, suc, take, arith, refl, sym, ap, subst, ◌∙◌}
use Rattle.std.specs.Prelude.{slice_index}
use Rattle.std.proofs.Math.Seq.{take-suc}
use Rattle.std.specs.String.{string_bytes}
use Rattle.functions.specs.function_text.AssemblerText.{IsWordLine, next_position, nothing}
use Rattle.functions.proofs.function_text_lemmas.WordLines.{behind_one_more, one_word_more}
use Rattle.functions.proofs.function_text.assembler.push_words.Goals as goal

pub loop-word-init : goal.loop-word-init
loop-word-init c = (rw c.requires nothing, refl)

pub loop-word-preserved : goal.loop-word-preserved
loop-word-preserved c =
    let words = c.args.words.now in
    let name = c.args.function.now.name in
    let i = c.loop-word.word-index in
    let word = slice_index words i in
    let pushed = c.in_ok-push_word.ensures in
    let listed = c.loop-word.invariant in
    let more : i + 1 ≡ suc i = omega arith in
    let told = subst (λ (at : ℕ). IsWordLine c.args.notation name at word pushed.0) listed.1
    (rw c.as_str-name.ensures at pushed.1) in
    rw (more, take-suc words i 0 (omega arith), pushed.2) (
      one_word_more c.args.notation name c.args.start word pushed.0 (take i words) (string_bytes c.loop-word.lines)
          listed.0 told,
      c.next_position-at.ensures ∙ ap (λ (at : ℕ). next_position at) listed.1
          ∙ sym (behind_one_more c.args.start (take i words) word),
    )
