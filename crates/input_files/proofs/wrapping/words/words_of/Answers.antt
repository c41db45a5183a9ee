use Rattle.std.proofs.Common.{List, ℕ, ◌^◌, ◌<◌, ◌++◌, ap, arith, ◌∙◌}
use Rattle.std.proofs.lemmas.List.Elements.{All-push}
use Rattle.std.specs.Slice.Iter.{chunks_exact_rest}
use Rattle.input_files.proofs.wrapping_lemmas.WordLemmas.{all_taken, bytes_of, one_more}
use Rattle.input_files.proofs.wrapping.words.words_of.Goals as goal

pub words-preserved : goal.words-preserved
words-preserved c =
    let steps = c.in-Some.ensures.steps in
    let before = c.words.invariant in
    let words = c.words.words.items in
    let parts = before.parts ∙ ap (λ (t : List ℕ). bytes_of words ++ t) steps.1.0 in
    rw c.in_ok-push.ensures.items (record {
      parts = one_more c.args.code.now words c.in-Some.word.now (chunks_exact_rest c.next.new.self) c.read_u32.result
          (λ i. omega (arith, c.type_inv.code i)) parts (steps.1.1 ∙ before.size) c.read_u32.ensures;
      size = steps.0 ∙ before.size;
      fit = All-push (λ n. n < 2 ^ 32) words c.read_u32.result before.fit (omega arith);
    })

pub returns-clause-words : goal.returns-clause-words
returns-clause-words c = all_taken c.args.code.now c.words.words.items (chunks_exact_rest c.words.word-iterator)
    c.words.invariant.parts (omega (arith, c.in-None.ensures.steps.1.0, c.words.invariant.size)) c.requires
