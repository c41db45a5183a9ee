use Rattle.std.proofs.Common.{◌≡◌, ◌<◌, ◌^◌, ◌++◌, All}
use Rattle.std.specs.Slice.Iter.{chunks_exact_rest, chunks_exact_size}
use Rattle.input_files.proofs.wrapping_lemmas.WordLemmas.{bytes_of}
use Rattle.input_files.proofs.wrapping.words.words_of.Given as goal

abbrev pub invariant-words : goal.invariant-words
invariant-words l = record {
  parts : l.code ≡ bytes_of l.words.items ++ chunks_exact_rest l.word-iterator;
  size : chunks_exact_size l.word-iterator ≡ 4;
  fit : All (λ word. word < 2 ^ 32) l.words.items;
}
