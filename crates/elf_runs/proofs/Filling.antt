-- The bytes of words on a stack, one word after another.
use Rattle.std.proofs.Common.{◌≡◌, ◌<◌, ◌≤◌, ◌+◌, ◌-◌, ◌*◌, ◌++◌, ◌∙◌, [], ◌∷◌, ℕ, List, ap, arith, length, map, refl}
use Rattle.std.proofs.Common.{append_assoc, false, get_or, replicate, sym, take, true, w32}
use Rattle.std.proofs.lemmas.Grind.{flat_map-append}
use Rattle.std.proofs.lemmas.List.{length-append, length-map, length-replicate, map_more, take_all}
use Rattle.std.specs.Int.{to_le_bytes}
use Rattle.std.specs.List.{flat_map}
use Rattle.elf_memory.specs.Arguments.{rounded, stack_begin}
use Rattle.elf_memory.specs.Memory.{on_stack, stack_range}
use Rattle.elf_memory.specs.declared.words.Word.{Word}

length_bytes : (words : List ℕ) → length (flat_map (to_le_bytes w32) words) ≡ 4 * length words
length_bytes [] = refl
length_bytes (word ∷ words) =
    length-append (to_le_bytes w32 word) (flat_map (to_le_bytes w32) words)
    ∙ ap (λ n. 4 + n) (length_bytes words)
    ∙ omega arith

all_filled : (size byte : ℕ) (words items : List ℕ) → rounded (4 * length words) ≤ size
    → items ≡ replicate (size - rounded (4 * length words)) byte ++ flat_map (to_le_bytes w32) words
    → take size items ++ replicate (size - length items) byte ≡ on_stack size byte words
all_filled size byte words items fits is =
    let front = replicate (size - rounded (4 * length words)) byte in
    let back = flat_map (to_le_bytes w32) words in
    let first = length-replicate (size - rounded (4 * length words)) byte in
    let second = length_bytes words in
    let both = ap length is ∙ length-append front back in
    let count : length items ≡ size - rounded (4 * length words) + 4 * length words =
    omega (arith, both, first, second) in
    let whole = take_all size items (omega (arith, count, fits)) in
    let left : size - length items ≡ rounded (4 * length words) - 4 * length words = omega (arith, count, fits) in
    rw (whole, left, is, append_assoc) refl

-- the bytes of words, filled up
pub filled : (size byte : ℕ) (f : Word → ℕ) (words : List Word) (i n : ℕ) (items : List ℕ)
    → rounded (4 * length words) ≤ size → length words ≤ i
    → items
    ≡ replicate (size - rounded (4 * length words)) byte ++ flat_map (to_le_bytes w32) (map f (take i words))
    → n ≡ length items → take size items ++ replicate (size - n) byte ≡ on_stack size byte (map f words)
filled size byte f words i n items fits all is counted =
    let every = take_all i words all in
    let same = length-map words f in
    rw counted
    (all_filled size byte (map f words) items (rw same fits)
    (rw same (is ∙ ap (λ some. replicate (size - rounded (4 * length words)) byte
    ++ flat_map (to_le_bytes w32) (map f some)) every)))

-- the bytes of one word more
pub word_more : (front : List ℕ) (f : Word → ℕ) (words : List Word) (i : ℕ) (d : Word) (before after : List ℕ)
    → i < length words → before ≡ front ++ flat_map (to_le_bytes w32) (map f (take i words))
    → after ≡ before ++ to_le_bytes w32 (f (get_or words i d))
    → after ≡ front ++ flat_map (to_le_bytes w32) (map f (take (i + 1) words))
word_more front f words i d before after within is more =
    let done = map f (take i words) in
    let last = f (get_or words i d) in
    let bytes = flat_map (to_le_bytes w32) in
    more
    ∙ ap (λ some. some ++ to_le_bytes w32 last) is
    ∙ append_assoc front (bytes done) (to_le_bytes w32 last)
    ∙ ap (λ some. front ++ some) (sym (ap bytes (map_more f words i d within)
    ∙ flat_map-append (to_le_bytes w32) done (last ∷ [])))

pub stack_is : (size : ℕ) (words : List Word) (bytes unknown : List ℕ)
    → bytes ≡ on_stack size 0 (map (λ word. word.value) words)
    → unknown ≡ on_stack size 255 (map (λ word. word.unknown) words)
    → record {
      address = stack_begin size;
      bytes = bytes;
      unknown = unknown;
      access = record { readable = true; writable = true; executable = false };
    }
    ≡ stack_range size words
stack_is size words bytes unknown is hidden = rw (is, hidden) refl
