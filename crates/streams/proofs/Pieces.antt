-- Bytes that move in pieces, one after another.
use Rattle.std.proofs.Common.{◌≡◌, ℕ, ◌+◌, ◌-◌, ◌≤◌, ◌++◌, List, length, take, drop, arith, append_assoc, sym, ◌∙◌}
use Rattle.std.proofs.Common.{ap, subst, length-drop}
use Rattle.std.proofs.Math.Seq.{take-add, drop-append-add, take-append_seam}
use Rattle.std.proofs.lemmas.List.{drop-drop, take-append-drop, take_all}
use Rattle.streams.specs.Streams.{LosesPart}

-- a slice up to the end is what is left after its beginning
pub take-rest : (bytes : List ℕ) (m : ℕ) → take (length bytes - m) (drop m bytes) ≡ drop m bytes
take-rest bytes m = take_all (length bytes - m) (drop m bytes) (omega (arith, length-drop m bytes))

-- what went out, after one more piece of the bytes
pub taken-more :
    (bytes before between after : List ℕ) (m n : ℕ) → between ≡ before ++ take m bytes
    → after ≡ between ++ take n (take (length bytes - m) (drop m bytes))
    → after ≡ before ++ take (m + n) bytes
taken-more bytes before between after m n first second =
    let rest = ap (λ (l : List ℕ). between ++ take n l) (take-rest bytes m) in
    let joined = append_assoc before (take m bytes) (take n (drop m bytes)) in
    let split = take-add m n bytes in
    let front = ap (λ (l : List ℕ). l ++ take n (drop m bytes)) first in
    cc

-- what is to come, after one more piece of it was copied to the beginning of a buffer
pub handed-piece :
    (bytes all piece behind : List ℕ) (read count : ℕ) → drop read bytes ≡ all
    → piece ≡ take count all → length piece ≡ count
    → all ≡ take count (piece ++ behind) ++ drop (read + count) bytes
handed-piece bytes all piece behind read count here copied counted =
    let front : take count (piece ++ behind) ≡ piece =
    subst (λ (n : ℕ). take n (piece ++ behind) ≡ piece) counted (take-append_seam piece behind) in
    let rest : drop count all ≡ drop (read + count) bytes =
    ap (drop count) (sym here) ∙ drop-drop count read bytes in
    let whole : take count all ++ drop count all ≡ all = take-append-drop count all in
    rw (front, copied, ← rest) (sym whole)

-- where a front was already taken from it, what was lost is the front and the part
pub LosesPart-append :
    (front before after : List ℕ) (limit : ℕ) → length front ≤ limit
    → LosesPart before after (limit - length front) → LosesPart (front ++ before) after limit
LosesPart-append front before after limit fits part = record {
  count = length front + part.count;
  within = omega arith;
  left = part.left ∙ sym (drop-append-add front before part.count);
}
