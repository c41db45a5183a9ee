-- Bytes put one after another.
use Rattle.std.proofs.Common.{◌≡◌, ℕ, ◌+◌, List, ◌++◌, length, take, length-append, append_assoc, sym, ◌∙◌, ap, arith}
use Rattle.std.proofs.Common.{Result, Ok, Err, OnOk}
use Rattle.std.specs.Prelude.{if◌then◌else◌}
use Rattle.std.specs.Result.{is_ok}
use Rattle.std.proofs.Math.Seq.{take-append-add}
use Rattle.std.proofs.lemmas.List.{take-append-le}
use Rattle.listing.specs.Below.{GainsPart, Writes, WritesPart}

-- one piece after others
pub put-more : (begun before after pieces piece : List ℕ) → before ≡ begun ++ pieces → after ≡ before ++ piece
    → after ≡ begun ++ (pieces ++ piece)
put-more begun before after pieces piece so_far last =
    last ∙ ap (λ l. l ++ piece) so_far ∙ append_assoc begun pieces piece

-- a part of what comes after these bytes
pub part-at_end : (before now after written piece : List ℕ) → now ≡ before ++ written → GainsPart now after piece
    → GainsPart before after (written ++ piece)
part-at_end before now after written piece so_far part = record {
  count = length written + part.count;
  some_left = omega (arith, length-append written piece, part.some_left);
  added =
      put-more before now after written (take part.count piece) so_far part.added
      ∙ ap (λ l. before ++ l) (sym (take-append-add written piece part.count));
}

-- a part of some bytes is one of more bytes
pub part-of_more : (before after piece rest : List ℕ) → GainsPart before after piece
    → GainsPart before after (piece ++ rest)
part-of_more before after piece rest part = record {
  count = part.count;
  some_left = omega (arith, length-append piece rest, part.some_left);
  added = part.added
      ∙ ap (λ l. before ++ l) (sym (take-append-le part.count piece rest (omega (arith, part.some_left))));
}

-- a part of what comes after these bytes and before others
pub part-inside : (before now after written piece rest : List ℕ) → now ≡ before ++ written → GainsPart now after piece
    → GainsPart before after ((written ++ piece) ++ rest)
part-inside before now after written piece rest so_far part =
    part-of_more before after (written ++ piece) rest (part-at_end before now after written piece so_far part)

-- bytes were put, and then a line behind them
module _ (P Q : List ℕ → Type 0) (line : List ℕ) (joins : (bytes : List ℕ) → P bytes → Q (bytes ++ line))
    (before now after : List ℕ) (so_far : Writes P before now) where
  pub with_line : after ≡ now ++ line → Writes Q before after
  with_line is = record {
    bytes = so_far.bytes ++ line;
    such = joins so_far.bytes so_far.such;
    added = put-more before now after so_far.bytes line so_far.added is;
  }

  pub cut_in_line : GainsPart now after line → WritesPart Q before after
  cut_in_line part = record {
    bytes = so_far.bytes ++ line;
    such = joins so_far.bytes so_far.such;
    part = part-at_end before now after so_far.bytes line so_far.added part;
  }

-- a part of the bytes was put that come before a line
pub cut_before_line : (P Q : List ℕ → Type 0) → ((bytes : List ℕ) → P bytes → (line : List ℕ) × Q (bytes ++ line))
    → (before after : List ℕ) → WritesPart P before after → WritesPart Q before after
cut_before_line P Q joins before after some =
    let whole = joins some.bytes some.such in
    record {
      bytes = some.bytes ++ whole.0;
      such = whole.1;
      part = part-of_more before after some.bytes whole.0 some.part;
    }

-- the bytes after a call that puts more of them or fails, where it did not fail
pub where_ok : {T E : Type 0} (r : Result T E) (after more before : List ℕ)
    → after ≡ (if is_ok r then more else before) → OnOk r (after ≡ more)
where_ok (Ok x) after more before is = is
where_ok (Err e) after more before is = tt
