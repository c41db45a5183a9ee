use Rattle.std.proofs.Common.{◌++◌, codes}
use Rattle.std.specs.String.{string_bytes}
use Rattle.std.proofs.lemmas.List.{append_assoc}
use Rattle.std.proofs.lemmas.Result.{on_ok_weaker}
use Rattle.listing.proofs.Pieces.{where_ok}
use Rattle.listing.proofs.words.push_line.Goals as goal

pub returns : goal.returns
returns c =
    let before = c.extend_from_slice-2.new.self.items in
    let last = where_ok c.extend_from_slice-3.result c.extend_from_slice-3.new.self.items (before ++ codes "\n") before
    c.extend_from_slice-3.ensures.items in
    let whole = simp (
      c.in_ok-extend_from_slice-2.ensures.items,
      c.as_bytes.ensures.value,
      c.in_ok-extend_from_slice.ensures.items,
      c.as_slice.ensures.value,
      c.head_of_word.ensures,
      append_assoc,
    ) at last in
    on_ok_weaker c.extend_from_slice-3.result
    (λ ended. (string_bytes c.in_ok-text.text, c.in_ok-text.ensures, simp append_assoc ended)) whole
