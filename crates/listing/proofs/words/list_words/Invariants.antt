-- The words so far are listed.
use Rattle.std.proofs.Common.{◌≡◌, ◌+◌, ◌*◌, take}
use Rattle.listing.specs.Code.{ListsCode}
use Rattle.listing.proofs.words.list_words.Given as goal

abbrev pub invariant-loop-word : goal.invariant-loop-word
invariant-loop-word l = record {
  listed : ListsCode l.fn.base (take l.word-index l.words) l.lines.items;
  address : l.address ≡ l.fn.base + 4 * l.word-index;
}
