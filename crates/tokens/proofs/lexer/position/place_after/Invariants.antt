use Rattle.std.proofs.Common.{◌≡◌, ◌+◌, ◌≤◌, drop}
use Rattle.tokens.specs.Tokens.{place_after}
use Rattle.tokens.proofs.lexer.position.place_after.Given as goal

abbrev pub invariant-loop-byte : goal.invariant-loop-byte
invariant-loop-byte l = record {
  value : place_after l.fn.from l.bytes ≡ place_after l.place (drop l.byte-index l.bytes);
  offset : l.place.offset ≡ l.fn.from.offset + l.byte-index;
  line : l.place.line ≤ l.place.offset + 1;
  column : l.place.column ≤ l.place.offset + 1;
}
