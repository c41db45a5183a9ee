use Rattle.std.proofs.Common.{◌≡◌, ◌+◌, ◌≤◌, length}
use denote.Shadow.{shadow}
use denote.Text.{Utf8}
use Rattle.tokens.proofs.TokenSteps.{GoesOn}
use Rattle.tokens.proofs.lexer.tokens_of.Given as goal

abbrev pub invariant-pieces : goal.invariant-pieces
invariant-pieces l = record {
  is_text : shadow (Utf8 l.rest);
  goes_on : GoesOn l.source l.tokens.items l.place l.rest;
  room : l.place.offset + length l.rest ≡ length l.source;
  line : l.place.line ≤ l.place.offset + 1;
  column : l.place.column ≤ l.place.offset + 1;
}

abbrev pub decreases-pieces : goal.decreases-pieces
decreases-pieces l = length l.rest
