-- The tokens that are left add to the spot so far what all add.
use Rattle.std.proofs.Common.{◌≡◌, drop, fold, map}
use Rattle.tokens.specs.Lexeme.{lexeme}
use Rattle.explanations.specs.habits.Spots.{after_token, spot_around, spot_of}
use Rattle.explanations.proofs.habits.spots.spot_around.Given as goal

abbrev pub invariant-loop-token : goal.invariant-loop-token
invariant-loop-token l =
    fold (after_token l.at) (spot_of l.spot) (map lexeme (drop l.token-index l.tokens))
    ≡ spot_around l.at (map lexeme l.tokens)
