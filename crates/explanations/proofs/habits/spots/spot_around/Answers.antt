use Rattle.std.proofs.Common.{◌≡◌, ℕ, ◌+◌, ◌<◌, List, ap, drop, fold, get_or, length, map, sym, ◌∙◌}
use Rattle.std.proofs.lemmas.List.{at_drop_all, at_drop_more}
use Rattle.tokens.specs.Lexeme.{Lexeme, lexeme}
use Rattle.explanations.specs.habits.Spots.{after_token, Spot, spot_of}
use Rattle.explanations.proofs.habits.spots.spot_around.Goals as goal

-- one more token
one_more : {X : Type 0} (view : X → Lexeme) (at : ℕ) (ts : List X) (i : ℕ) (t : X) (old new : Spot) → i < length ts
    → new ≡ after_token at old (view (get_or ts i t))
    → fold (after_token at) new (map view (drop (i + 1) ts)) ≡ fold (after_token at) old (map view (drop i ts))
one_more view at ts i t old new less now =
    ap (λ spot. fold (after_token at) spot (map view (drop (i + 1) ts))) now
    ∙ sym (at_drop_more (λ left. fold (after_token at) old (map view left)) ts i t less)

pub loop-token-preserved : goal.loop-token-preserved
loop-token-preserved c =
    let l = c.loop-token in
    one_more lexeme c.args.at c.args.tokens.now l.token-index _ (spot_of l.spot) _ c.loop-token-test.true
    c.after_token-spot.ensures
    ∙ l.invariant

pub returns : goal.returns
returns c =
    let l = c.loop-token in
    sym (at_drop_all (λ left. fold (after_token c.args.at) (spot_of l.spot) (map lexeme left)) c.args.tokens.now
    l.token-index c.loop-token-test.false) ∙ l.invariant
