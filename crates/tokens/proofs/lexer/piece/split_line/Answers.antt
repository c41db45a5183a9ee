use Rattle.std.proofs.Common.{◌≡◌, refl, subst, sym, arith, eqb-true}
use Rattle.std.specs.Str.{IsCharBoundary}
use Rattle.std.specs.List.{position_or_len}
use Rattle.tokens.specs.Spelling.{is_line_feed}
use Rattle.tokens.proofs.TokenRuns.{boundary_at, cut_is, splits_at}
use Rattle.tokens.proofs.lexer.piece.split_line.Goals as goal
use Rattle.tokens.proofs.lexer.piece.split_line.Goals.{After-unwrap_or}

-- where the text is cut
cut : (c : After-unwrap_or) → c.unwrap_or.result ≡ position_or_len is_line_feed c.args.text.now
cut c = cut_is is_line_feed _ _ _ _ _ c.line_end.ensures c.as_bytes.ensures.value refl c.unwrap_or.ensures

pub split_at-requires : goal.split_at-requires
split_at-requires c =
    subst (IsCharBoundary c.args.text.now) (sym (cut c))
    (boundary_at is_line_feed c.args.text.now (λ b e. let is : b ≡ 10 = eqb-true b 10 e in omega arith))

pub returns : goal.returns
returns c =
    splits_at is_line_feed c.args.text.now _ _ _ (cut (goal.at.returns c).After-unwrap_or) c.split_at.ensures.front
    c.split_at.ensures.back
