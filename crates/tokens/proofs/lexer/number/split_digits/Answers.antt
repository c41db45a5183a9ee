use Rattle.std.proofs.Common.{◌≡◌, refl, subst, sym, arith, eqb-true}
use Rattle.std.specs.Str.{IsCharBoundary}
use Rattle.std.specs.List.{position_or_len}
use Rattle.tokens.specs.private.Splitting.{is_suffix_letter}
use Rattle.tokens.proofs.TokenRuns.{boundary_at, cut_is, splits_at}
use Rattle.tokens.proofs.lexer.number.split_digits.Goals as goal
use Rattle.tokens.proofs.lexer.number.split_digits.Goals.{After-unwrap_or}

-- where the text is cut
cut : (c : After-unwrap_or) → c.unwrap_or.result ≡ position_or_len is_suffix_letter c.args.word.now
cut c = cut_is is_suffix_letter _ _ _ _ _ c.suffix_at.ensures c.as_bytes.ensures.value refl c.unwrap_or.ensures

pub split_at-requires : goal.split_at-requires
split_at-requires c =
    subst (IsCharBoundary c.args.word.now) (sym (cut c))
    (boundary_at is_suffix_letter c.args.word.now (λ b e. let is : b ≡ 117 = eqb-true b 117 e in omega arith))

pub returns : goal.returns
returns c =
    splits_at is_suffix_letter c.args.word.now _ _ _ (cut (goal.at.returns c).After-unwrap_or) c.split_at.ensures.front
    c.split_at.ensures.back
