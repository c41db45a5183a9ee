use Rattle.std.proofs.Common.{◌≡◌, refl, subst, sym}
use Rattle.std.specs.Str.{IsCharBoundary}
use Rattle.std.specs.List.{position_or_len}
use Rattle.tokens.specs.private.Splitting.{is_no_word_byte}
use Rattle.tokens.proofs.TokenBytes.{word_byte_ascii}
use Rattle.tokens.proofs.TokenRuns.{boundary_after, cut_is, splits_at}
use Rattle.tokens.proofs.lexer.letters.split_word.Goals as goal
use Rattle.tokens.proofs.lexer.letters.split_word.Goals.{After-unwrap_or}

-- where the text is cut
cut : (c : After-unwrap_or) → c.unwrap_or.result ≡ position_or_len is_no_word_byte c.args.text.now
cut c = cut_is is_no_word_byte _ _ _ _ _ c.word_end.ensures c.as_bytes.ensures.value refl c.unwrap_or.ensures

pub split_at-requires : goal.split_at-requires
split_at-requires c =
    subst (IsCharBoundary c.args.text.now) (sym (cut c))
    (boundary_after is_no_word_byte c.args.text.now word_byte_ascii c.utf8.text)

pub returns : goal.returns
returns c =
    splits_at is_no_word_byte c.args.text.now _ _ _ (cut (goal.at.returns c).After-unwrap_or) c.split_at.ensures.front
    c.split_at.ensures.back
