use Rattle.std.proofs.Common.{sym, ap, ◌∙◌, subst, length, take, drop, nat_eq}
use Rattle.std.specs.Prelude.{codes}
use Rattle.std.specs.List.{starts_with}
use Rattle.std.specs.Str.{IsCharBoundary}
use Rattle.tokens.proofs.TokenPieces.{blank_boundary, blank_piece, comment_piece, head_of, no_piece, sign_boundary}
use Rattle.tokens.proofs.TokenPieces.{sign_piece, word_piece, word_some, OnlySigns}
use Rattle.tokens.proofs.TokenShapes.{none_from_all}
use Rattle.tokens.proofs.lexer.piece.split_piece.Goals as goal
use Rattle.tokens.proofs.lexer.piece.split_piece.Goals.{After-first_sign}

pub split_at-requires : goal.split_at-requires
split_at-requires c =
    blank_boundary c.args.text.now c.in_ok-first.field-0.now c.utf8.text
    (head_of _ _ _ _ c.first.ensures.value c.as_bytes.ensures.value c.in_ok-first.was)
    (sym c.is_blank.ensures ∙ c.if-is_blank.true)

pub piece_of_word-requires-clause-letters : goal.piece_of_word-requires-clause-letters
piece_of_word-requires-clause-letters c = none_from_all c.split_word.result.0.now c.split_word.ensures.before

-- what stands at the front is a sign, or nothing
only_signs : (c : After-first_sign) → OnlySigns c.args.text.now c.in_ok-first.field-0.now
only_signs c = record {
  first = head_of _ _ _ _ c.first.ensures.value c.as_bytes.ensures.value c.in_ok-first.was;
  no_blank = sym c.is_blank.ensures ∙ c.if-is_blank.false;
  no_word = sym c.is_word_byte.ensures ∙ c.if-is_word_byte.false;
  no_comment = sym (ap (λ l. starts_with nat_eq l (codes "//")) c.as_bytes-else-is_word_byte.ensures.value)
      ∙ sym c.starts_with.ensures.value ∙ c.if-starts_with.false;
}

pub returns-in_err-sign-clause-none : goal.returns-in_err-sign-clause-none
returns-in_err-sign-clause-none c =
    rw c.from_residual-in_err-sign.ensures
    (no_piece c.args.text.now c.in_ok-first.field-0.now
    (only_signs (goal.at.returns-in_err-sign-clause-none c).After-first_sign) (sym c.first_sign.ensures
    ∙ c.in_err-sign.was))

pub split_at-requires-else-starts_with : goal.split_at-requires-else-starts_with
split_at-requires-else-starts_with c =
    subst (λ n. IsCharBoundary c.args.text.now n) (sym (ap length c.spelling.ensures))
    (sign_boundary c.args.text.now c.in_ok-sign.sign c.utf8.text (sym c.first_sign.ensures ∙ c.in_ok-sign.was))

pub returns-then-is_blank-clause-found : goal.returns-then-is_blank-clause-found
returns-then-is_blank-clause-found c =
    blank_piece c.args.text.now _ _ c.in_ok-first.field-0.now
    (head_of _ _ _ _ c.first.ensures.value c.as_bytes.ensures.value c.in_ok-first.was)
    (sym c.is_blank.ensures ∙ c.if-is_blank.true)
    c.split_at.ensures.front c.split_at.ensures.back

pub returns-then-is_word_byte-clause-found : goal.returns-then-is_word_byte-clause-found
returns-then-is_word_byte-clause-found c =
    word_piece c.args.text.now _ _ _ c.split_word.ensures
    (word_some c.args.text.now _ _ c.in_ok-first.field-0.now
    (head_of _ _ _ _ c.first.ensures.value c.as_bytes.ensures.value c.in_ok-first.was)
    (sym c.is_word_byte.ensures ∙ c.if-is_word_byte.true) c.split_word.ensures)
    c.piece_of_word.ensures

pub returns-then-starts_with-clause-found : goal.returns-then-starts_with-clause-found
returns-then-starts_with-clause-found c =
    comment_piece c.args.text.now _ _
    (sym (ap (λ l. starts_with nat_eq l (codes "//")) c.as_bytes-else-is_word_byte.ensures.value)
    ∙ sym c.starts_with.ensures.value ∙ c.if-starts_with.true)
    c.split_line.ensures

pub returns-in_ok-sign-clause-found : goal.returns-in_ok-sign-clause-found
returns-in_ok-sign-clause-found c =
    sign_piece c.args.text.now _ _ c.in_ok-first.field-0.now c.in_ok-sign.sign
    (only_signs (goal.at.returns-in_ok-sign-clause-found c).After-first_sign)
    (sym c.first_sign.ensures ∙ c.in_ok-sign.was)
    (c.split_at-else-starts_with.ensures.front ∙ ap (λ l. take (length l) c.args.text.now) c.spelling.ensures)
    (c.split_at-else-starts_with.ensures.back ∙ ap (λ l. drop (length l) c.args.text.now) c.spelling.ensures)
