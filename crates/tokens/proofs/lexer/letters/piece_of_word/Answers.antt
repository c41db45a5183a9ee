use Rattle.std.proofs.Common.{sym, ap, ◌∙◌, subst, get_or}
use Rattle.std.specs.Char.{is_ascii_digit}
use Rattle.tokens.specs.declared.lexer.piece.Piece.TheVariants.{Token}
use Rattle.tokens.specs.declared.token.TokenKind.TheVariants.{Keyword as KeywordToken}
use Rattle.tokens.specs.Spelling.{Spells, number, bad_number, keyword, name}
use Rattle.tokens.proofs.TokenNumbers.{number_word, name_word}
use Rattle.tokens.proofs.lexer.letters.piece_of_word.Goals as goal

pub returns-in-Some : goal.returns-in-Some
returns-in-Some c =
    number c.args.word.now c.in-Some.value c.in-Some.suffix
    (number_word c.args.word.now c.requires.some
    (sym (ap (λ l. is_ascii_digit (get_or l 0 0)) c.as_bytes.ensures.value)
    ∙ sym c.is_ascii_digit.ensures.value ∙ c.if-is_ascii_digit.true) c.requires.letters)
    c.in-Some.ensures.found

pub returns-in-None : goal.returns-in-None
returns-in-None c =
    bad_number c.args.word.now
    (number_word c.args.word.now c.requires.some
    (sym (ap (λ l. is_ascii_digit (get_or l 0 0)) c.as_bytes.ensures.value)
    ∙ sym c.is_ascii_digit.ensures.value ∙ c.if-is_ascii_digit.true) c.requires.letters)
    c.in-None.ensures.none

pub returns-in-Some-keyword_of : goal.returns-in-Some-keyword_of
returns-in-Some-keyword_of c =
    subst (Spells (Token (KeywordToken c.in-Some-keyword_of.keyword))) (sym c.in-Some-keyword_of.ensures)
    (keyword c.in-Some-keyword_of.keyword)

pub returns-in-None-keyword_of : goal.returns-in-None-keyword_of
returns-in-None-keyword_of c =
    name c.args.word.now
    (name_word c.args.word.now c.requires.some (sym (ap (λ l. is_ascii_digit (get_or l 0 0)) c.as_bytes.ensures.value)
    ∙ sym c.is_ascii_digit.ensures.value ∙ c.if-is_ascii_digit.false) c.requires.letters)
    c.in-None-keyword_of.ensures
