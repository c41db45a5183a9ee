use Rattle.std.proofs.Common.{length, is_ok, sym, ap, ◌∙◌, subst, refl, rules, arith, false-eqb, eqb-true}
use Rattle.std.proofs.ResultArms.{chosen}
use Rattle.tokens.specs.Tokens.{BeginsWith, place_after}
use Rattle.tokens.proofs.TokenSteps.{GoesOn, goes_on_past_space, goes_on_past_token, goes_on_to_end}
use Rattle.tokens.proofs.TokenSteps.{goes_on_to_unknown, goes_on_to_bad_number, rest_shorter}
use Rattle.tokens.proofs.lexer.tokens_of.Goals as goal
use Rattle.tokens.proofs.lexer.tokens_of.Goals.{in-Space, in-Token+in_ok-push-in-Token}

pub returns-in_default-clause-tokens : goal.returns-in_default-clause-tokens
returns-in_default-clause-tokens c =
    goes_on_to_unknown c.args.source.now c.pieces.tokens.items c.pieces.place c.pieces.rest.now
    c.pieces.invariant.goes_on (omega (arith, false-eqb _ 0 c.pieces-test.ensures)) c.in_default.ensures.none

pub returns-in-BadNumber-clause-tokens : goal.returns-in-BadNumber-clause-tokens
returns-in-BadNumber-clause-tokens c =
    goes_on_to_bad_number c.args.source.now c.pieces.tokens.items c.pieces.place c.pieces.rest.now
    c.in-Some.spelling.now c.in-Some.others.now c.pieces.invariant.goes_on
    (subst (λ p. BeginsWith c.pieces.rest.now p c.in-Some.spelling.now c.in-Some.others.now) c.in-BadNumber.is
    c.in-Some.ensures.found)

pub pieces-smaller : goal.pieces-smaller
pieces-smaller c =
    let shorter = rest_shorter _ _ _ _ c.in-Some.ensures.found in
    omega (arith, shorter.0, shorter.1)

pub pieces-preserved : goal.pieces-preserved
pieces-preserved c =
    let shorter = rest_shorter _ _ _ _ c.in-Some.ensures.found in
    let bytes = c.as_bytes.ensures.value in
    let same_length = ap length bytes in
    let place_is = c.place_after-place.ensures.value ∙ ap (place_after c.pieces.place) bytes in
    let goes_on : GoesOn c.args.source.now c.match-piece.tokens.items
    (place_after c.pieces.place c.in-Some.spelling.now) c.in-Some.others.now = elim c.match-piece.branch [
      | in-Space w ↦
          subst (λ l. GoesOn c.args.source.now l.items (place_after c.pieces.place c.in-Some.spelling.now)
          c.in-Some.others.now) (sym w.tokens-is)
          (goes_on_past_space c.args.source.now c.pieces.tokens.items c.pieces.place c.pieces.rest.now
          c.in-Some.spelling.now c.in-Some.others.now
          (subst (λ p. BeginsWith c.pieces.rest.now p c.in-Some.spelling.now c.in-Some.others.now) w.in-Space.is
          c.in-Some.ensures.found)
          c.pieces.invariant.goes_on)
      | in-Token+in_ok-push-in-Token w ↦
          let pushed = chosen _ _ _ _ w.push.ensures.items (ap is_ok w.in_ok-push-in-Token.was) in
          subst (λ l. GoesOn c.args.source.now l (place_after c.pieces.place c.in-Some.spelling.now)
          c.in-Some.others.now) (sym (ap (λ v. v.items) w.tokens-is ∙ pushed))
          (goes_on_past_token c.args.source.now c.pieces.tokens.items c.pieces.place c.pieces.rest.now
          c.in-Some.others.now
          (record { kind = w.in-Token.kind; place = c.pieces.place; text = c.in-Some.spelling }) refl
          (subst (λ p. BeginsWith c.pieces.rest.now p c.in-Some.spelling.now c.in-Some.others.now) w.in-Token.is
          c.in-Some.ensures.found)
          c.pieces.invariant.goes_on)
    ] in
    record {
      is_text = search rules;
      goes_on = subst (λ p. GoesOn c.args.source.now c.match-piece.tokens.items p c.in-Some.others.now)
          (sym place_is) goes_on;
      room = omega (arith, shorter.0, same_length);
      line = c.place_after-place.ensures.line;
      column = c.place_after-place.ensures.column;
    }

pub returns-clause-tokens : goal.returns-clause-tokens
returns-clause-tokens c =
    goes_on_to_end c.args.source.now c.pieces.tokens.items c.pieces.place c.pieces.rest.now c.pieces.invariant.goes_on
    (eqb-true _ 0 (sym c.pieces-test.ensures))
