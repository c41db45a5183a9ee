-- The machine's answer is the answer to the tokens, and the only one.
use Rattle.std.proofs.Common.{◌≡◌, ℕ, ◌<◌, ◌≤◌, Bool, true, false, List, [], ◌∷◌, ◌++◌, Option, Some, None, refl, sym}
use Rattle.std.proofs.Common.{subst, ap, ◌∙◌, arith, if◌then◌else◌, append_assoc}
use Rattle.std.proofs.lemmas.Bool.Decides.{nat_tests}
use Rattle.std.proofs.lemmas.List.{append-nil}
use Rattle.std.specs.Prelude.{nat_lt}
use Rattle.std.specs.Option.{option_and_then}
use Rattle.syntax.specs.Below.{Nesting, ProgramTree}
use Rattle.syntax.specs.Grammar.{IsProgram, IsBeginning}
use Rattle.tokens.specs.Lexeme.{Lexeme}
use Rattle.tokens.specs.Nesting.{Nest, outside, after, after_all, AreWithin, AreWithinFrom}
use Rattle.tokens.specs.Limits.{nesting_limit}
use Rattle.syntax.specs.Reading.{ParseAnswer, refused, IsParseAnswer, a_program, unexpected, unexpected_end, too_deep}
use Rattle.syntax.specs.Reading.{bad_token, OneAnswerForTokens, OneProgram}
use Rattle.tokens.specs.Tokens.{TokensEnding, ends_at, stops}
use Rattle.syntax.specs.private.Machine.{ParserState, step, at_end, program, run, verdict, token_answer, ending_answer}
use Rattle.syntax.proofs.MachineSound.{and_then_some}
use Rattle.syntax.proofs.MachineSound.{begins_by_run, program_by_run}
use Rattle.syntax.proofs.MachineComplete.{run_program, run_beginning, run_front}

run-append : (front ts : List Lexeme) (s next : ParserState) → run s front ≡ Some next → run s
    (front ++ ts) ≡ run next ts
run-append [] ts s next e = let is : s ≡ next = cc in ap (λ x. run x ts) is
run-append (t ∷ front) ts s next e =
    let w = and_then_some (λ x. run x front) (step s t) next e in
    ap (option_and_then (λ x. run x (front ++ ts))) w.1 ∙ run-append front ts w.0 next w.2

run-one : (s next : ParserState) (t : Lexeme) → step s t ≡ Some next → run s (t ∷ []) ≡ Some next
run-one s next t e = ap (option_and_then (λ x. run x [])) e

run-none : (s : ParserState) (t : Lexeme) → step s t ≡ None → run s (t ∷ []) ≡ None
run-none s t e = ap (option_and_then (λ x. run x [])) e

after_all-append : (front ts : List Lexeme) (nest : Nest)
    → after_all (front ++ ts) nest ≡ after_all ts (after_all front nest)
after_all-append [] ts nest = refl
after_all-append (t ∷ front) ts nest = after_all-append front ts (after t.kind nest)

AreWithin-append : (front ts : List Lexeme) (nest : Nest) → AreWithinFrom nest front
    → AreWithinFrom (after_all front nest) ts → AreWithinFrom nest (front ++ ts)
AreWithin-append [] ts nest h g = g
AreWithin-append (t ∷ front) ts nest h g = (h.0, AreWithin-append front ts (after t.kind nest) h.1 g)

pub lt-true : (n m : ℕ) → nat_lt n m ≡ true → n < m
lt-true n m e = grind (arith, nat_tests)

pub lt-false : (n m : ℕ) → nat_lt n m ≡ false → m ≤ n
lt-false n m e = grind (arith, nat_tests)

true-lt : (n m : ℕ) → n < m → nat_lt n m ≡ true
true-lt n m e = grind (arith, nat_tests)

false-lt : (n m : ℕ) → m ≤ n → nat_lt n m ≡ false
false-lt n m e = grind (arith, nat_tests)

no_step : (front : List Lexeme) (s : ParserState) (t : Lexeme) → run program front ≡ Some s → step s t ≡ None
    → ¬ IsBeginning (front ++ t ∷ [])
no_step front s t e none begins =
    let w = run_beginning (front ++ t ∷ []) begins in
    let same : run program (front ++ t ∷ []) ≡ None = run-append front (t ∷ []) program s e ∙ run-none s t none in
    let absurdity : Some w.0 ≡ None = sym w.1 ∙ same in cc

no_program : (ts : List Lexeme) (s : ParserState) → run program ts ≡ Some s → at_end s ≡ None → (p : ProgramTree)
    → ¬ IsProgram ts p
no_program ts s e none p h =
    let w = run_program ts p h in
    let same : w.0 ≡ s = cc in
    let last : Some p ≡ None = sym w.2 ∙ ap at_end same ∙ none in cc

end_answer : (front : List Lexeme) (s : ParserState) → run program front ≡ Some s → AreWithin front
    → (ending : TokensEnding) (last : Option ProgramTree) → at_end s ≡ last
    → IsParseAnswer front ending (ending_answer ending last)
end_answer front s e within (ends_at place) (Some p) last =
    a_program front place p (program_by_run front s p e last) within
end_answer front s e within (ends_at place) None last =
    unexpected_end front place (begins_by_run front s e) (no_program front s e last) within
end_answer front s e within (stops rule place) last is = bad_token front rule place (begins_by_run front s e) within

deep_answer : (front ts : List Lexeme) (s next : ParserState) (t : Lexeme) (ending : TokensEnding)
    → run program front ≡ Some s
    → AreWithin front → step s t ≡ Some next → (deep : Bool)
    → nat_lt nesting_limit (after t.kind (after_all front outside)).count ≡ deep
    → (AreWithin (front ++ t ∷ [])
    → IsParseAnswer (front ++ t ∷ ts) ending (verdict next (after t.kind (after_all front outside)) ts ending))
    → IsParseAnswer (front ++ t ∷ ts) ending (if deep then refused Nesting t.place
    else verdict next (after t.kind (after_all front outside)) ts ending)
deep_answer front ts s next t ending e within is true deep k =
    too_deep front ts t ending (begins_by_run (front ++ t ∷ []) next (run-append front (t ∷ []) program s e
    ∙ run-one s next t is)) within (lt-true _ _ deep)
deep_answer front ts s next t ending e within is false deep k =
    k (AreWithin-append front (t ∷ []) outside within (lt-false _ _ deep, tt))

step_answer : (front ts : List Lexeme) (s : ParserState) (t : Lexeme) (ending : TokensEnding)
    → run program front ≡ Some s
    → AreWithin front → (o : Option ParserState) → step s t ≡ o
    → ((next : ParserState) → step s t ≡ Some next → AreWithin (front ++ t ∷ [])
    → IsParseAnswer (front ++ t ∷ ts) ending (verdict next (after t.kind (after_all front outside)) ts ending))
    → IsParseAnswer (front ++ t ∷ ts) ending
    (token_answer o t (after t.kind (after_all front outside))
    (λ next. verdict next (after t.kind (after_all front outside)) ts ending))
step_answer front ts s t ending e within None is k =
    unexpected front ts t ending (begins_by_run front s e) (no_step front s t e is) within
step_answer front ts s t ending e within (Some next) is k =
    deep_answer front ts s next t ending e within is
    (nat_lt nesting_limit (after t.kind (after_all front outside)).count) refl (k next is)

-- after a front that the machine took
answer_from : (front : List Lexeme) (s : ParserState) → run program front ≡ Some s → AreWithin front
    → (ts : List Lexeme) (ending : TokensEnding)
    → IsParseAnswer (front ++ ts) ending (verdict s (after_all front outside) ts ending)
answer_from front s e within [] ending =
    subst (λ ts. IsParseAnswer ts ending (verdict s (after_all front outside) [] ending)) (sym (append-nil front))
    (end_answer front s e within ending (at_end s) refl)
answer_from front s e within (t ∷ ts) ending =
    step_answer front ts s t ending e within (step s t) refl
    (λ next is shallow.
    let g = answer_from (front ++ t ∷ []) next (run-append front (t ∷ []) program s e ∙ run-one s next t is) shallow
    ts ending in
    subst (λ nest. IsParseAnswer (front ++ t ∷ ts) ending (verdict next nest ts ending))
    (after_all-append front (t ∷ []) outside)
    (subst (λ xs. IsParseAnswer xs ending (verdict next (after_all (front ++ t ∷ []) outside) ts ending))
    (append_assoc front (t ∷ []) ts) g))

-- the machine's answer is an answer
pub answers : (ts : List Lexeme) (ending : TokensEnding) → IsParseAnswer ts ending (verdict program outside ts ending)
answers ts ending = answer_from [] program refl tt ts ending

passes : (front ts : List Lexeme) (s next : ParserState) (nest : Nest) (ending : TokensEnding) → run s front ≡ Some next
    → AreWithinFrom nest front → verdict s nest (front ++ ts) ending ≡ verdict next (after_all front nest) ts ending
passes [] ts s next nest ending e within = let is : s ≡ next = cc in ap (λ x. verdict x nest ts ending) is
passes (t ∷ front) ts s next nest ending e within =
    let w = and_then_some (λ x. run x front) (step s t) next e in
    let n = after t.kind nest in
    ap (λ o. token_answer o t n (λ x. verdict x n (front ++ ts) ending)) w.1
    ∙ ap (λ b. if b then refused Nesting t.place else verdict w.0 n (front ++ ts) ending)
    (false-lt nesting_limit n.count within.0)
    ∙ passes front ts w.0 next n ending w.2 within.1

passes-all : (ts : List Lexeme) (s next : ParserState) (nest : Nest) (ending : TokensEnding) → run s ts ≡ Some next
    → AreWithinFrom nest ts → verdict s nest ts ending ≡ ending_answer ending (at_end next)
passes-all ts s next nest ending e within = ap (λ xs. verdict s nest xs ending) (sym (append-nil ts))
    ∙ passes ts [] s next nest ending e within

none_from : {A : Type 0} (o : Option A) → ((x : A) → ¬ (o ≡ Some x)) → o ≡ None
none_from None h = refl
none_from (Some x) h = absurd (h x refl)

-- each answer is the machine's
pub answered : (ts : List Lexeme) (ending : TokensEnding) (a : ParseAnswer) → IsParseAnswer ts ending a
    → a ≡ verdict program outside ts ending
answered _ _ _ (a_program tokens end tree h within) =
    let w = run_program tokens tree h in
    sym (passes-all tokens program w.0 outside (ends_at end) w.1 within ∙ ap (ending_answer (ends_at end)) w.2)
answered _ _ _ (unexpected front rest t ending begins not within) =
    let w = run_beginning front begins in
    let none = none_from (step w.0 t)
    (λ next is. not (begins_by_run (front ++ t ∷ []) next (run-append front (t ∷ []) program w.0 w.1
    ∙ run-one w.0 next t is))) in
    let n = after t.kind (after_all front outside) in
    sym (passes front (t ∷ rest) program w.0 outside ending w.1 within
    ∙ ap (λ o. token_answer o t n (λ x. verdict x n rest ending)) none)
answered _ _ _ (unexpected_end tokens end begins not within) =
    let w = run_beginning tokens begins in
    let none = none_from (at_end w.0) (λ p is. not p (program_by_run tokens w.0 p w.1 is)) in
    sym (passes-all tokens program w.0 outside (ends_at end) w.1 within ∙ ap (ending_answer (ends_at end)) none)
answered _ _ _ (too_deep front rest t ending begins within deep) =
    let v = run_beginning (front ++ t ∷ []) begins in
    let w = run_front front (t ∷ []) program v.0 v.1 in
    let u = and_then_some (λ x. run x []) (step w.0 t) v.0 (sym (run-append front (t ∷ []) program w.0 w.1) ∙ v.1) in
    let n = after t.kind (after_all front outside) in
    sym (passes front (t ∷ rest) program w.0 outside ending w.1 within
    ∙ ap (λ o. token_answer o t n (λ x. verdict x n rest ending)) u.1
    ∙ ap (λ b. if b then refused Nesting t.place else verdict u.0 n rest ending) (true-lt nesting_limit n.count deep))
answered _ _ _ (bad_token tokens rule place begins within) =
    let w = run_beginning tokens begins in
    sym (passes-all tokens program w.0 outside (stops rule place) w.1 within)

-- tokens have one answer
pub one_answer_for_tokens : OneAnswerForTokens
one_answer_for_tokens tokens ending one two h g = answered tokens ending one h ∙ sym (answered tokens ending two g)

-- tokens are one program at most
pub one_program : OneProgram
one_program tokens one two h g =
    let v = run_program tokens one h in
    let w = run_program tokens two g in
    let same : v.0 ≡ w.0 = cc in
    let is : Some one ≡ Some two = sym v.2 ∙ ap at_end same ∙ w.2 in cc
