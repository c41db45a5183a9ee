-- The machine reads each expression, each list of expressions, each call and each right side, to its tree.
use Rattle.std.proofs.Common.{◌≡◌, ℕ, ◌+◌, ◌<◌, ◌≤◌, false, List, [], ◌∷◌, ◌++◌, Option, Some, None, refl}
use Rattle.std.proofs.Common.{inl, inr, sym, subst, ap, ◌∙◌, arith, if◌then◌else◌, append_assoc}
use Rattle.std.proofs.lemmas.Bool.{cases_Bool}
use Rattle.std.proofs.lemmas.Bool.Decides.{nat_tests}
use Rattle.std.proofs.lemmas.List.{append-nil}
use Rattle.std.proofs.lemmas.Option.{same_Some}
use Rattle.std.specs.Prelude.{nat_le}
use Rattle.std.specs.Option.{option_and_then}
use Rattle.syntax.specs.Below.{BinaryOperator, ExprTree, Kind, Label, RightTree}
use Rattle.tokens.specs.declared.token.TokenKind.{TokenKind}
use Rattle.tokens.specs.declared.token.TokenKind.TheVariants as token
use Rattle.tokens.specs.declared.token.Sign.TheVariants.{RotateLeft}
use Rattle.syntax.specs.Grammar.{operator_of, prefix_of, conversion_of, level_of, left_level_of, label_of, word_of}
use Rattle.syntax.specs.Grammar.{length_of, amount_of, ParsesExprAt, a_number, a_true, a_false, a_name, an_element}
use Rattle.syntax.specs.Grammar.{in_brackets, a_conversion, a_select, a_prefix, a_rotation, a_binary, ParsesMoreExprs}
use Rattle.syntax.specs.Grammar.{no_more, one_more, ParsesSomeExprs, some_exprs as some_exprs_rule, ParsesArguments}
use Rattle.syntax.specs.Grammar.{no_arguments, some_arguments, a_call, ParsesRightSide, a_call_value, a_value}
use Rattle.syntax.specs.Grammar.{ParsesFirstValues, no_values, some_values}
use Rattle.tokens.specs.Lexeme.{Lexeme}
use Rattle.language.specs.Tree as tree
use Rattle.tokens.specs.declared.operators.OperandStart.{OperandStart}
use Rattle.tokens.specs.declared.operators.OperandStart.TheVariants.{Name as by_name}
use Rattle.tokens.specs.declared.operators.Link.{Link}
use Rattle.tokens.specs.declared.operators.Link.TheVariants.{Operator as by_operator, Rotation as by_rotation}
use Rattle.syntax.specs.private.Machine.{ParserState, one, either, a_label, a_kind, a_length, an_amount, expr, more}
use Rattle.syntax.specs.private.Machine.{more_exprs, fits, begins_of, link_of, link_level, link_left_level}
use Rattle.syntax.specs.private.Machine.{some_exprs, arguments, operand, linked, right, right_end, first_values}
use Rattle.syntax.specs.private.Machine.{within, joined, step, run}
use Rattle.syntax.proofs.MachineKinds.{kind-fits, fits-kind, Bars, prefix-begins, conversion-begins, operator-links}
use Rattle.syntax.proofs.MachineKinds.{weak_level, left_levels, unlike}
use Rattle.syntax.proofs.MachineSteps.{one-step, either-step, label-step, kind-step, length-step, amount-step}
use Rattle.syntax.proofs.MachineSteps.{sign-step, operand-step, after_exprs}
use Rattle.tokens.specs.declared.token.Sign.TheVariants as sign

-- from a state, before some tokens, the machine comes to another one, before the rest
pub record ParserMoves (s : ParserState) (ts : List Lexeme) (last : ParserState) (rest : List Lexeme) : Type 0 where
  pub same : run s ts ≡ run last rest

pub stays : {s : ParserState} {ts : List Lexeme} → ParserMoves s ts s ts
stays = record { same = refl }

pub step-moves : {s next last : ParserState} {t : Lexeme} {ts rest : List Lexeme} → step s t ≡ Some next
    → ParserMoves next ts last rest → ParserMoves s (t ∷ ts) last rest
step-moves {ts = ts} e h = record { same = ap (option_and_then (λ n. run n ts)) e ∙ h.same }

-- some token stands next
abbrev pub IsSome : List Lexeme → Type 0
IsSome [] = ⊥
IsSome (t ∷ ts) = Unit {0}

-- a state may be taken for one that steps as it does
pub alike-moves : {s last : ParserState} {rest : List Lexeme} (other : ParserState) (ts : List Lexeme) → IsSome ts
    → ((t : Lexeme) → step s t ≡ step other t) → ParserMoves other ts last rest → ParserMoves s ts last rest
alike-moves other [] some e h = absurd some
alike-moves other (t ∷ ts) some e h = record { same = ap (option_and_then (λ n. run n ts)) (e t) ∙ h.same }

-- such a token stands next, but not of this kind
abbrev pub Lacks : TokenKind → List Lexeme → Type 0
Lacks what [] = ⊥
Lacks what (t ∷ ts) = fits what t.kind ≡ false

pub lacks-some : (what : TokenKind) (ts : List Lexeme) → Lacks what ts → IsSome ts
lacks-some what [] lacks = lacks
lacks-some what (t ∷ ts) lacks = tt

pub one-moves : {what : TokenKind} {k : Lexeme → ParserState} {last : ParserState} {t : Lexeme} {ts rest : List Lexeme}
    → t.kind ≡ what → ParserMoves (k t) ts last rest → ParserMoves (one what k) (t ∷ ts) last rest
one-moves {what} {k} {t = t} is h = step-moves (one-step what k t (fits-kind what t.kind is)) h

pub either-moves : {what : TokenKind} {next : Lexeme → ParserState} {other last : ParserState} {t : Lexeme}
    {ts rest : List Lexeme} → t.kind ≡ what → ParserMoves (next t) ts last rest
    → ParserMoves (either what next other) (t ∷ ts) last rest
either-moves {what} {next} {other} {t = t} is h =
    step-moves (either-step what next other t (fits-kind what t.kind is)) h

pub other-moves : {what : TokenKind} {next : Lexeme → ParserState} {other last : ParserState} {ts rest : List Lexeme}
    → Lacks what ts → ParserMoves other ts last rest → ParserMoves (either what next other) ts last rest
other-moves {ts = []} lacks h = absurd lacks
other-moves {next = next} {other} {ts = t ∷ ts} lacks h = record {
  same = ap (λ b. option_and_then (λ n. run n ts) (if b then Some (next t) else step other t)) lacks ∙ h.same;
}

pub label-moves : {k : Label → ParserState} {last : ParserState} {t : Lexeme} {ts rest : List Lexeme} {label : Label}
    → label_of t.kind ≡ Some label → ParserMoves (k label) ts last rest → ParserMoves (a_label k) (t ∷ ts) last rest
label-moves {k} {t = t} {label = label} is h = step-moves (label-step k t label is) h

pub kind-moves : {k : Kind → ParserState} {last : ParserState} {t : Lexeme} {ts rest : List Lexeme} {kind : Kind}
    → word_of t.kind ≡ Some kind → ParserMoves (k kind) ts last rest → ParserMoves (a_kind k) (t ∷ ts) last rest
kind-moves {k} {t = t} {kind = kind} is h = step-moves (kind-step k t kind is) h

pub length-moves : {k : ℕ → ParserState} {last : ParserState} {t : Lexeme} {ts rest : List Lexeme} {n : ℕ}
    → length_of t.kind ≡ Some n → ParserMoves (k n) ts last rest → ParserMoves (a_length k) (t ∷ ts) last rest
length-moves {k} {t = t} {n = n} is h = step-moves (length-step k t n is) h

amount-moves : {k : ℕ → ParserState} {last : ParserState} {t : Lexeme} {ts rest : List Lexeme} {n : ℕ}
    → amount_of t.kind ≡ Some n → ParserMoves (k n) ts last rest → ParserMoves (an_amount k) (t ∷ ts) last rest
amount-moves {k} {t = t} {n = n} is h = step-moves (amount-step k t n is) h

begins-moves : {level : ℕ} {k : ExprTree → ParserState} {last : ParserState} {t : Lexeme} {ts rest : List Lexeme}
    {b : OperandStart}
    → begins_of t.kind ≡ Some b → ParserMoves (operand b t (λ e. more level 11 e k)) ts last rest
    → ParserMoves (expr level k) (t ∷ ts) last rest
begins-moves {level} {k} {t = t} {b = b} is h = step-moves (operand-step level k t b is) h

link-moves : {level top : ℕ} {left : ExprTree} {k : ExprTree → ParserState} {last : ParserState} {t : Lexeme}
    {ts rest : List Lexeme} (link : Link) → link_of t.kind ≡ Some link → level ≤ link_level link
    → link_left_level link ≤ top → ParserMoves (linked link t.place level left k) ts last rest
    → ParserMoves (more level top left k) (t ∷ ts) last rest
link-moves {level} {top} {left} {k} {t = t} link is low high h =
    step-moves (sign-step level top left k t link is low high) h

-- no opening bracket, and no sign that binds at the level or stronger
abbrev StopsAt : ℕ → TokenKind → Type 0
StopsAt level kind = Bars kind × ((link : Link) → link_of kind ≡ Some link → link_level link < level)

-- such a token stands next
abbrev pub Stops : ℕ → List Lexeme → Type 0
Stops level [] = ⊥
Stops level (t ∷ ts) = StopsAt level t.kind

-- a kind of token that is no opening bracket and no sign between operands
abbrev pub Closes : TokenKind → Type 0
Closes what = Bars what × (link_of what ≡ None)

closes-stops : {what kind : TokenKind} {level : ℕ} → Closes what → kind ≡ what → StopsAt level kind
closes-stops closes is =
    (subst Bars (sym is) closes.0, λ link e. let f = ap link_of is in let g = closes.1 in cc)

stops-lacks-square : (level : ℕ) (ts : List Lexeme) → Stops level ts → Lacks (token.Sign sign.OpenSquare) ts
stops-lacks-square level [] h = absurd h
stops-lacks-square level (t ∷ ts) h = h.0.0

stops-lacks-round : (level : ℕ) (ts : List Lexeme) → Stops level ts → Lacks (token.Sign sign.OpenRound) ts
stops-lacks-round level [] h = absurd h
stops-lacks-round level (t ∷ ts) h = h.0.1

stops-more : (low high : ℕ) (rest : List Lexeme) → low ≤ high → Stops low rest → Stops high rest
stops-more low high [] le h = h
stops-more low high (t ∷ ts) le h = (h.0, λ link e. let lt = h.1 link e in omega arith)

-- no sign between operands binds as strongly as one before an operand
stops-ten : (level : ℕ) (rest : List Lexeme) → Stops level rest → Stops 10 rest
stops-ten level [] h = h
stops-ten level (t ∷ ts) h = (h.0, λ link e. weak_level link)

not_le : (level n : ℕ) → n < level → nat_le level n ≡ false
not_le level n lt = grind (arith, nat_tests)

within_none : (level top : ℕ) (o : Option Link) → ((link : Link) → o ≡ Some link → link_level link < level)
    → within level top o ≡ None
within_none level top None h = refl
within_none level top (Some link) h = let e = not_le level (link_level link) (h link refl) in rw e

-- an expression that is complete makes way for what may stand after it
stops-moves : {level top : ℕ} {left : ExprTree} {k : ExprTree → ParserState} {last : ParserState} (ts : List Lexeme)
    {rest : List Lexeme} → Stops level ts → ParserMoves (k left) ts last rest → ParserMoves
    (more level top left k) ts last rest
stops-moves [] stops h = absurd stops
stops-moves {level} {top} {left} {k} (t ∷ ts) stops h = record {
  same = ap (λ o. option_and_then (λ n. run n ts) (joined o t.place level left k (step (k left) t)))
      (within_none level top (link_of t.kind) stops.1) ∙ h.same;
}

-- a sign between operands stops an expression that binds more strongly
operator-stops : (o : BinaryOperator) (kind : TokenKind) (level : ℕ) → operator_of kind ≡ Some o
    → level_of o < level → StopsAt level kind
operator-stops o kind level is lt = (
  (unlike operator_of (token.Sign sign.OpenSquare) refl is, unlike operator_of (token.Sign sign.OpenRound) refl is),
  λ link e. let same : link ≡ by_operator o = same_Some _ _ (sym e ∙ operator-links kind o is) in rw same lt,
)

rotation-stops : (kind : TokenKind) (level : ℕ) → kind ≡ token.Sign RotateLeft → 7 < level → StopsAt level kind
rotation-stops kind level is lt = (
  subst Bars (sym is) (refl, refl),
  λ link e. let same : link ≡ by_rotation = same_Some _ _ (sym e ∙ ap link_of is) in rw same lt,
)

-- after an expression, the token that ends it
closed : {what : TokenKind} {top : ℕ} {e : ExprTree} {k : ExprTree → ParserState} {last : ParserState} {t : Lexeme}
    {ts rest : List Lexeme} → Closes what → t.kind ≡ what → ParserMoves (k e) ts last rest
    → ParserMoves (more 1 top e (λ x. one what (λ _. k x))) (t ∷ ts) last rest
closed closes is h = stops-moves _ (closes-stops {level = 1} closes is) (one-moves is h)

-- the machine reads an expression, and may go on with signs that bind less strongly
reads-expr : {level low : ℕ} {ts tail : List Lexeme} {e : ExprTree} {k : ExprTree → ParserState} {last : ParserState}
    {rest : List Lexeme} → ParsesExprAt level ts e tail → level ≤ 10 → Stops (level + 1) tail → low ≤ level
    → ((top : ℕ) → level ≤ top → ParserMoves (more low top e k) tail last rest) → ParserMoves (expr low k) ts last rest
reads-expr (a_number is) small stops le h = begins-moves (ap begins_of is) (h 11 (omega arith))
reads-expr (a_true is) small stops le h = begins-moves (ap begins_of is) (h 11 (omega arith))
reads-expr (a_false is) small stops le h = begins-moves (ap begins_of is) (h 11 (omega arith))
reads-expr (a_name {level} {rest = rest} is) small stops le h =
    begins-moves (ap begins_of is) (other-moves (stops-lacks-square (level + 1) rest stops) (h 11 (omega arith)))
reads-expr (an_element is opens e closes) small stops le h =
    begins-moves (ap begins_of is)
    (either-moves opens
    (reads-expr e (omega arith) (closes-stops ((refl, refl), refl) closes) (omega arith)
    (λ top _. closed ((refl, refl), refl) closes (h 11 (omega arith)))))
reads-expr (in_brackets opens e closes) small stops le h =
    begins-moves (ap begins_of opens)
    (reads-expr e (omega arith) (closes-stops ((refl, refl), refl) closes) (omega arith)
    (λ top _. closed ((refl, refl), refl) closes (h 11 (omega arith))))
reads-expr (a_conversion is opens e closes) small stops le h =
    begins-moves (conversion-begins _ _ is)
    (one-moves opens
    (reads-expr e (omega arith) (closes-stops ((refl, refl), refl) closes) (omega arith)
    (λ top _. closed ((refl, refl), refl) closes (h 11 (omega arith)))))
reads-expr (a_select is opens in_a comma in_b comma' in_c closes) small stops le h =
    begins-moves (ap begins_of is)
    (one-moves opens
    (reads-expr in_a (omega arith) (closes-stops ((refl, refl), refl) comma) (omega arith)
    (λ top _. closed ((refl, refl), refl) comma
    (reads-expr in_b (omega arith) (closes-stops ((refl, refl), refl) comma') (omega arith)
    (λ top _. closed ((refl, refl), refl) comma'
    (reads-expr in_c (omega arith) (closes-stops ((refl, refl), refl) closes) (omega arith)
    (λ top _. closed ((refl, refl), refl) closes (h 11 (omega arith)))))))))
reads-expr (a_prefix {level} {rest = rest} is e) small stops le h =
    begins-moves (prefix-begins _ _ is)
    (reads-expr e (omega arith) (stops-more (level + 1) 11 rest (omega arith) stops) (omega arith)
    (λ top _. stops-moves rest (stops-ten (level + 1) rest stops) (h 11 (omega arith))))
reads-expr (a_rotation {t = t} is at e is_amount) small stops le h =
    reads-expr e (omega arith) (rotation-stops t.kind 8 is (omega arith)) (omega arith)
    (λ top high. link-moves by_rotation (ap link_of is) (omega arith) high (amount-moves is_amount (h 7 at)))
reads-expr (a_binary {level} {t} {operator = o} {rest = rest} is at in_left in_right) small stops le h =
    let levels = left_levels o in
    reads-expr in_left (omega arith) (operator-stops o t.kind (left_level_of o + 1) is (omega arith)) (omega arith)
    (λ top high.
    link-moves (by_operator o) (operator-links t.kind o is) (omega arith) high
    (reads-expr in_right (omega arith) (stops-more (level + 1) (level_of o + 1 + 1) rest (omega arith) stops)
    (omega arith)
    (λ top' _.
    stops-moves rest (stops-more (level + 1) (level_of o + 1) rest (omega arith) stops) (h (level_of o) at))))

expr-moves : {ts tail rest : List Lexeme} {e : ExprTree} {k : ExprTree → ParserState} {last : ParserState}
    → ParsesExprAt 1 ts e tail
    → Stops 1 tail → ParserMoves (k e) tail last rest → ParserMoves (expr 1 k) ts last rest
expr-moves {tail = tail} is stops h =
    reads-expr is (omega arith) (stops-more 1 2 tail (omega arith) stops) (omega arith)
    (λ top _. stops-moves tail stops h)

-- an expression, and a token that ends it
pub expr-one-moves : {what : TokenKind} {ts tail rest : List Lexeme} {t : Lexeme} {e : ExprTree}
    {k : ExprTree → ParserState} {last : ParserState} → Closes what → ParsesExprAt 1 ts e (t ∷ tail) → t.kind ≡ what
    → ParserMoves (k e) tail last rest → ParserMoves (expr 1 (λ x. one what (λ _. k x))) ts last rest
expr-one-moves closes in_e is h = expr-moves in_e (closes-stops closes is) (one-moves is h)

-- a list of expressions, and what ends it
more-stops : {end : TokenKind} {ts rest : List Lexeme} {es : List ExprTree} → Closes end
    → ParsesMoreExprs end ts es rest
    → Stops 1 ts
more-stops closes (no_more is) = closes-stops closes is
more-stops closes (one_more is in_e in_more) = closes-stops ((refl, refl), refl) is

more-moves : {end : TokenKind} {ts tail rest : List Lexeme} {fs : List ExprTree} {last : ParserState}
    (es : List ExprTree) (k : List ExprTree → ParserState) → Closes end → fits (token.Sign sign.Comma) end ≡ false
    → ParsesMoreExprs end ts fs tail → ParserMoves (k (es ++ fs)) tail last rest → ParserMoves
    (more_exprs end es k) ts last rest
more-moves {end} es k closes other (no_more is) h =
    alike-moves (after_exprs end es k) _ tt (λ t. refl)
    (other-moves (ap (fits (token.Sign sign.Comma)) is ∙ other) (one-moves is (rw append-nil at h)))
more-moves {end} es k closes other (one_more {tree = e} is in_e in_more) h =
    alike-moves (after_exprs end es k) _ tt (λ t. refl)
    (either-moves is
    (expr-moves in_e (more-stops closes in_more)
    (more-moves (es ++ e ∷ []) k closes other in_more (rw append_assoc h))))

some-moves : {end : TokenKind} {ts tail rest : List Lexeme} {es : List ExprTree} {last : ParserState}
    (k : List ExprTree → ParserState) → Closes end → fits (token.Sign sign.Comma) end ≡ false
    → ParsesSomeExprs end ts es tail
    → ParserMoves (k es) tail last rest → ParserMoves (some_exprs end k) ts last rest
some-moves k closes other (some_exprs_rule {tree = e} in_e in_more) h =
    expr-moves in_e (more-stops closes in_more) (more-moves (e ∷ []) k closes other in_more h)

-- the first token begins an operand, and no opening bracket follows a name that stands first
abbrev Front : List Lexeme → Type 0
Front [] = ⊥
Front (t ∷ ts) = (b : OperandStart) × (begins_of t.kind ≡ Some b)
    × (t.kind ≡ token.Name → Lacks (token.Sign sign.OpenRound) ts)

front : {level : ℕ} {ts rest : List Lexeme} {e : ExprTree} → ParsesExprAt level ts e rest
    → Lacks (token.Sign sign.OpenRound) rest → Front ts
front (a_number is) h = (_, ap begins_of is, λ e. let f = sym is ∙ e in cc)
front (a_true is) h = (_, ap begins_of is, λ e. cc)
front (a_false is) h = (_, ap begins_of is, λ e. cc)
front (a_name is) h = (_, ap begins_of is, λ e. h)
front (an_element is opens in_e closes) h = (_, ap begins_of is, λ e. ap (fits (token.Sign sign.OpenRound)) opens)
front (in_brackets opens in_e closes) h = (_, ap begins_of opens, λ e. cc)
front (a_conversion is opens in_e closes) h = (_, conversion-begins _ _ is, λ e. let f = ap conversion_of e in cc)
front (a_select is opens in_a comma in_b comma' in_c closes) h = (_, ap begins_of is, λ e. cc)
front (a_prefix is in_e) h = (_, prefix-begins _ _ is, λ e. let f = ap prefix_of e in cc)
front (a_rotation is at in_e is_amount) h = front in_e (ap (fits (token.Sign sign.OpenRound)) is)
front (a_binary is at in_left in_right) h = front in_left (unlike operator_of (token.Sign sign.OpenRound) refl is)

front-lacks : (ts : List Lexeme) → Front ts → Lacks (token.Sign sign.CloseRound) ts
front-lacks [] h = absurd h
front-lacks (t ∷ ts) h = unlike begins_of (token.Sign sign.CloseRound) refl h.1

some-lacks : {end : TokenKind} {rest : List Lexeme} {es : List ExprTree} (ts : List Lexeme) → Closes end
    → ParsesSomeExprs end ts es rest → Lacks (token.Sign sign.CloseRound) ts
some-lacks ts closes (some_exprs_rule {second = second} in_e in_more) =
    front-lacks ts (front in_e (stops-lacks-round 1 second (more-stops closes in_more)))

-- arguments, after their opening bracket
pub arguments-moves : {ts tail rest : List Lexeme} {es : List ExprTree} {last : ParserState}
    (k : List ExprTree → ParserState)
    → ParsesArguments ts es tail → ParserMoves (k es) tail last rest → ParserMoves (arguments k) ts last rest
arguments-moves k (no_arguments is) h = either-moves is h
arguments-moves k (some_arguments {list} is) h =
    other-moves (some-lacks list ((refl, refl), refl) is) (some-moves k ((refl, refl), refl) refl is h)

-- a right side that is an expression
right-expr : {last : ParserState} {rest : List Lexeme} (ts : List Lexeme) (k : RightTree → ParserState) → Front ts
    → ParserMoves (expr 1 (λ e. k (tree.computed e))) ts last rest → ParserMoves (right k) ts last rest
right-expr [] k front h = absurd front
right-expr (t ∷ ts) k front h = elim (cases_Bool (fits token.Name t.kind)) [
  | inl e ↦
      let is = kind-fits token.Name t.kind e in
      let begun = operand-step 1 (λ e. k (tree.computed e)) t by_name (ap begins_of is) in
      either-moves is (other-moves (front.2 is) (record {
        same = sym (ap (option_and_then (λ n. run n ts)) begun) ∙ h.same;
      }))
  | inr e ↦ other-moves e h
]

right-moves : {ts tail rest : List Lexeme} {r : RightTree} {last : ParserState} (k : RightTree → ParserState)
    → ParsesRightSide ts r tail → Stops 1 tail → ParserMoves (k r) tail last rest → ParserMoves (right k) ts last rest
right-moves k (a_call_value (a_call {t} is opens in_list)) stops h =
    either-moves is (either-moves opens (arguments-moves (λ es. k (tree.called (record {
      place = t.place;
      name = t.text;
      arguments = es;
    }))) in_list h))
right-moves k (a_value {list} {rest} in_e) stops h =
    right-expr list k (front in_e (stops-lacks-round 1 rest stops)) (expr-moves in_e stops h)

pub right-end-moves : {ts tail rest : List Lexeme} {r : RightTree} {semicolon : Lexeme} {last : ParserState}
    (k : RightTree → ParserState) → ParsesRightSide ts r (semicolon ∷ tail) → semicolon.kind ≡ token.Sign sign.Semicolon
    → ParserMoves (k r) tail last rest → ParserMoves (right_end k) ts last rest
right-end-moves k in_right ends h =
    right-moves (λ r. one (token.Sign sign.Semicolon) (λ _. k r)) in_right
    (closes-stops ((refl, refl), refl) ends) (one-moves ends h)

pub values-moves : {ts tail rest : List Lexeme} {vs : Option (List ExprTree)} {semicolon : Lexeme} {last : ParserState}
    (k : Option (List ExprTree) → ParserState) → ParsesFirstValues ts vs (semicolon ∷ tail)
    → semicolon.kind ≡ token.Sign sign.Semicolon → ParserMoves (k vs) tail last rest
    → ParserMoves (first_values (λ vs. one (token.Sign sign.Semicolon) (λ _. k vs))) ts last rest
values-moves k no_values ends h = other-moves (ap (fits (token.Sign sign.Assign)) ends) (one-moves ends h)
values-moves k (some_values is opens in_list) ends h =
    either-moves is
    (one-moves opens
    (some-moves (λ es. one (token.Sign sign.Semicolon) (λ _. k (Some es))) ((refl, refl), refl) refl in_list
    (one-moves ends h)))
