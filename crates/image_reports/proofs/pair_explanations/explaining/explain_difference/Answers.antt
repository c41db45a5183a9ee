-- Both runs reach the place, and come to one word before it.
use Rattle.std.proofs.Common.{Result, Ok, Err}
use Rattle.std.specs.Result.{IfOk}
use Rattle.image_reports.proofs.pair_explanations_lemmas.Saying.{reached, word_said, explained}
use Rattle.image_reports.proofs.pair_explanations.explaining.explain_difference.Goals as goal

pub said_of_run-requires-clause-place : goal.said_of_run-requires-clause-place
said_of_run-requires-clause-place c =
    (reached c.args.image.now c.args.one.now c.args.other.now c.args.place c.requires.differ).0

pub said_of_run-requires-clause-reached : goal.said_of_run-requires-clause-reached
said_of_run-requires-clause-reached c =
    (reached c.args.image.now c.args.one.now c.args.other.now c.args.place c.requires.differ).1

pub said_of_run-requires-2-clause-place : goal.said_of_run-requires-2-clause-place
said_of_run-requires-2-clause-place c =
    (reached c.args.image.now c.args.one.now c.args.other.now c.args.place c.requires.differ).0

pub said_of_run-requires-2-clause-reached : goal.said_of_run-requires-2-clause-reached
said_of_run-requires-2-clause-reached c =
    (reached c.args.image.now c.args.one.now c.args.other.now c.args.place c.requires.differ).2

pub lines-requires : goal.lines-requires
lines-requires c =
    let says = c.in_ok-first.ensures in
    word_said c.args.image.now c.args.one.now c.args.place says.0 c.in_ok-first.first.pc
    c.in_ok-first.first.text.items says.1

if_ok : {A E : Type 0} (P Q : A → Type 0) → ((a : A) → P a → Q a) → (answer : Result A E) → IfOk answer P
    → IfOk answer Q
if_ok P Q both (Ok a) is = both a is
if_ok P Q both (Err e) is = tt

pub returns : goal.returns
returns c =
    let image = c.args.image.now in
    let first = c.in_ok-first.first in
    let second = c.in_ok-second.second in
    let of_first = c.in_ok-first.ensures in
    let of_second = c.in_ok-second.ensures in
    if_ok _ _
    (λ text lines. explained image c.args.one.now c.args.other.now c.args.place c.requires.differ of_first.0
    of_second.0 first.pc second.pc first.text.items second.text.items lines.0 text.items
    of_first.1 of_second.1 lines.1 lines.2)
    c.lines.result c.lines.ensures
