use Rattle.std.proofs.Common.{◌<◌, ℕ, Some, Vec, Global, length, refl, sym, ap, ◌∙◌, arith}
use Rattle.std.proofs.lemmas.Bool.{false≢true}
use Rattle.commands.specs.Sources.{unread_below, too_long_below, not_utf8_below}
use Rattle.commands.proofs.HartLemmas.{all_of_it}
use Rattle.language.proofs.Handed.{handed_on}
use Rattle.commands.proofs.SourceLemmas.{no_more_than}
use Rattle.commands.proofs.sources.text_below.Goals as goal

pub returns-in_err-bytes-clause-refused : goal.returns-in_err-bytes-clause-refused
returns-in_err-bytes-clause-refused g c = λ tells.
    handed_on _ _ c.from_residual.ensures.1 (unread_below c.in_err-bytes.ensures.fault)

pub returns-in_err-bytes-clause-counted : goal.returns-in_err-bytes-clause-counted
returns-in_err-bytes-clause-counted g c = handed_on _ _ c.from_residual.ensures.1 c.in_err-bytes.ensures.counted

pub returns-then-len-limit-clause-refused : goal.returns-then-len-limit-clause-refused
returns-then-len-limit-clause-refused g c = λ tells.
    let read = c.in_ok-bytes.ensures.begins tells in
    too_long_below _ read.held
    (no_more_than c.args.limit read.whole c.in_ok-bytes.bytes.items read.begun (omega (arith)))
    (c.at-too_long.ensures.rule, c.at-too_long.ensures.place, c.at-too_long.ensures.why)
    c.told_in.ensures

pub returns-in-Ok-clause-said : goal.returns-in-Ok-clause-said
returns-in-Ok-clause-said g c = λ tells.
    let read = c.in_ok-bytes.ensures.begins tells in
    let bytes = c.in_ok-bytes.bytes in
    read.held ∙ ap Some (all_of_it c.args.limit read.whole bytes.items read.begun (omega (arith))
    ∙ ap (λ (v : Vec ℕ Global). v.items) (sym c.in-Ok.ensures.ok))

pub returns-clause-refused : goal.returns-clause-refused
returns-clause-refused g c = λ tells.
    let read = c.in_ok-bytes.ensures.begins tells in
    let bytes = c.in_ok-bytes.bytes in
    let fewer : length bytes.items < c.args.limit = omega (arith) in
    let held = read.held ∙ ap Some (all_of_it c.args.limit read.whole bytes.items read.begun fewer) in
    not_utf8_below held fewer (λ utf8. false≢true (c.in-Err.ensures.succeeds utf8)) refl
