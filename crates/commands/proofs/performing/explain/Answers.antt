use Rattle.std.proofs.Common.{refl, sym, subst, ℕ, ◌∙◌, arith}
use Rattle.commands.specs.Commanded.{Says, helped, unprinted, wrong, unsaid}
use Rattle.commands.specs.Failures.{of_output}
use Rattle.commands.specs.Requests.{calm}
use Rattle.commands.specs.Below.{collected}
use Rattle.commands.proofs.AnswerLemmas.{printed_all, printed_part}
use Rattle.commands.proofs.Counting.{ends}
use Rattle.commands.proofs.RequestLemmas.{is_put}
use Rattle.commands.proofs.performing.explain.Goals as goal

pub returns-in-Memory-clause-told : goal.returns-in-Memory-clause-told
returns-in-Memory-clause-told g c = λ out err.
    unsaid refl (c.memory.ensures.rule, c.memory.ensures.place) (c.report.ensures.reported err)

pub returns-in-Memory-clause-counted : goal.returns-in-Memory-clause-counted
returns-in-Memory-clause-counted g c = λ files. calm refl refl

pub returns-in-Wrong-clause-told : goal.returns-in-Wrong-clause-told
returns-in-Wrong-clause-told g c = λ out err.
    let before = collected (g.E.Sink.taken c.args.err.now) (g.E.Sink.failures c.args.err.now) in
    let after = collected (g.E.Sink.taken c.put_all.new.sink) (g.E.Sink.failures c.put_all.new.sink) in
    wrong c.as_bytes.result.now refl
    (is_put c.as_bytes.result.now before after c.put_all.result (c.put_all.ensures.whole err)
    c.put_all.ensures.calm (c.put_all.ensures.beginning err) c.put_all.ensures.counts)

pub returns-in-Wrong-clause-counted : goal.returns-in-Wrong-clause-counted
returns-in-Wrong-clause-counted g c = λ files. calm refl refl

pub returns-in-Ok-clause-told : goal.returns-in-Ok-clause-told
returns-in-Ok-clause-told g c = λ out err.
    let before = collected (g.O.Sink.taken c.args.out.now) (g.O.Sink.failures c.args.out.now) in
    let after = collected (g.O.Sink.taken c.print.new.out) (g.O.Sink.failures c.print.new.out) in
    let still = collected (g.E.Sink.taken c.args.err.now) (g.E.Sink.failures c.args.err.now) in
    let printed = printed_all c.of_text.result c.in-Ok.status c.in-Ok.ensures refl refl in
    subst (λ (status : ℕ). Says before after still still status) (sym (printed.0 ∙ c.of_text.ensures.status))
    (helped c.of_text.result.text.items (printed.2 out, printed.1) refl)

pub returns-in-Ok-clause-known : goal.returns-in-Ok-clause-known
returns-in-Ok-clause-known g c =
    let printed = printed_all c.of_text.result c.in-Ok.status c.in-Ok.ensures refl refl in
    omega (arith, printed.0, c.of_text.ensures.status)

pub returns-in-Ok-clause-calm : goal.returns-in-Ok-clause-calm
returns-in-Ok-clause-calm g c = λ is. (printed_all c.of_text.result c.in-Ok.status c.in-Ok.ensures refl refl).1

pub returns-in-Ok-clause-counted : goal.returns-in-Ok-clause-counted
returns-in-Ok-clause-counted g c = λ files.
    calm refl (printed_all c.of_text.result c.in-Ok.status c.in-Ok.ensures refl refl).1

pub returns-in-Err-clause-told : goal.returns-in-Err-clause-told
returns-in-Err-clause-told g c = λ out err.
    let printed = printed_part c.of_text.result c.in-Err.fault c.in-Err.ensures refl refl in
    unprinted c.of_text.result.text.items (printed.2 out, printed.1) printed.0 (c.report-in-Err.ensures.reported err)

pub returns-in-Err-clause-counted : goal.returns-in-Err-clause-counted
returns-in-Err-clause-counted g c = λ files.
    let printed = printed_part c.of_text.result c.in-Err.fault c.in-Err.ensures refl refl in
    ends c.in-Err.fault (of_output printed.0 refl printed.1) c.report-in-Err.ensures.status
