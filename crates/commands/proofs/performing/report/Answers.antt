use Rattle.std.proofs.Common.{◌≡◌, ℕ, List, ◌++◌, codes, sym, ◌∙◌, subst}
use Rattle.commands.specs.FaultText.{fault_line}
use Rattle.commands.specs.Requests.{Reports, by_line, no_memory}
use Rattle.commands.specs.Below.{collected, IsPut}
use Rattle.commands.proofs.RequestLemmas.{is_put, counted_put}
use Rattle.commands.proofs.performing.report.Goals as goal

pub returns-in-Ok-clause-reported : goal.returns-in-Ok-clause-reported
returns-in-Ok-clause-reported g c = λ tells.
    let fault = c.args.fault.now in
    let before = collected (g.E.Sink.taken c.args.err.now) (g.E.Sink.failures c.args.err.now) in
    let after = collected (g.E.Sink.taken c.put_all.new.sink) (g.E.Sink.failures c.put_all.new.sink) in
    let line : c.as_bytes.result.now ≡ fault_line fault ++ codes "\n" = c.as_bytes.ensures.value
    ∙ c.in-Ok.ensures.ok in
    let put = is_put c.as_bytes.result.now before after c.put_all.result (c.put_all.ensures.whole tells)
    c.put_all.ensures.calm (c.put_all.ensures.beginning tells) c.put_all.ensures.counts in
    subst (λ (status : ℕ). Reports fault before after status) (sym c.status.ensures.status)
    (by_line (subst (λ (bytes : List ℕ). IsPut bytes before after) line put))

pub returns-in-Err-clause-reported : goal.returns-in-Err-clause-reported
returns-in-Err-clause-reported g c = λ tells.
    let before = collected (g.E.Sink.taken c.args.err.now) (g.E.Sink.failures c.args.err.now) in
    let after = collected (g.E.Sink.taken c.put_all-in-Err.new.sink) (g.E.Sink.failures c.put_all-in-Err.new.sink) in
    let put = is_put c.as_bytes-in-Err.result.now before after c.put_all-in-Err.result
    (c.put_all-in-Err.ensures.whole tells) c.put_all-in-Err.ensures.calm (c.put_all-in-Err.ensures.beginning tells)
    c.put_all-in-Err.ensures.counts in
    no_memory (subst (λ (bytes : List ℕ). IsPut bytes before after) c.as_bytes-in-Err.ensures.value put)

pub returns-in-Ok-clause-counted : goal.returns-in-Ok-clause-counted
returns-in-Ok-clause-counted g c = counted_put c.put_all.result c.put_all.ensures.calm c.put_all.ensures.counts

pub returns-in-Err-clause-counted : goal.returns-in-Err-clause-counted
returns-in-Err-clause-counted g c =
    counted_put c.put_all-in-Err.result c.put_all-in-Err.ensures.calm c.put_all-in-Err.ensures.counts
