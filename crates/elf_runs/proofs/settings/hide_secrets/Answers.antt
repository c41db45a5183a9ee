use Rattle.std.proofs.Common.{◌≡◌, ◌∙◌, ◌+◌, ap, arith, drop, map, sym}
use Rattle.std.proofs.lemmas.List.{at_drop_all}
use Rattle.std.specs.List.{fold}
use Rattle.elf_memory.specs.Memory.{hide_in, hide_object, range_of}
use Rattle.elf_runs.specs.Needs.{each_from, first_unmet, secret_needs}
use Rattle.elf_runs.proofs.Meeting.{item_held, item_there, item_unmet, told_on}
use Rattle.elf_runs.proofs.settings.hide_secrets.Goals as goal

pub returns-in_err-object-clause-fault : goal.returns-in_err-object-clause-fault
returns-in_err-object-clause-fault c =
    let needs = secret_needs c.args.program.now in
    let secrets = c.args.secrets.now in
    let k = c.secrets.k in
    let secret = c.index-secrets-k.result in
    let unmet = c.in_err-object.field-0.0 in
    let next = item_there secrets k secret c.secrets-test.true c.index-secrets-k.is in
    told_on c.from_residual.result unmet (each_from needs 0 secrets) c.from_residual.ensures.1
    (c.secrets.invariant.met ∙ item_unmet needs k secrets secret unmet next c.in_err-object.ensures.met)

pub secrets-preserved : goal.secrets-preserved
secrets-preserved c =
    let program = c.args.program.now in
    let secrets = c.args.secrets.now in
    let k = c.secrets.k in
    let secret = c.index-secrets-k.result in
    let ranges = map range_of c.secrets.ranges.items in
    let next = item_there secrets k secret c.secrets-test.true c.index-secrets-k.is in
    let hidden : map range_of c.hide_object.new.ranges.items ≡ hide_in program ranges secret =
    c.in_ok-hide_object.ensures ∙ ap (hide_object ranges) (sym c.in_ok-object.ensures.object) in
    record {
      met = c.secrets.invariant.met ∙ item_held (secret_needs program) k secrets secret next c.in_ok-object.ensures.met;
      hidden =
          c.secrets.invariant.hidden ∙ ap (fold (hide_in program) ranges) next
          ∙ ap (λ old. fold (hide_in program) old (drop (k + 1) secrets)) (sym hidden);
    }

pub returns-clause-met : goal.returns-clause-met
returns-clause-met c =
    let k = c.secrets.k in
    c.secrets.invariant.met
    ∙ at_drop_all (λ rest. first_unmet (each_from (secret_needs c.args.program.now) k rest)) c.args.secrets.now k
    (omega (arith, c.secrets-test.false))

pub returns-clause-memory : goal.returns-clause-memory
returns-clause-memory c =
    let ranges = map range_of c.secrets.ranges.items in
    sym (c.secrets.invariant.hidden
    ∙ at_drop_all (λ rest. fold (hide_in c.args.program.now) ranges rest) c.args.secrets.now c.secrets.k
    (omega (arith, c.secrets-test.false)))
