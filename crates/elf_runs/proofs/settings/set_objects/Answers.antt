use Rattle.std.proofs.Common.{◌≡◌, ◌∙◌, ◌+◌, ap, arith, drop, map, sym}
use Rattle.std.proofs.lemmas.List.{at_drop_all}
use Rattle.std.specs.List.{fold}
use Rattle.elf_memory.specs.Memory.{range_of, set_in, set_object, with_bytes}
use Rattle.elf_runs.specs.Needs.{each_from, first_unmet, setting_needs}
use Rattle.elf_runs.proofs.Meeting.{item_held, item_there, item_unmet, passed_on}
use Rattle.elf_runs.proofs.settings.set_objects.Goals as goal

pub returns-in_err-object-clause-met : goal.returns-in_err-object-clause-met
returns-in_err-object-clause-met c =
    let needs = setting_needs c.args.program.now in
    let settings = c.args.settings.now in
    let k = c.settings.k in
    let setting = c.index-settings-k.result in
    let unmet = c.in_err-object.field-0.0 in
    let next = item_there settings k setting c.settings-test.true c.index-settings-k.is in
    passed_on c.from_residual.result unmet (each_from needs 0 settings) c.from_residual.ensures.1
    (c.settings.invariant.met ∙ item_unmet needs k settings setting unmet next c.in_err-object.ensures.met)

pub settings-preserved : goal.settings-preserved
settings-preserved c =
    let program = c.args.program.now in
    let settings = c.args.settings.now in
    let k = c.settings.k in
    let setting = c.index-settings-k.result in
    let ranges = map range_of c.settings.ranges.items in
    let next = item_there settings k setting c.settings-test.true c.index-settings-k.is in
    let changed : map range_of c.set_object.new.ranges.items ≡ set_in program ranges setting =
    c.set_object.ensures ∙ ap (λ bytes. map (with_bytes c.in_ok-object.object bytes) ranges) c.deref.ensures.value
    ∙ ap (set_object ranges setting.bytes.items) (sym c.in_ok-object.ensures.object) in
    record {
      met = c.settings.invariant.met ∙ item_held (setting_needs program) k settings setting next c.in_ok-object.ensures.met;
      set =
          c.settings.invariant.set ∙ ap (fold (set_in program) ranges) next
          ∙ ap (λ old. fold (set_in program) old (drop (k + 1) settings)) (sym changed);
    }

pub returns-clause-met : goal.returns-clause-met
returns-clause-met c =
    let k = c.settings.k in
    c.settings.invariant.met
    ∙ at_drop_all (λ rest. first_unmet (each_from (setting_needs c.args.program.now) k rest)) c.args.settings.now k
    (omega (arith, c.settings-test.false))

pub returns-clause-memory : goal.returns-clause-memory
returns-clause-memory c =
    let ranges = map range_of c.settings.ranges.items in
    sym (c.settings.invariant.set
    ∙ at_drop_all (λ rest. fold (set_in c.args.program.now) ranges rest) c.args.settings.now c.settings.k
    (omega (arith, c.settings-test.false)))
