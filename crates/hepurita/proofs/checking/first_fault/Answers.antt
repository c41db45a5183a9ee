use Rattle.std.proofs.Common.{List, map, rules, ap₂, ◌∙◌}
use Rattle.language.proofs.arguments_lemmas.FaultLemmas.{None-from_fault_of, fault_by-shown}
use Rattle.hepurita.specs.Below.{Arg, fault_of, params_of, rule_of, Slot}
use Rattle.hepurita.proofs.checking.first_fault.Goals as goal

pub returns-clause-first : goal.returns-clause-first
returns-clause-first c =
    c.first_fault_by.ensures (λ slot arg. rule_of slot.param arg) (λ slot arg broken is. search rules)
    ∙ fault_by-shown (λ (slot : Slot). slot.param) rule_of c.slots.result.now c.as_slice.result.now
    ∙ ap₂ (λ (slots : List Slot) (args : List Arg). fault_of (map (λ (slot : Slot). slot.param) slots) args)
    c.slots.ensures.slots c.as_slice.ensures

pub returns-clause-within : goal.returns-clause-within
returns-clause-within c = None-from_fault_of (params_of c.args.image.now) c.args.args.now c.first_fault_by.result
    (returns-clause-first c)
