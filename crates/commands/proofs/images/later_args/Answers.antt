-- The first fault of the second list, numbered on from the first.
use Rattle.std.proofs.Common.{◌≡◌, length, map, Err, refl, sym, ap, ◌∙◌, subst, arith}
use Rattle.std.specs.Option.{option_map}
use Rattle.language.proofs.arguments_lemmas.FaultLemmas.{behind_fits}
use Rattle.commands.specs.Below.{Argument, ArgumentFault, fault_of_texts, rule_of_text, RunFault, shifted}
use Rattle.commands.specs.Words.{IsFaultOfWords}
use Rattle.commands.proofs.WordLemmas.{spelled_from}
use Rattle.commands.proofs.images.later_args.Goals as goal

pub behind-requires : goal.behind-requires
behind-requires c =
    let arm = c.in-Err-Argument in
    let fault : ArgumentFault = record { rule = arm.rule; index = arm.index } in
    let told = (arm.ensures.fault fault).0 (ap (λ (why : RunFault). Err why) arm.field-0-is) in
    behind_fits rule_of_text c.args.params.now _ fault _ told (omega (arith, c.requires))

pub returns-in-Ok-clause-found : goal.returns-in-Ok-clause-found
returns-in-Ok-clause-found c =
    spelled_from c.args.arguments.now (λ word. word.now) refl c.in-Ok.ensures.within c.in-Ok.ensures.found

pub returns-in-Err-Argument-clause-refused : goal.returns-in-Err-Argument-clause-refused
returns-in-Err-Argument-clause-refused c =
    let arm = c.in-Err-Argument in
    let count = length c.args.params.now in
    let words = map (λ word. word.now) c.args.arguments.now in
    let fault : ArgumentFault = record { rule = arm.rule; index = arm.index } in
    let told = (arm.ensures.fault fault).0 (ap (λ (why : RunFault). Err why) arm.field-0-is) in
    let is : c.from.result ≡ Argument arm.rule (shifted count fault).index = c.from.ensures
    ∙ ap (λ (f : ArgumentFault). Argument f.rule f.index) c.behind.ensures in
    subst (IsFaultOfWords (option_map (shifted count) (fault_of_texts c.args.params.now words))) (sym is)
    (ap (option_map (shifted count)) told)
