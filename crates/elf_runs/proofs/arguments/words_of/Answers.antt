use Rattle.std.proofs.Common.{◌≡◌, ◌∙◌, ◌+◌, ◌<◌, ◌++◌, ◌∷◌, ℕ, List, [], ap, ap₂, arith, get_or, length, map, sym, take}
use Rattle.std.proofs.lemmas.List.{at_drop_all, map_more, take_all}
use Rattle.elf_memory.specs.Arguments.{word_of}
use Rattle.elf_runs.specs.Needs.{argument_needs, each_from, first_unmet}
use Rattle.elf_runs.proofs.Meeting.{item_held, item_there, item_unmet, told_on}
use Rattle.elf_runs.proofs.arguments.words_of.Goals as goal

-- one word more, that of the next argument
more_words : {A B : Type 0} (f : A → B) (xs : List A) (k : ℕ) (x : A) (made after : List B) (y : B) → k < length xs
    → x ≡ get_or xs k x → made ≡ map f (take k xs) → y ≡ f x → after ≡ made ++ y ∷ []
    → after ≡ map f (take (k + 1) xs)
more_words f xs k x made after y within is before now appended =
    appended
    ∙ ap₂ (λ front last. front ++ last ∷ []) before (now ∙ ap f is)
    ∙ sym (map_more f xs k x within)

pub returns-in_err-check_argument-clause-fault : goal.returns-in_err-check_argument-clause-fault
returns-in_err-check_argument-clause-fault c =
    let needs = argument_needs c.args.program.now in
    let arguments = c.args.arguments.now in
    let k = c.arguments.k in
    let argument = c.index-arguments-k.result in
    let unmet = c.in_err-check_argument.field-0.0 in
    let next = item_there arguments k argument c.arguments-test.true c.index-arguments-k.is in
    told_on c.from_residual.result unmet (each_from needs 0 arguments) c.from_residual.ensures.1
    (c.arguments.invariant.met ∙ item_unmet needs k arguments argument unmet next c.in_err-check_argument.ensures)

pub arguments-preserved : goal.arguments-preserved
arguments-preserved c =
    let program = c.args.program.now in
    let arguments = c.args.arguments.now in
    let k = c.arguments.k in
    let argument = c.index-arguments-k.result in
    let within = c.arguments-test.true in
    let is = c.index-arguments-k.is in
    record {
      met =
          c.arguments.invariant.met
          ∙ item_held (argument_needs program) k arguments argument (item_there arguments k argument within is)
          c.in_ok-check_argument.ensures;
      words =
          more_words (word_of program) arguments k argument c.arguments.words.items c.push.new.self.items c.word_of.result
          within is c.arguments.invariant.words c.word_of.ensures c.in_ok-push.ensures.items;
    }

pub returns-clause-met : goal.returns-clause-met
returns-clause-met c =
    let needs = argument_needs c.args.program.now in
    let k = c.arguments.k in
    c.arguments.invariant.met
    ∙ at_drop_all (λ rest. first_unmet (each_from needs k rest)) c.args.arguments.now k
    (omega (arith, c.arguments-test.false))

pub returns-clause-words : goal.returns-clause-words
returns-clause-words c =
    c.arguments.invariant.words
    ∙ ap (map (word_of c.args.program.now))
    (take_all c.arguments.k c.args.arguments.now (omega (arith, c.arguments-test.false)))
