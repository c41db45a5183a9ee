-- The first list's words, and then the second's.
use Rattle.std.proofs.Common.{◌≡◌, List, ℕ, None, Err, map, length, refl, subst}
use Rattle.std.specs.Option.{option_map}
use Rattle.commands.specs.Below.{fault_of_texts, shifted}
use Rattle.commands.specs.Words.{AreSpelled, IsFaultOfWords}
use Rattle.language.proofs.Handed.{handed_on}
use Rattle.commands.proofs.WordLemmas.{fault_of_words, fault_of_first, fault_of_second, first_words}
use Rattle.commands.proofs.WordLemmas.{second_words, count_of_words, spelled_from}
use Rattle.commands.proofs.images.both_args.Goals as goal

pub returns-in_err-first-in-Some-clause-refused : goal.returns-in_err-first-in-Some-clause-refused
returns-in_err-first-in-Some-clause-refused c =
    let params = c.args.params.now in
    let words = map (λ word. word.now) c.args.arguments.now in
    let why = c.in_err-first-in-Some.field-0.0 in
    handed_on _ _ c.from_residual.ensures.1 (fault_of_first params words why
    (count_of_words (λ word. word.now) (length params) c.args.arguments.now c.in-Some.second.now
    c.if-second-params.true c.in-Some.ensures.cases.4)
    (subst (λ (texts : List (List ℕ)). IsFaultOfWords (fault_of_texts params texts) why)
    (first_words (λ word. word.now) (length params) c.args.arguments.now c.in-Some.first.now
    c.in-Some.ensures.cases.1)
    (fault_of_words _ why (Err why) refl c.in_err-first-in-Some.ensures.fault
    c.in_err-first-in-Some.ensures.unstopped)))

pub returns-in_err-second-in-Some-clause-refused : goal.returns-in_err-second-in-Some-clause-refused
returns-in_err-second-in-Some-clause-refused c =
    let params = c.args.params.now in
    let words = map (λ word. word.now) c.args.arguments.now in
    let why = c.in_err-second-in-Some.field-0.0 in
    let both = c.in-Some.ensures.cases in
    handed_on _ _ c.from_residual-in_err-second-in-Some.ensures.1 (fault_of_second params words why
    (count_of_words (λ word. word.now) (length params) c.args.arguments.now c.in-Some.second.now
    c.if-second-params.true both.4)
    (subst (λ (texts : List (List ℕ)). fault_of_texts params texts ≡ None)
    (first_words (λ word. word.now) (length params) c.args.arguments.now c.in-Some.first.now both.1)
    c.in_ok-first-in-Some.ensures.only)
    (subst (λ (texts : List (List ℕ)).
    IsFaultOfWords (option_map (shifted (length params)) (fault_of_texts params texts)) why)
    (second_words (λ word. word.now) (length params) c.args.arguments.now c.in-Some.second.now both.2)
    c.in_err-second-in-Some.ensures.refused))

pub returns-in_ok-second-in-Some-clause-found : goal.returns-in_ok-second-in-Some-clause-found
returns-in_ok-second-in-Some-clause-found c =
    let params = c.args.params.now in
    let both = c.in-Some.ensures.cases in
    record {
      first = subst (λ (texts : List (List ℕ)). AreSpelled params texts c.in_ok-first-in-Some.first)
          (first_words (λ word. word.now) (length params) c.args.arguments.now c.in-Some.first.now both.1)
          (spelled_from c.in-Some.first.now (λ word. word.now) refl c.in_ok-first-in-Some.ensures.within
          c.in_ok-first-in-Some.ensures.found);
      second = subst (λ (texts : List (List ℕ)). AreSpelled params texts c.in_ok-second-in-Some.second)
          (second_words (λ word. word.now) (length params) c.args.arguments.now c.in-Some.second.now both.2)
          c.in_ok-second-in-Some.ensures.found;
    }
