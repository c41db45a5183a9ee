use Rattle.std.proofs.Common.{◌∙◌, List, ℕ, rules, ap}
use Rattle.source_eval.specs.Below.{State, with_element, with_some, Word}
use Rattle.source_eval.specs.Views.{held, word_of}
use Rattle.source_eval.proofs.VariableLemmas.{held-put, held-lacks}
use Rattle.source_eval.proofs.variables.Variables.set_element.Goals as goal

-- what the names hold with an element of the array that this one holds
abbrev put_in : State → ℕ → Word → List ℕ → State
put_in s index word name = with_some s name (with_element (s name) index word)

pub returns-in-Some : goal.returns-in-Some
returns-in-Some c =
    held-put c.args.self.now _ c.as_str.result.now c.in-Some.held.now c.put.new.value c.args.index (word_of c.args.word)
    ((c.get_mut.follows.holds c.put.new.value).3 (search rules)) (search rules) c.put.ensures
    ∙ ap (put_in (held c.args.self.now) c.args.index (word_of c.args.word)) c.as_str.ensures

pub returns-in_default : goal.returns-in_default
returns-in_default c =
    ap (λ values. held (record { values = values })) c.get_mut.follows.holds-at-none
    ∙ held-lacks c.args.self.now c.as_str.result.now c.args.index (word_of c.args.word) (search rules)
    ∙ ap (put_in (held c.args.self.now) c.args.index (word_of c.args.word)) c.as_str.ensures
