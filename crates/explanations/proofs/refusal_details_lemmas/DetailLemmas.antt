-- What an answer of the parser says; and what holds where a call succeeds.
use Rattle.std.proofs.Common.{◌≡◌, ℕ, List, None, Some, Result, Ok, Err, IfOk, sym, ◌∙◌, inl, inr}
use Rattle.std.proofs.lemmas.Option.{none-some}
use Rattle.explanations.specs.Below.{ParseAnswer, IsRefusedAs, Place, Reads, Refusal, refused}
use Rattle.explanations.specs.refusal_details.Details.{IsProgramOf, unread}

-- a refusal with a place is an answer to the text
pub placed : (P : ParseAnswer → Type 0) (r : Refusal) (p : Place) → r.place ≡ Some p → IsRefusedAs P r
    → (place : Place) × P (refused r.rule place)
placed P r p some (inl memory) = absurd (none-some p (sym memory.1 ∙ some))
placed P r p some (inr answer) = (answer.0, answer.2)

pub no_program : (source : List ℕ) (r : Refusal) (p : Place) → r.place ≡ Some p → IsRefusedAs (Reads source) r
    → IsProgramOf source None
no_program source r p some answer = unread (placed (Reads source) r p some answer).1

-- what follows for each value follows where there is one
pub where_ok : {A E : Type 0} {P Q : A → Type 0} (result : Result A E) → ((x : A) → P x → Q x) → IfOk result P
    → IfOk result Q
where_ok (Ok x) follows known = follows x known
where_ok (Err e) follows known = known
