-- Two runs in step: what they have shown together, and how far both go on.
use Rattle.std.proofs.Common.{◌≡◌, ℕ, suc, ◌+◌, ◌*◌, ◌≤◌, ◌<◌, Bool, List, [], ◌∷◌, ◌++◌, length, length-append, Option}
use Rattle.std.proofs.Common.{Some, None, append_assoc, refl, sym, ap, ◌∙◌, arith}
use Rattle.std.specs.Prelude.{slice_get}
use Rattle.std.proofs.lemmas.List.{append_cancel_left}
use Rattle.std.proofs.lemmas.Option.{none-some}
use Rattle.run_reports.proofs.progress_lemmas.Told.{all_told}
use Rattle.run_reports.specs.progress.GoingOn.{BothGoOn, Reaches, HasLines, IsTold}
use Rattle.run_reports.specs.progress.Lines.{steps_a_line, WentOut}
use Rattle.rv_machine.proofs.Face.{Leads-append, goes_on-determined, goes_on≢stops}
use Rattle.run_reports.specs.Below.{advances, begins, MachineCode, Collected, entries_of, finishes, further}
use Rattle.run_reports.specs.Below.{IsFirstDifference, Leads, MakesProgress, MakesAll, Observation, rests, State, stays}
use Rattle.run_reports.specs.Below.{steps_on}

-- Steps that leave more to be made go on.

-- one more step leads on, where more may be made behind it
leads_one : {code : MachineCode} {m n : ℕ} {s t : State} {last : Option Observation} {o : Observation}
    → MakesProgress code m s last n t → last ≡ Some o → 0 < n → Leads code 1 s (o ∷ []) t × (n + 1 ≡ m)
leads_one rests is more = absurd (omega (arith, more))
leads_one {o = o} (advances {o = p} step) is more = let same : o
    ≡ p = cc in (rw same (steps_on step stays), omega arith)
leads_one (finishes end) is more = absurd (omega (arith, more))

pub leads_all : {code : MachineCode} {m n : ℕ} {s t : State} {seen : List Observation} → MakesAll code m s seen n t
    → 0 < n
    → Leads code (length seen) s seen t × (n + length seen ≡ m)
leads_all begins more = (stays, omega arith)
leads_all (further {seen = seen} {o = o} all step) more =
    let one = leads_one step refl more in
    let before = leads_all all (omega (arith, one.1, more)) in (
      rw (length-append seen (o ∷ [])) (Leads-append before.0 one.0),
      omega (arith, length-append seen (o ∷ []), one.1, before.1),
    )

-- On the way of a run that goes on, each step is one of its own.

-- the next step is the run's
pub step_along : {code : MachineCode} {m n j : ℕ} {s t u : State} {last : Option Observation} {rest : List Observation}
    → MakesProgress code m s last n t → Leads code j s rest u → 0 < m → 0 < j
    → (o : Observation) × (more : List Observation) × (i : ℕ) × (last ≡ Some o) × (rest ≡ o ∷ more) × (j ≡ suc i)
    × Leads code i t more u × (n + 1 ≡ m)
step_along rests lead some later = absurd (omega (arith, some))
step_along step stays some later = absurd (omega (arith, later))
step_along (advances {o = o} step) (steps_on {n = i} {o = p} {seen = more} other then) some later =
    let same = goes_on-determined other step in
    (p, more, i, ap Some (sym same.0), refl, refl, rw same.1 at then, omega arith)
step_along (finishes end) (steps_on other then) some later = absurd (goes_on≢stops other end)

-- so are all that were made
pub along : {code : MachineCode} {m n k : ℕ} {s t u : State} {seen whole : List Observation}
    → MakesAll code m s seen n t
    → Leads code k s whole u → k < m → length seen ≤ k
    → (j : ℕ) × (rest : List Observation) × (k ≡ length seen + j) × (whole ≡ seen ++ rest) × Leads code j t rest u
    × (n + length seen ≡ m)
along {k = k} {whole = whole} begins lead within far = (k, whole, omega arith, refl, lead, omega arith)
along {whole = whole} (further {seen = seen} {o = o} all step) lead within far =
    let longer = length-append seen (o ∷ []) in
    let before = along all lead within (omega (arith, longer, far)) in
    let j = before.0 in
    let found = step_along step before.4 (omega (arith, before.5, within, far, longer))
    (omega (arith, before.2, longer, far)) in
    let p = found.0 in
    let more = found.1 in
    let same : o ≡ p = cc in
    let next : seen ++ p ∷ more ≡ (seen ++ o ∷ []) ++ more = ap (λ x. seen ++ x ∷ more) {x = p} {y = o} (sym same)
    ∙ sym (append_assoc seen (o ∷ []) more) in (
      found.2,
      more,
      omega (arith, before.2, found.5, longer),
      before.3 ∙ ap (λ l. seen ++ l) found.4 ∙ next,
      found.6,
      omega (arith, before.5, found.7, longer),
    )

-- two runs have shown this list
abbrev pub InStep : MachineCode → ℕ → State → ℕ → State → State → ℕ → State → List Observation → Type 0
InStep code m s n t s' n' t' seen = MakesAll code m s seen n t × MakesAll code m s' seen n' t'

-- two steps show the same
abbrev pub ShowSame : Option Observation → Option Observation → Type 0
ShowSame one other = (o : Observation) × (one ≡ Some o) × (other ≡ Some o)

-- where both go on, the next steps of both show the same
pub both_show : {code : MachineCode} {m n k n' k' due : ℕ} {s t u s' t' u' : State} {seen : List Observation}
    {one other : Option Observation} → InStep code m s n t s' n' t' seen → MakesProgress code n t one k u
    → MakesProgress code n' t' other k' u' → length seen ≤ due → (0 < n → 0 < n' → length seen < due)
    → BothGoOn code m s s' due → ShowSame one other
both_show {n = n} {n' = n'} {seen = seen} made step step' far near on =
    let way = along made.0 on.1.3 on.0 far in
    let way' = along made.1 on.1.4 on.0 far in
    let some : 0 < n = omega (arith, way.5, far, on.0) in
    let some' : 0 < n' = omega (arith, way'.5, far, on.0) in
    let closer = near some some' in
    let found = step_along step way.4 some (omega (arith, way.2, closer)) in
    let found' = step_along step' way'.4 some' (omega (arith, way'.2, closer)) in
    let rests : way.1 ≡ way'.1 = append_cancel_left seen way.1 way'.1 (sym way.3 ∙ way'.3) in
    let same : found'.0 ≡ found.0 = heads (sym found'.4 ∙ sym rests ∙ found.4) in
    (found.0, found.3, found'.3 ∙ ap Some same)
  where
    heads : {o p : Observation} {a b : List Observation} → o ∷ a ≡ p ∷ b → o ≡ p
    heads h = cc

-- one more step of each, which shows the same
pub both_step : {code : MachineCode} {m n k n' k' : ℕ} {s t u s' t' u' : State} {seen : List Observation}
    {o : Observation}
    → InStep code m s n t s' n' t' seen → MakesProgress code n t (Some o) k u → MakesProgress code n' t' (Some o) k' u'
    → InStep code m s k u s' k' u' (seen ++ o ∷ [])
both_step made step step' = (further made.0 step, further made.1 step')

-- both go on after all that were made, where more may be
pub both_go_on : {code : MachineCode} {m n n' due : ℕ} {s t s' t' : State} {seen : List Observation}
    → InStep code m s n t s' n' t' seen → 0 < n → 0 < n' → length seen ≡ due → BothGoOn code m s s' due
both_go_on {t = t} {t' = t'} {seen = seen} made more more' is =
    let one = leads_all made.0 more in
    let other = leads_all made.1 more' in
    (omega (arith, one.1, more, is), (seen, t, t', rw is at one.0, rw is at other.0))

-- they do not, where one of them has shown nothing, or they differ
pub one_ended : {one other : Option Observation} → one ≡ None → ShowSame one other → ⊥
one_ended none same = absurd (none-some same.0 (sym none ∙ same.1))

pub other_ended : {one other : Option Observation} → other ≡ None → ShowSame one other → ⊥
other_ended none same = absurd (none-some same.0 (sym none ∙ same.2))

pub they_differ : {one other : Option Observation} {o p : Observation} {entry : ℕ} → one ≡ Some o → other ≡ Some p
    → IsFirstDifference (entries_of (o ∷ [])) (entries_of (p ∷ [])) entry → ShowSame one other → ⊥
they_differ {o = o} {p = p} {entry = entry} is is' first same =
    let some = same.1 in
    let some' = same.2 in
    let equal : o ≡ p = cc in
    first.there (ap (λ x. slice_get (entries_of (x ∷ [])) entry) equal)

-- so the lines that went out are all
pub told_at_end : {code : MachineCode} {m n k n' k' made : ℕ} {s t u s' t' u' : State} {seen : List Observation}
    {one other : Option Observation} {before after : Collected} (whole : Bool) (count : ℕ)
    → InStep code m s n t s' n' t' seen → length seen ≡ made → MakesProgress code n t one k u
    → MakesProgress code n' t' other k' u'
    → made ≤ suc count * steps_a_line → (0 < n → 0 < n' → made < suc count * steps_a_line)
    → (ShowSame one other → ⊥) → Reaches (BothGoOn code m s s') count → WentOut whole count before after
    → IsTold HasLines (BothGoOn code m s s') before after
told_at_end {before = before} {after = after} whole count steps is step step' due next apart reached went = (
  count,
  record {
    reached = reached;
    no_more = λ on.
        apart (both_show steps step step' (omega (arith, is, due))
        (λ some some'. omega (arith, is, next some some')) on);
  },
  all_told whole count before after went,
)
