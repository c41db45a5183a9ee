-- How runs spend a budget, part by part.
use Rattle.std.proofs.Common.{◌≡◌, ℕ, suc, ◌+◌, ◌-◌, ◌<◌, ◌≤◌, inl, inr, List, [], ◌∷◌, ◌++◌, Option, Some, None}
use Rattle.std.proofs.Common.{append_assoc, append-nil, refl, arith}
use Rattle.source_eval.specs.Below.{andthen, array_run, binary, BlockTree, continued, convert, element, Ending}
use Rattle.source_eval.specs.Below.{ExprTree, faults, first, given, gives, Kind, later, loop_run, name, number, passed}
use Rattle.source_eval.specs.Below.{prefix, return_run, ReturnTree, rotate, Run, run, run_all, Runnables, select, State}
use Rattle.source_eval.specs.Below.{StatementTree, tick, truth, iterations, value, values, Word, written}
use Rattle.source_eval.specs.Metering.{EndedWithin, Stopped}
use Rattle.source_eval.specs.declared.fault.EvalFault.{EvalFault}
use Rattle.source_eval.specs.declared.fault.EvalFault.TheVariants.{Argument, NoMeaning, Budget, Memory}

then-none : {A B : Type 0} (nodes bodies : ℕ) (ending : Ending A) (next : A → Run B) → bodies ≡ 0
    → ((a : A) → (next a).bodies ≡ 0) → (continued nodes bodies ending next).bodies ≡ 0
then-none nodes bodies (gives a) next h k = let e = k a in omega arith
then-none nodes bodies (faults place) next h k = h

pub value_opens : (s : State) (e : ExprTree) → (value s e).bodies ≡ 0
unfolding tick andthen
value_opens s (number place v kind) = refl
value_opens s (truth place v) = refl
value_opens s (name place text) = refl
value_opens s (prefix place operator a) = then-none _ _ _ _ (value_opens s a) (λ _. refl)
value_opens s (binary place operator a b) =
    then-none _ _ _ _ (value_opens s a) (λ _. then-none _ _ _ _ (value_opens s b) (λ _. refl))
value_opens s (rotate place a amount) = then-none _ _ _ _ (value_opens s a) (λ _. refl)
value_opens s (convert place kind a) = then-none _ _ _ _ (value_opens s a) (λ _. refl)
value_opens s (select place a b c) =
    then-none _ _ _ _ (value_opens s a)
    (λ _. then-none _ _ _ _ (value_opens s b) (λ _. then-none _ _ _ _ (value_opens s c) (λ _. refl)))
value_opens s (element place target text a) = then-none _ _ _ _ (value_opens s a) (λ _. refl)

pub values_open : (s : State) (es : List ExprTree) → (values s es).bodies ≡ 0
unfolding andthen
values_open s [] = refl
values_open s (e ∷ es) = then-none _ _ _ _ (value_opens s e) (λ _. then-none _ _ _ _ (values_open s es) (λ _. refl))

pub passed_open : (s : State) (es : List ExprTree) → (passed s es).bodies ≡ 0
unfolding tick andthen
passed_open s [] = refl
passed_open s (e ∷ es) = then-none _ _ _ _ (value_opens s e) (λ _. then-none _ _ _ _ (passed_open s es) (λ _. refl))

pub value_counts : (s : State) (e : ExprTree) → 0 < (value s e).nodes
unfolding tick
value_counts s (number place v kind) = omega arith
value_counts s _ = omega arith

pub return_opens : (s : State) (r : Option ReturnTree) → (return_run s r).bodies ≡ 0
unfolding tick andthen
return_opens s None = refl
return_opens s (Some r) = then-none _ _ _ _ (value_opens s r.value) (λ _. refl)

pub array_opens : (s : State) (text : List ℕ) (kind : Kind) (size : ℕ) (initial : Option (List ExprTree))
    → (array_run s text kind size initial).bodies ≡ 0
unfolding tick andthen
array_opens s text kind size initial = then-none _ _ _ _ (values_open s (written initial)) (λ _. refl)

-- One part, and then another.

pub then_ends : {A B : Type 0} {r : Run A} (next : A → Run B) {left middle after room : ℕ} {a : A} {b : B}
    → EndedWithin r left room a middle → EndedWithin (next a) middle room b after → EndedWithin
    (andthen r next) left room b after
unfolding andthen
then_ends next h k =
    rw h.gives_it (record { gives_it = k.gives_it; spends = omega arith; opens = omega arith })

later_stops : {B : Type 0} (r : Run B) (nodes bodies left middle room : ℕ) (fault : EvalFault)
    → left ≡ nodes + middle → bodies ≤ room → Stopped r middle room fault
    → Stopped (later nodes bodies r) left room fault
later_stops r nodes bodies left middle room (NoMeaning place) spent opened h = (h.0, omega arith, omega arith)
later_stops r nodes bodies left middle room Budget spent opened (inl h) = inl (omega arith)
later_stops r nodes bodies left middle room Budget spent opened (inr h) = inr (omega arith)
later_stops r nodes bodies left middle room Memory spent opened h = h
later_stops r nodes bodies left middle room (Argument fault) spent opened h = h

pub then_stops : {A B : Type 0} {r : Run A} (next : A → Run B) {left middle room : ℕ} {a : A} (fault : EvalFault)
    → EndedWithin r left room a middle → Stopped (next a) middle room fault → Stopped (andthen r next) left room fault
unfolding andthen
then_stops {r = r} next {left = left} {middle = middle} {room = room} {a = a} fault h k =
    rw h.gives_it (later_stops (next a) r.nodes r.bodies left middle room fault h.spends h.opens k)

at_least : {A B : Type 0} (nodes bodies : ℕ) (ending : Ending A) (next : A → Run B)
    → (nodes ≤ (continued nodes bodies ending next).nodes) × (bodies ≤ (continued nodes bodies ending next).bodies)
at_least nodes bodies (gives a) next = (omega arith, omega arith)
at_least nodes bodies (faults place) next = (omega arith, omega arith)

pub stops_then : {A B : Type 0} (r : Run A) (next : A → Run B) (left room : ℕ) (fault : EvalFault)
    → Stopped r left room fault → Stopped (andthen r next) left room fault
unfolding andthen
stops_then r next left room (NoMeaning place) h = rw h.0 (refl, h.1, h.2)
stops_then r next left room Budget (inl h) = let more = at_least r.nodes r.bodies r.ends next in inl (omega arith)
stops_then r next left room Budget (inr h) = let more = at_least r.nodes r.bodies r.ends next in inr (omega arith)
stops_then r next left room Memory h = h
stops_then r next left room (Argument fault) h = h

-- One node.

pub tick_ends : {A : Type 0} {r : Run A} {before left room : ℕ} {a : A} {after : ℕ} → before ≡ left + 1
    → EndedWithin r left room a after → EndedWithin (tick r) before room a after
unfolding tick
tick_ends one h = record { gives_it = h.gives_it; spends = omega arith; opens = h.opens }

pub tick_stops : {A : Type 0} (r : Run A) (before left room : ℕ) (fault : EvalFault) → before ≡ left + 1
    → Stopped r left room fault → Stopped (tick r) before room fault
unfolding tick
tick_stops r before left room (NoMeaning place) one h = (h.0, omega arith, h.2)
tick_stops r before left room Budget one (inl h) = inl (omega arith)
tick_stops r before left room Budget one (inr h) = inr h
tick_stops r before left room Memory one h = h
tick_stops r before left room (Argument fault) one h = h

pub tick_lacks : {A : Type 0} (r : Run A) (left room : ℕ) (fault : EvalFault) → left ≡ 0 → fault ≡ Budget
    → Stopped (tick r) left room fault
unfolding tick
tick_lacks r left room fault none is = rw is (inl (omega arith))

pub memory_stops : {A : Type 0} (r : Run A) (left room : ℕ) (fault : EvalFault) → fault ≡ Memory
    → Stopped r left room fault
memory_stops r left room fault is = rw is tt

-- A run that goes on with what is left of it.

-- the whole comes to what the rest comes to, once that is joined to what was found
pub record GoesOnTo {A B : Type 0} (whole : Run A) (start room : ℕ) (rest : Run B) (now : ℕ) (join : B
    → A) : Type 0 where
  pub ends : (b : B) (after : ℕ) → EndedWithin rest now room b after → EndedWithin whole start room (join b) after
  pub stops : (fault : EvalFault) → Stopped rest now room fault → Stopped whole start room fault

cons_ends : {r : Run (List Word)} (v : Word) {left room : ℕ} {vs : List Word} {after : ℕ}
    → EndedWithin r left room vs after
    → EndedWithin (andthen r (λ ws. given (v ∷ ws))) left room (v ∷ vs) after
cons_ends v h = then_ends _ h (record { gives_it = refl; spends = omega arith; opens = omega arith })

pub values_more : (s : State) (whole : Run (List Word)) (e : ExprTree) (es : List ExprTree) (start now middle : ℕ)
    (front : List Word) (v : Word)
    → GoesOnTo whole start 0 (values s (e ∷ es)) now (λ vs. front ++ vs) → EndedWithin (value s e) now 0 v middle
    → GoesOnTo whole start 0 (values s es) middle (λ vs. (front ++ v ∷ []) ++ vs)
values_more s whole e es start now middle front v leads h = record {
  ends = λ vs after k. rw (append_assoc front (v ∷ []) vs)
      (leads.ends (v ∷ vs) after (then_ends _ h (cons_ends v k)));
  stops =
      λ fault k. leads.stops fault (then_stops _ fault h (stops_then (values s es) _ middle 0 fault k));
}

pub values_stop : (s : State) (whole : Run (List Word)) (e : ExprTree) (es : List ExprTree) (start now : ℕ)
    (join : List Word → List Word) (fault : EvalFault)
    → GoesOnTo whole start 0 (values s (e ∷ es)) now join → Stopped (value s e) now 0 fault
    → Stopped whole start 0 fault
values_stop s whole e es start now join fault leads h = leads.stops fault (stops_then (value s e) _ now 0 fault h)

-- the values of word arguments, some of which are found
pub passed_more : (s : State) (whole : Run (List Word)) (e : ExprTree) (es : List ExprTree)
    (start before now middle : ℕ) (front : List Word) (v : Word)
    → GoesOnTo whole start 0 (passed s (e ∷ es)) before (λ vs. front ++ vs) → before ≡ now + 1
    → EndedWithin (value s e) now 0 v middle
    → GoesOnTo whole start 0 (passed s es) middle (λ vs. (front ++ v ∷ []) ++ vs)
passed_more s whole e es start before now middle front v leads one h = record {
  ends = λ vs after k. rw (append_assoc front (v ∷ []) vs)
      (leads.ends (v ∷ vs) after (tick_ends one (then_ends _ h (cons_ends v k))));
  stops =
      λ fault k. leads.stops fault
      (tick_stops _ before now 0 fault one
      (then_stops _ fault h (stops_then (passed s es) _ middle 0 fault k)));
}

pub passed_stop : (s : State) (whole : Run (List Word)) (e : ExprTree) (es : List ExprTree) (start before now : ℕ)
    (join : List Word → List Word) (fault : EvalFault)
    → GoesOnTo whole start 0 (passed s (e ∷ es)) before join → before ≡ now + 1 → Stopped (value s e) now 0 fault
    → Stopped whole start 0 fault
passed_stop s whole e es start before now join fault leads one h =
    leads.stops fault (tick_stops _ before now 0 fault one (stops_then (value s e) _ now 0 fault h))

pub passed_lacks : (s : State) (whole : Run (List Word)) (e : ExprTree) (es : List ExprTree) (start before : ℕ)
    (join : List Word → List Word) (fault : EvalFault)
    → GoesOnTo whole start 0 (passed s (e ∷ es)) before join → before ≡ 0 → fault ≡ Budget → Stopped whole start 0 fault
passed_lacks s whole e es start before join fault leads none is =
    leads.stops fault (tick_lacks _ before 0 fault none is)

-- nothing is left
pub all_found : (whole : Run (List Word)) (start now : ℕ) (front : List Word)
    → GoesOnTo whole start 0 (given []) now (λ vs. front ++ vs) → EndedWithin whole start 0 front now
all_found whole start now front leads =
    rw append-nil at (leads.ends [] now (record { gives_it = refl; spends = omega arith; opens = omega arith }))

-- the iterations of a loop
step_of : (i n : ℕ) → i < n → n - i ≡ suc (n - (i + 1))
step_of i n less = omega arith

module _ (whole : Run State) (iteration : ℕ → State → Run State) (start room : ℕ) where
  pub iterations_more : (s t : State) (i n before now middle : ℕ) → i < n
      → GoesOnTo whole start room (iterations (n - i) i iteration s) before (λ u. u) → before ≡ now + 1
      → EndedWithin (iteration i s) now room t middle
      → GoesOnTo whole start room (iterations (n - (i + 1)) (i + 1) iteration t) middle (λ u. u)
  iterations_more s t i n before now middle less leads one h =
      let l = rw (step_of i n less) at leads in
      record {
        ends = λ u after k. l.ends u after (tick_ends one (then_ends _ h k));
        stops = λ fault k. l.stops fault (tick_stops _ before now room fault one (then_stops _ fault h k));
      }

  pub iterations_stop : (s : State) (i n before now : ℕ) (fault : EvalFault) → i < n
      → GoesOnTo whole start room (iterations (n - i) i iteration s) before (λ u. u) → before ≡ now + 1
      → Stopped (iteration i s) now room fault
      → Stopped whole start room fault
  iterations_stop s i n before now fault less leads one h =
      let l = rw (step_of i n less) at leads in
      l.stops fault (tick_stops _ before now room fault one (stops_then (iteration i s) _ now room fault h))

  pub iterations_lack : (s : State) (i n before : ℕ) (fault : EvalFault) → i < n
      → GoesOnTo whole start room (iterations (n - i) i iteration s) before (λ u. u) → before ≡ 0 → fault ≡ Budget
      → Stopped whole start room fault
  iterations_lack s i n before fault less leads none is =
      let l = rw (step_of i n less) at leads in
      l.stops fault (tick_lacks _ before room fault none is)

  pub iterations_end : (s : State) (i n now : ℕ) → n ≤ i → GoesOnTo whole start room
      (iterations (n - i) i iteration s) now (λ u. u)
      → EndedWithin whole start room s now
  iterations_end s i n now least leads =
      let none : n - i ≡ 0 = omega arith in
      let l = rw none at leads in
      l.ends s now (record { gives_it = refl; spends = omega arith; opens = omega arith })

-- what opens no body does so in any room
pub roomy_ends : {A : Type 0} {r : Run A} {left room : ℕ} {a : A} {after : ℕ} → EndedWithin r left 0 a after
    → EndedWithin r left room a after
roomy_ends h = record { gives_it = h.gives_it; spends = h.spends; opens = omega arith }

pub roomy_stops : {A : Type 0} (r : Run A) (left room : ℕ) (fault : EvalFault) → r.bodies ≡ 0 → Stopped r left 0 fault
    → Stopped r left room fault
roomy_stops r left room (NoMeaning place) none h = (h.0, h.1, omega arith)
roomy_stops r left room Budget none (inl h) = inl h
roomy_stops r left room Budget none (inr h) = absurd (omega arith)
roomy_stops r left room Memory none h = h
roomy_stops r left room (Argument fault) none h = h

-- the bounds of a loop, and then its iterations
pub bounds_end : (s : State) (low high : ExprTree) (iteration : ℕ → State
    → Run State) (start one two three room : ℕ) (a b : Word)
    → start ≡ one + 1 → EndedWithin (value s low) one 0 a two → EndedWithin (value s high) two 0 b three
    → GoesOnTo (loop_run s low high iteration) start room (iterations (b.value - a.value) a.value iteration s) three
    (λ u. u)
bounds_end s low high iteration start one two three room a b counts h k = record {
  ends = λ u after m. tick_ends counts (then_ends _ (roomy_ends h) (then_ends _ (roomy_ends k) m));
  stops = λ fault m. tick_stops _ start one room fault counts
      (then_stops _ fault (roomy_ends h) (then_stops _ fault (roomy_ends k) m));
}

-- statements
module _ (whole : Run State) (known : Runnables) (start room : ℕ) where
  pub block_more : (s t : State) (statement : StatementTree) (rest : BlockTree) (now middle : ℕ)
      → GoesOnTo whole start room (run_all known s (first statement rest)) now (λ u. u)
      → EndedWithin (run known s statement) now room t middle
      → GoesOnTo whole start room (run_all known t rest) middle (λ u. u)
  block_more s t statement rest now middle leads h = record {
    ends = λ u after k. leads.ends u after (then_ends _ h k);
    stops = λ fault k. leads.stops fault (then_stops _ fault h k);
  }

  pub block_stop : (s : State) (statement : StatementTree) (rest : BlockTree) (now : ℕ) (fault : EvalFault)
      → GoesOnTo whole start room (run_all known s (first statement rest)) now (λ u. u)
      → Stopped (run known s statement) now room fault
      → Stopped whole start room fault
  block_stop s statement rest now fault leads h =
      leads.stops fault (stops_then (run known s statement) _ now room fault h)
