-- Pieces of code, put together.
use Rattle.std.proofs.Common.{◌≡◌, ℕ, ◌+◌, ◌*◌, ◌≤◌, Bool, true, false, cond, List, [], ◌∷◌, ◌++◌, length, All, Option}
use Rattle.std.proofs.Common.{refl, sym, ap, ◌∙◌, subst, arith, length-append, append_assoc, append-nil}
use Rattle.std.proofs.lemmas.Bool.{cond_both}
use Rattle.std.proofs.lemmas.List.Elements.{All-cons, All-nil}
use Rattle.expression_code.proofs.program_logic_lemmas.PlacedLaws.{Placed-left, Placed-right}
use Rattle.expression_code.specs.program_logic.Pieces.{PieceSetting, Before, After, Steps, none, Leak, always, both}
use Rattle.expression_code.specs.program_logic.Pieces.{Ends, Runs}
use Rattle.expression_code.specs.program_logic.Pieces.{Then}
use Rattle.expression_code.specs.Below.{Event, Instr, Leads, Observation, State}
use Rattle.expression_code.proofs.program_logic_lemmas.StepLaws.{counted, counted_both, counted_then}
use Rattle.expression_code.proofs.program_logic_lemmas.StepLaws.{LeadsBy-append, one_by}
use Rattle.expression_code.specs.program_logic.MachineSteps.{at_most, Bound, IsCounted, stays_by}

-- what is seen of two parts, and then more
pub seen_then : (z : PieceSetting) (one other rest : List z.Mark)
    → z.seen (one ++ other) ++ rest ≡ z.seen one ++ (z.seen other ++ rest)
seen_then z one other rest =
    ap (λ (front : List z.Mark). front ++ rest) (z.seen_append one other)
    ∙ append_assoc (z.seen one) (z.seen other) rest

pub seen_nothing : (z : PieceSetting) (rest : List z.Mark) → z.seen [] ++ rest ≡ rest
seen_nothing z rest = ap (λ (front : List z.Mark). front ++ rest) z.seen_none

pub All-one : (P : Observation → Type 0) (x : Observation) → P x → All P (x ∷ [])
All-one P x h = All-cons P x [] h (All-nil P)

module _ {bound : Bound} {z : PieceSetting} where
  -- Steps from one state.

  -- none
  pub stop_here : {q : ℕ} {path : List z.Mark} {Q : State → Type 0} (s : State) → s.pc ≡ q → Q s
      → Ends bound z 0 q (always []) path path Q s
  stop_here s at done = record {
    step_count = 0;
    end = s;
    seen = [];
    leads = stays_by;
    within = counted bound refl;
    shown = refl;
    at = at;
    done = done;
  }

  -- one, which shows this event
  pub step_ends : {p q : ℕ} {leak : Leak z} {path rest : List z.Mark} {Q : State
      → Type 0} {s : State} (shows known : Option Event) (t : State)
      → s.pc ≡ p → Leads z.code 1 s (record { pc = s.pc; event = shows } ∷ []) t → shows ≡ known → z.Each s known t
      → leak path ≡ (record { pc = p; event = known } ∷ [], rest) → t.pc ≡ q → Q t
      → Ends bound z 1 q leak path rest Q s
  step_ends {p = p} {s = s} shows known t at leads same holds shown there done = record {
    step_count = 1;
    end = t;
    seen = record { pc = p; event = known } ∷ [];
    leads =
        one_by
        (subst (λ e. Leads z.code 1 s (record { pc = p; event = e } ∷ []) t) same
        (subst (λ x. Leads z.code 1 s (record { pc = x; event = shows } ∷ []) t) at leads))
        holds;
    within = counted bound refl;
    shown = shown;
    at = there;
    done = done;
  }

  -- some, and then more from where they end
  pub then_ends : {m n q r : ℕ} {one two : Leak z} {path middle rest : List z.Mark} {Q R : State → Type 0} {s : State}
      → Ends bound z m q one path middle Q s
      → ((t : State) → t.pc ≡ q → Q t → Ends bound z n r two middle rest R t)
      → Ends bound z (m + n) r (both one two) path rest R s
  then_ends {m = m} {n = n} e next =
      let f = next e.end e.at e.done in
      record {
        step_count = e.step_count + f.step_count;
        end = f.end;
        seen = e.seen ++ f.seen;
        leads = LeadsBy-append e.leads f.leads;
        within = counted_both bound e.step_count f.step_count m n e.within f.within;
        shown = rw (e.shown, f.shown) refl;
        at = f.at;
        done = f.done;
      }

  -- the same steps, counted otherwise, to the same address, and giving less
  pub ends_as : {m n q r : ℕ} {leak : Leak z} {path rest : List z.Mark} {Q R : State → Type 0} {s : State}
      → Ends bound z m q leak path rest Q s → IsCounted bound m n → q ≡ r → ((t : State) → Q t → R t)
      → Ends bound z n r leak path rest R s
  ends_as {m = m} {n = n} e more same give =
      record {
        step_count = e.step_count;
        end = e.end;
        seen = e.seen;
        leads = e.leads;
        within = counted_then bound e.step_count m n e.within more;
        shown = e.shown;
        at = e.at ∙ same;
        done = give e.end e.done;
      }

  -- the same steps, to the same address, and giving less
  pub ends_to : {m q r : ℕ} {leak : Leak z} {path rest : List z.Mark} {Q R : State → Type 0} {s : State}
      → Ends bound z m q leak path rest Q s → q ≡ r → ((t : State) → Q t → R t) → Ends bound z m r leak path rest R s
  ends_to e same give = ends_as e (counted bound refl) same give

  -- on another path, off which the same is read otherwise
  pub ends_by : {m q : ℕ} {leak leak' : Leak z} {path path' rest : List z.Mark} {Q : State → Type 0} {s : State}
      → Ends bound z m q leak path rest Q s → leak' path' ≡ leak path → Ends bound z m q leak' path' rest Q s
  ends_by e same = record {
    step_count = e.step_count;
    end = e.end;
    seen = e.seen;
    leads = e.leads;
    within = e.within;
    shown = same ∙ e.shown;
    at = e.at;
    done = e.done;
  }

  -- on the same path, otherwise written
  pub ends_on : {m q : ℕ} {leak : Leak z} {path other rest : List z.Mark} {Q : State → Type 0} {s : State}
      → Ends bound z m q leak path rest Q s → other ≡ path → Ends bound z m q leak other rest Q s
  ends_on {m = m} {q = q} {leak = leak} {rest = rest} {Q = Q} {s = s} e same =
      subst (λ (front : List z.Mark). Ends bound z m q leak front rest Q s) (sym same) e

  -- Pieces.

  -- no instruction
  pub no_code : {P : Before z} {Q : After z} → ((env : z.Beside) (s : State) → P env s → Q env s s)
      → Runs bound z 0 none [] P Q
  no_code still = record {
    placed_at = λ p placed. record {
      leak = always [];
      runs = λ env s rest at fine fit. ends_on (stop_here s (omega arith) (still env s fit))
          (seen_nothing z rest);
    };
  }

  -- two pieces of code, one after the other
  pub seq : {m n : ℕ} {a b : Steps z} {xs ys : List Instr} {P P' : Before z} {Q R : After z}
      → Runs bound z m a xs P Q → Runs bound z n b ys P' R
      → ((env : z.Beside) (s t : State) → P env s → Q env s t → P' env t)
      → Runs bound z (m + n) (λ env. a env ++ b env) (xs ++ ys) P (Then z Q R)
  seq {m = m} {n = n} {a = a} {b = b} {xs = xs} {ys = ys} {P = P} {P' = P'} {Q = Q} {R = R} one two link = record {
    placed_at = λ p placed.
        let x = one.placed_at p (Placed-left z.code p xs ys placed) in
        let y = two.placed_at (p + 4 * length xs) (Placed-right z.code p xs ys placed) in
        record {
          leak = both x.leak y.leak;
          runs = λ env s rest at fine fit.
              ends_on
              (then_ends (x.runs env s (z.seen (b env) ++ rest) at (z.fine_left (a env) (b env) fine) fit)
              (λ t there done.
              ends_as (y.runs env t rest there (z.fine_right (a env) (b env) fine) (link env s t fit done))
              (counted bound refl) (omega (arith, length-append xs ys))
              (λ u made. record { middle = t; first = done; second = made })))
              (seen_then z (a env) (b env) rest);
        };
  }

  -- the same code, asked more and giving less, counted otherwise, and with its steps otherwise written
  adapt : {m n : ℕ} {a b : Steps z} {is : List Instr} {P P' : Before z} {Q R : After z} → IsCounted bound m n
      → ((env : z.Beside) (s : State) → P' env s → b env ≡ a env)
      → ((env : z.Beside) (s : State) → z.Fine (b env) → P' env s → P env s)
      → ((env : z.Beside) (s t : State) → z.Fine (b env) → P' env s → Q env s t → R env s t)
      → Runs bound z m a is P Q → Runs bound z n b is P' R
  adapt more same before after one = record {
    placed_at = λ p placed.
        let x = one.placed_at p placed in
        record {
          leak = x.leak;
          runs = λ env s rest at fine fit.
              ends_on
              (ends_as (x.runs env s rest at (subst z.Fine (same env s fit) fine) (before env s fine fit)) more refl
              (λ t done. after env s t fine fit done))
              (ap (λ (path : List z.Mark). z.seen path ++ rest) (same env s fit));
        };
  }

  -- asked more and giving less
  pub weaken : {n : ℕ} {steps : Steps z} {is : List Instr} {P P' : Before z} {Q R : After z}
      → ((env : z.Beside) (s : State) → z.Fine (steps env) → P' env s → P env s)
      → ((env : z.Beside) (s t : State) → z.Fine (steps env) → P' env s → Q env s t → R env s t)
      → Runs bound z n steps is P Q → Runs bound z n steps is P' R
  weaken before after one = adapt (counted bound refl) (λ env s fit. refl) before after one

  -- giving less
  pub gives : {n : ℕ} {steps : Steps z} {is : List Instr} {P : Before z} {Q R : After z}
      → ((env : z.Beside) (s t : State) → z.Fine (steps env) → P env s → Q env s t → R env s t)
      → Runs bound z n steps is P Q → Runs bound z n steps is P R
  gives after one = weaken (λ env s fine given. given) after one

  -- with its steps otherwise counted
  pub counting : {m n : ℕ} {steps : Steps z} {is : List Instr} {P : Before z} {Q : After z}
      → IsCounted bound m n → Runs bound z m steps is P Q → Runs bound z n steps is P Q
  counting more one = adapt more (λ env s fit. refl) (λ env s fine fit. fit) (λ env s t fine fit done. done) one

  -- with its steps otherwise written, where it is run or everywhere

  pub along_fit : {n : ℕ} {a b : Steps z} {is : List Instr} {P : Before z} {Q : After z}
      → ((env : z.Beside) (s : State) → P env s → b env ≡ a env) → Runs bound z n a is P Q → Runs bound z n b is P Q
  along_fit same one = adapt (counted bound refl) same (λ env s fine fit. fit) (λ env s t fine fit done. done) one

  pub along : {n : ℕ} {a b : Steps z} {is : List Instr} {P : Before z} {Q : After z}
      → ((env : z.Beside) → b env ≡ a env) → Runs bound z n a is P Q → Runs bound z n b is P Q
  along same one = along_fit (λ env s fit. same env) one

  -- the same code, beside something else
  pub beside : {n : ℕ} {steps : Steps z} {is : List Instr} {P : Before z} {Q : After z} (move : z.Beside → z.Beside)
      → Runs bound z n steps is P Q
      → Runs bound z n (λ env. steps (move env)) is (λ env s. P (move env) s) (λ env s t. Q (move env) s t)
  beside move one = record {
    placed_at = λ p placed.
        let a = one.placed_at p placed in
        record { leak = a.leak; runs = λ env s rest at fine fit. a.runs (move env) s rest at fine fit };
  }

  -- the same instructions, otherwise written
  pub as_code : {n : ℕ} {steps : Steps z} {is js : List Instr} {P : Before z} {Q : After z}
      → js ≡ is → Runs bound z n steps is P Q → Runs bound z n steps js P Q
  as_code {n = n} {steps = steps} {P = P} {Q = Q} same one =
      subst (λ (is : List Instr). Runs bound z n steps is P Q) (sym same) one

  -- code by a test
  pub by_test : {n : ℕ} {steps : Steps z} {xs ys : List Instr} {P : Before z} {Q : After z} (c : Bool)
      → (c ≡ true → Runs bound z n steps xs P Q) → (c ≡ false → Runs bound z n steps ys P Q)
      → Runs bound z n steps (cond c xs ys) P Q
  by_test {n = n} {steps = steps} {xs = xs} {ys = ys} {P = P} {Q = Q} c one other =
      cond_both c xs ys (λ (is : List Instr). Runs bound z n steps is P Q) one other

  -- and then code that puts nothing on the path
  pub quiet : {m n : ℕ} {a : Steps z} {xs ys : List Instr} {P P' : Before z} {Q R : After z}
      → Runs bound z m a xs P Q → Runs bound z n none ys P' R
      → ((env : z.Beside) (s t : State) → P env s → Q env s t → P' env t)
      → Runs bound z (m + n) a (xs ++ ys) P (Then z Q R)
  quiet {a = a} one two link = along (λ env. sym (append-nil (a env))) (seq one two link)

  -- code that puts nothing on the path, and then other code
  pub quietly : {m n : ℕ} {b : Steps z} {xs ys : List Instr} {P P' : Before z} {Q R : After z}
      → Runs bound z m none xs P Q → Runs bound z n b ys P' R
      → ((env : z.Beside) (s t : State) → P env s → Q env s t → P' env t)
      → Runs bound z (m + n) b (xs ++ ys) P (Then z Q R)
  quietly one two link = along (λ env. refl) (seq one two link)

  -- code that is never run
  pub never : {n : ℕ} {steps : Steps z} {is : List Instr} {P : Before z} {Q : After z}
      → ((env : z.Beside) (s : State) → P env s → ⊥) → Runs bound z n steps is P Q
  never none_fits = record {
    placed_at = λ p placed. record {
      leak = always [];
      runs = λ env s rest at fine fit. absurd (none_fits env s fit);
    };
  }

-- At most so many steps.
module _ {z : PieceSetting} where
  -- with a greater cost
  pub cheaper : {m n : ℕ} {steps : Steps z} {is : List Instr} {P : Before z} {Q : After z}
      → m ≤ n → Runs at_most z m steps is P Q → Runs at_most z n steps is P Q
  cheaper more one = counting more one

  -- no instruction, with any cost
  pub idle : {n : ℕ} {P : Before z} {Q : After z} → ((env : z.Beside) (s : State) → P env s → Q env s s)
      → Runs at_most z n none [] P Q
  idle still = cheaper (omega arith) (no_code still)
