-- Pieces that are run where they stand, since they hang on what stands elsewhere: as pieces that run anywhere, but for
-- one address.
use Rattle.std.proofs.Common.{◌≡◌, ℕ, ◌+◌, ◌*◌, List, [], ◌++◌, length, Option, Some, None, refl, sym, ap}
use Rattle.std.proofs.Common.{subst, arith, length-append}
use Rattle.expression_code.proofs.program_logic_lemmas.Counted.{Runs, Setting, setting}
use Rattle.expression_code.proofs.program_logic_lemmas.Pieces.{ends_to, then_ends}
use Rattle.expression_code.specs.program_logic.MachineSteps.{exactly}
use Rattle.expression_code.specs.program_logic.Pieces as logic
use Rattle.expression_code.specs.program_logic.Pieces.{none}
use Rattle.expression_code.specs.program_logic.StraightCode.{contents_of}
use Rattle.linked_calls.proofs.Below.{AreThere, at, Data, Does, Instr, LeadsWithin, MachineCode, Observation, Placed}
use Rattle.linked_calls.proofs.Below.{State}
use Rattle.linked_calls.specs.Copies.{CopierStands}
use Rattle.linked_calls.specs.FunctionCode.{copier_code}
use Rattle.linked_calls.specs.declared.round.Round.{Round}

pub record RunsHere (z : Setting) (p n : ℕ) (is : List Instr) (P : Data → Type 0) (R : Data → Data → Type 0) : Type 0 where
  pub piece : logic.RunsAt exactly (setting z) p n none is (λ env s. P (contents_of s))
      (λ env s t. R (contents_of s) (contents_of t))

-- from an address to another, by whatever stands there
pub record RunsTo (z : Setting) (p q n : ℕ) (P : Data → Type 0) (R : Data → Data → Type 0) : Type 0 where
  pub leak : logic.Leak (setting z)
  pub runs : (s : State) (rest : List ⊥) → s.pc ≡ p → P (contents_of s)
      → logic.Ends exactly (setting z) n q leak rest rest (λ t. R (contents_of s) (contents_of t)) s

-- so many steps from one address to another, which show this list
pub record Gone (z : Setting) (p q n : ℕ) (list : List Observation) (R : Data → Data → Type 0) (s : Data) : Type 0 where
  pub end : Data
  pub leads : LeadsWithin z.code z.allowed n (at p s) list (at q end)
  pub done : R s end

-- a copier that stands behind two pieces of code stands behind the first of them, and so behind where the second begins
pub behind_first : (code : MachineCode) (p : ℕ) (xs ys : List Instr) (behind : ℕ) (copier : Option Round)
    → CopierStands code p (length (xs ++ ys) + behind) copier
    → CopierStands code (p + 4 * length xs) (length ys + behind) copier
behind_first code p xs ys behind None stands = tt
behind_first code p xs ys behind (Some round) stands =
    let count = length-append xs ys in
    let e : p + 4 * (length (xs ++ ys) + behind) ≡ p + 4 * length xs + 4 * (length ys + behind) = omega arith in
    (omega (arith, stands.0), subst (λ q. AreThere code q (copier_code round)) e stands.1)

module _ (z : Setting) where
  -- a piece that runs anywhere
  pub here : {p n : ℕ} {is : List Instr} {P : Data → Type 0} {R : Data → Data → Type 0} → Placed z.code p is
      → Runs z n is P R → RunsHere z p n is P R
  here {p = p} placed one = record { piece = one.piece.placed_at p placed }

  -- one after the other
  pub then_here : {p m n : ℕ} {xs ys : List Instr} {P P' : Data → Type 0} {R R' S : Data → Data → Type 0}
      → RunsHere z p m xs P R → RunsHere z (p + 4 * length xs) n ys P' R'
      → ((s t : Data) → P s → R s t → P' t) → ((s t u : Data) → P s → R s t → R' t u → S s u)
      → RunsHere z p (m + n) (xs ++ ys) P S
  then_here {p = p} {xs = xs} {ys = ys} one two link both =
      let all : p + 4 * length xs + 4 * length ys ≡ p + 4 * length (xs ++ ys) = omega (arith, length-append xs ys) in
      record {
        piece = record {
          leak = logic.both one.piece.leak two.piece.leak;
          runs = λ env s rest at fine given.
              then_ends (one.piece.runs env s rest at tt given)
              (λ t there done.
              ends_to (two.piece.runs env t rest there tt (link (contents_of s) (contents_of t) given done)) all
              (λ u more. both (contents_of s) (contents_of t) (contents_of u) given done more));
        };
      }

  -- asked more, giving less
  pub weaken_here : {p n : ℕ} {is : List Instr} {P P' : Data → Type 0} {R R' : Data → Data → Type 0}
      → RunsHere z p n is P R → ((s : Data) → P' s → P s) → ((s t : Data) → P' s → R s t → R' s t)
      → RunsHere z p n is P' R'
  weaken_here one before behind = record {
    piece = record {
      leak = one.piece.leak;
      runs = λ env s rest at fine given.
          ends_to (one.piece.runs env s rest at tt (before (contents_of s) given)) refl
          (λ t done. behind (contents_of s) (contents_of t) given done);
    };
  }

  -- in as many steps, otherwise written
  pub counted_here : {p m n : ℕ} {is : List Instr} {P : Data → Type 0} {R : Data → Data → Type 0} → m ≡ n
      → RunsHere z p m is P R → RunsHere z p n is P R
  counted_here {p = p} {is = is} {P = P} {R = R} counts one = subst (λ k. RunsHere z p k is P R) counts one

  -- up to where its instructions end
  pub to_end : {p n : ℕ} {is : List Instr} {P : Data → Type 0} {R : Data → Data → Type 0}
      → RunsHere z p n is P R → RunsTo z p (p + 4 * length is) n P R
  to_end one = record {
    leak = one.piece.leak;
    runs = λ s rest at given. one.piece.runs tt s rest at tt given;
  }

  -- and from there on
  pub then_to : {p q r m n : ℕ} {P P' : Data → Type 0} {R R' S : Data → Data → Type 0}
      → RunsTo z p q m P R → RunsTo z q r n P' R'
      → ((s t : Data) → P s → R s t → P' t) → ((s t u : Data) → P s → R s t → R' t u → S s u)
      → RunsTo z p r (m + n) P S
  then_to one two link both = record {
    leak = logic.both one.leak two.leak;
    runs = λ s rest at given.
        then_ends (one.runs s rest at given)
        (λ t there done.
        ends_to (two.runs t rest there (link (contents_of s) (contents_of t) given done)) refl
        (λ u more. both (contents_of s) (contents_of t) (contents_of u) given done more));
  }

  -- what is shown is read off no path, so it is one list
  pub goes : {p q n : ℕ} {P : Data → Type 0} {R : Data → Data → Type 0} (one : RunsTo z p q n P R) (s : Data) → P s
      → Gone z p q n (one.leak []).0 R s
  goes {p = p} {q = q} {n = n} one s given =
      let run = one.runs (at p s) [] refl given in
      let end = contents_of run.end in
      let same : run.seen ≡ (one.leak []).0 = sym (ap (λ (r : List Observation × List ⊥). r.0) run.shown) in
      record {
        end = end;
        leads =
            subst (λ x. LeadsWithin z.code z.allowed n (at p s) (one.leak []).0 (at x end)) run.at
            (subst (λ list. LeadsWithin z.code z.allowed n (at p s) list run.end) same
            (subst (λ k. LeadsWithin z.code z.allowed k (at p s) run.seen run.end) run.within run.leads));
        done = run.done;
      }

  pub does_here : {start n : ℕ} {is : List Instr} {P : Data → Type 0} {R : Data → Data → Type 0}
      → RunsHere z start n is P R → Does z.code start is n z.allowed P R
  unfolding to_end
  does_here one = record {
    shown = (one.piece.leak []).0;
    runs = λ s given.
        let gone = goes (to_end one) s given in
        record { end = gone.end; leads = gone.leads; done = gone.done };
  }
