-- Pieces in an exact number of steps, wherever they stand, that hang on registers and bytes alone. They are run
-- beside nothing and put nothing on a path, so what they show is one list for all states that they may begin in, which
-- is equal leakage; each step shows what is allowed where x2 is then.
use Rattle.std.proofs.Common.{◌≡◌, ◌≢◌, ℕ, suc, zero, ◌+◌, ◌-◌, ◌*◌, ◌<◌, Bool, true, false, List, [], ◌++◌}
use Rattle.std.proofs.Common.{length, Option, None, inl, inr, refl, sym, ap, ap₂, ◌∙◌, subst, arith, length-append}
use Rattle.std.proofs.lemmas.Bool.{cases_lt}
use Rattle.expression_code.proofs.program_logic_lemmas.Computing.{all_straight, no_access, only_computes}
use Rattle.expression_code.proofs.program_logic_lemmas.Computing.{registers_after}
use Rattle.expression_code.proofs.program_logic_lemmas.Computing.{registers_of}
use Rattle.expression_code.proofs.program_logic_lemmas.Loops.{repeating}
use Rattle.expression_code.proofs.program_logic_lemmas.Pieces as law
use Rattle.expression_code.proofs.program_logic_lemmas.StraightRuns.{one_allowed}
use Rattle.expression_code.proofs.program_logic_lemmas.Symbols.{by_symbols, register_after}
use Rattle.expression_code.specs.program_logic.Jumps.{again_code}
use Rattle.expression_code.specs.program_logic.Pieces as logic
use Rattle.expression_code.specs.program_logic.Pieces.{none, Still, iterations_path}
use Rattle.expression_code.specs.program_logic.StraightCode.{after, after_all, are_straight, AreFit, AreMet, Contents}
use Rattle.expression_code.specs.program_logic.StraightCode.{contents_of, event_of, fit_and, is_straight}
use Rattle.expression_code.specs.program_logic.MachineSteps.{exactly}
use Rattle.expression_code.specs.Below.{ByteMap, MachineCode, Event, Instr, register, State}

-- no access
abbrev pub IsNone : Option Event → Type 0
IsNone event = event ≡ None

-- where pieces stand, and the accesses that are allowed, by x2
pub record Setting : Type 1 where
  pub code : MachineCode
  pub allowed : ℕ → Option Event → Type 0
  pub silent : (sp : ℕ) → allowed sp None

abbrev pub setting : Setting → logic.PieceSetting
setting z = record {
  code = z.code;
  Each = λ s event t. z.allowed (s.regs 2) event;
  each_still = λ s t still. z.silent (s.regs 2);
  Beside = Unit {0};
  Mark = ⊥;
  seen = λ path. path;
  seen_append = λ one other. refl;
  seen_none = refl;
  Fine = λ path. Unit {0};
  fine_none = tt;
  fine_left = λ one other fine. tt;
  fine_right = λ one other fine. tt;
}

-- what a piece asks of registers and bytes, and what it makes of them
abbrev pub Before : Type 1
Before = Contents → Type 0

abbrev pub After : Type 1
After = Contents → Contents → Type 0

pub record Runs (z : Setting) (n : ℕ) (is : List Instr) (P : Before) (R : After) : Type 0 where
  pub piece : logic.Runs exactly (setting z) n none is (λ env s. P (contents_of s))
      (λ env s t. R (contents_of s) (contents_of t))

-- Registers and bytes.

-- other registers
abbrev pub having : (ℕ → ℕ) → Contents → Contents
having regs s = record { regs = regs; bytes = s.bytes }

same_contents : (c : Contents) (t : State) → t.regs ≡ c.regs → t.bytes ≡ c.bytes → c ≡ contents_of t
same_contents c t regs bytes =
    ap₂ (λ (r : ℕ → ℕ) (b : ByteMap). contents_of (record { pc = 0; regs = r; bytes = b })) (sym regs) (sym bytes)

module _ (z : Setting) where
  -- straight-line code
  places_run : {P : Before} {R : After} (works : ℕ → Bool) (Allows : Option Event → Type 0) (Here : Before)
      → ((i : Instr) (a p : ℕ) (c : Contents) (F : Type 0) → is_straight works i ≡ true → fit_and Allows i a F → Here c
      → z.allowed (c.regs 2) (event_of i a) × Here (after i a c))
      → (is : List Instr) (places : List ℕ) → are_straight works is ≡ true → AreFit Allows is places
      → ((s : Contents) → P s → AreMet is places s × Here s) → ((s : Contents) → P s → R s (after_all is places s))
      → Runs z (length is) is P R
  places_run {R = R} works Allows Here each is places plain fit met done = record {
    piece =
        law.gives
        (λ env s t fine given became.
        subst (R (contents_of s)) (same_contents (after_all is places (contents_of s)) t became.regs became.bytes)
        (done (contents_of s) given))
        (by_symbols (setting z) works Allows Here each is places plain fit
        (λ env s given. met (contents_of s) given));
  }

  -- with accesses at these addresses, which leaves x2 where it is
  pub straight_runs : {P : Before} {R : After} (sp : ℕ) (works : ℕ → Bool) (is : List Instr) (places : List ℕ)
      → are_straight works is ≡ true → works 2 ≡ false → AreFit (z.allowed sp) is places
      → ((s : Contents) → P s → s.regs 2 ≡ sp)
      → ((s : Contents) → P s → AreMet is places s) → ((s : Contents) → P s → R s (after_all is places s))
      → Runs z (length is) is P R
  straight_runs sp works is places plain still fit stands met done =
      places_run works (z.allowed sp) (λ c. c.regs 2 ≡ sp)
      (λ i a p c F ok may here. (
        subst (λ x. z.allowed x (event_of i a)) (sym here) (one_allowed (z.allowed sp) (z.silent sp) i a F may),
        register_after works i a c 2 ok still ∙ here,
      ))
      is places plain fit (λ s given. (met s given, stands s given)) done

  -- and without accesses
  pub silent_runs : {P : Before} {R : After} (works : ℕ → Bool) (is : List Instr) (places : List ℕ)
      → are_straight works is ≡ true → AreFit IsNone is places
      → ((s : Contents) → P s → AreMet is places s) → ((s : Contents) → P s → R s (after_all is places s))
      → Runs z (length is) is P R
  silent_runs works is places plain fit met done =
      places_run works IsNone (λ c. Unit {0})
      (λ i a p c F ok may here. (
        subst (λ (e : Option Event). z.allowed (c.regs 2) e) (sym (one_allowed IsNone refl i a F may))
            (z.silent (c.regs 2)),
        tt,
      ))
      is places plain fit (λ s given. (met s given, tt)) done

  -- code that only computes, with what it makes of the registers
  pub computes_runs : {P : Before} (works : ℕ → Bool) (is : List Instr) (made : (ℕ → ℕ) → ℕ → ℕ)
      → only_computes works is ≡ true → ((regs : ℕ → ℕ) → registers_after is regs ≡ made regs)
      → Runs z (length is) is P (λ s t. t ≡ having (made s.regs) s)
  computes_runs works is made plain same =
      let access = no_access works IsNone is plain in
      silent_runs works is [] (all_straight works is plain) access.0 (λ s given. access.1 s)
      (λ s given. registers_of works is s plain ∙ ap (λ (regs : ℕ → ℕ). having regs s) (same s.regs))

  -- no code
  pub no_code : {P : Before} {R : After} → ((s : Contents) → P s → R s s) → Runs z 0 [] P R
  no_code same = record { piece = law.no_code (λ env s given. same (contents_of s) given) }

  -- one after the other
  pub then_runs : {P P' : Before} {R R' S : After} {m n : ℕ} {xs ys : List Instr} → Runs z m xs P R
      → Runs z n ys P' R'
      → ((s t : Contents) → P s → R s t → P' t) → ((s t u : Contents) → P s → R s t → R' t u → S s u)
      → Runs z (m + n) (xs ++ ys) P S
  then_runs one two link both = record {
    piece =
        law.gives
        (λ env s u fine given made.
        both (contents_of s) (contents_of made.middle) (contents_of u) given made.first made.second)
        (law.quiet one.piece two.piece (λ env s t given done. link (contents_of s) (contents_of t) given done));
  }

  -- and where the first makes of a state what a function gives
  pub makes_then : {P P' : Before} {f : Contents → Contents} {R S : After} {m n : ℕ} {xs ys : List Instr}
      → Runs z m xs P (λ s t. t ≡ f s) → Runs z n ys P' R
      → ((s : Contents) → P s → P' (f s)) → ((s u : Contents) → P s → R (f s) u → S s u)
      → Runs z (m + n) (xs ++ ys) P S
  makes_then {P' = P'} {R = R} one two link both =
      then_runs one two (λ s t given made. subst P' (sym made) (link s given))
      (λ s t u given made more. both s u given (subst (λ (x : Contents). R x u) made more))

  -- straight code, in as many steps as both have instructions
  pub makes_on : {P P' : Before} {f : Contents → Contents} {R S : After} {xs ys : List Instr}
      → Runs z (length xs) xs P (λ s t. t ≡ f s) → Runs z (length ys) ys P' R
      → ((s : Contents) → P s → P' (f s)) → ((s u : Contents) → P s → R (f s) u → S s u)
      → Runs z (length (xs ++ ys)) (xs ++ ys) P S
  makes_on {P = P} {S = S} {xs = xs} {ys = ys} one two link both =
      subst (λ n. Runs z n (xs ++ ys) P S) (sym (length-append xs ys)) (makes_then one two link both)

  -- asked more, giving less
  pub weaken_runs : {P P' : Before} {R R' : After} {n : ℕ} {is : List Instr} → Runs z n is P R
      → ((s : Contents) → P' s → P s) → ((s t : Contents) → P' s → R s t → R' s t) → Runs z n is P' R'
  weaken_runs one before behind = record {
    piece =
        law.weaken (λ env s fine given. before (contents_of s) given)
        (λ env s t fine given done. behind (contents_of s) (contents_of t) given done) one.piece;
  }

  -- in as many steps, otherwise written
  pub in_steps : {P : Before} {R : After} {m n : ℕ} {is : List Instr} → m ≡ n → Runs z m is P R → Runs z n is P R
  in_steps {P = P} {R = R} {is = is} counts one = subst (λ k. Runs z k is P R) counts one

  -- the same code, otherwise written
  pub as_code : {P : Before} {R : After} {n : ℕ} {is js : List Instr} → is ≡ js → Runs z n is P R → Runs z n js P R
  as_code {P = P} {R = R} {n = n} same one = subst (λ (xs : List Instr). Runs z n xs P R) same one

  -- straight code, otherwise written
  pub as_straight : {P : Before} {R : After} {is js : List Instr} → is ≡ js
      → Runs z (length is) is P R → Runs z (length js) js P R
  as_straight {P = P} {R = R} same one = subst (λ (xs : List Instr). Runs z (length xs) xs P R) same one

-- a loop puts nothing on a path where its rounds do not
no_path : {S M : Type 0} (left i : ℕ) (iteration : ℕ → S → S) (env : S) → iterations_path {M = M} left i iteration
    (λ j. none) env ≡ []
no_path zero i iteration env = refl
no_path (suc left) i iteration env = no_path left (i + 1) iteration (iteration i env)

-- A loop that goes back by a branch, in k rounds. What holds of a state after i of them is said of it and of the state
-- before the first (Inv i).
module _ (z : Setting) (one other : ℕ) (small : (one < 32) × (other < 32)) (body : List Instr) (some : 0 < length body)
    (few : length body < 1024) {n : ℕ} (k : ℕ) (Inv : ℕ → Contents → Contents → Type 0)
    (round : (i : ℕ) → i < k → Runs z n body (λ d. (s : Contents) × Inv i s d)
    (λ d t. (s : Contents) → Inv i s d → Inv (suc i) s t))
    (more : (i : ℕ) (s d : Contents) → i < k → Inv i s d → register d.regs one ≢ register d.regs other)
    (over : (s d : Contents) → Inv k s d → register d.regs one ≡ register d.regs other) where
  -- after i rounds, with so many to go behind the next
  record Round (left i : ℕ) (o s : State) : Type 0 where
    count : suc (left + i) ≡ k
    holds : Inv i (contents_of o) (contents_of s)

  record Begun (i : ℕ) (s : State) : Type 0 where
    below : i < k
    held : (o : Contents) × Inv i o (contents_of s)

  round_runs : (i : ℕ)
      → logic.Runs exactly (setting z) n none body (λ env s. Begun i s)
      (λ env s t. (o : Contents) → Inv i o (contents_of s) → Inv (suc i) o (contents_of t))
  round_runs i = elim (cases_lt i k) [
    | inl below ↦
        law.weaken (λ env s fine begun. begun.held) (λ env s t fine begun done. done) (round i below).piece
    | inr past ↦ law.never (λ env s begun. let below = begun.below in omega arith)
  ]

  next : (i j : ℕ) (o t u : State) → suc i ≡ j → Still t u → Inv (suc i) (contents_of o) (contents_of t)
      → Inv j (contents_of o) (contents_of u)
  next i j o t u same still holds =
      subst (λ h. Inv h (contents_of o) (contents_of u)) same
      (subst (Inv (suc i) (contents_of o)) (same_contents (contents_of t) u still.regs still.bytes) holds)

  rounds_run : (left : ℕ) → suc left ≡ k
      → logic.Runs exactly (setting z) ((left + 1) * (n + 1)) none (again_code one other body)
      (λ env s. Round left 0 s s) (λ env s t. Inv k (contents_of s) (contents_of t))
  rounds_run left count =
      law.along (λ env. sym (no_path (suc left) 0 (λ i env. env) env))
      (repeating one other small.0 small.1 (λ i. none) (λ i env. env)
      (λ left i env o s. Round left i o s) (λ env o s. Inv k (contents_of o) (contents_of s)) some (omega arith)
      (λ left i env o s held. let count = held.count in
      record { below = omega arith; held = (contents_of o, held.holds) })
      (λ left i env o s t held done. let count = held.count in
      more (suc i) (contents_of o) (contents_of t) (omega arith) (done (contents_of o) held.holds))
      (λ i env o s t held done. let count = held.count in
      over (contents_of o) (contents_of t)
      (next i k o t t (omega arith) (record { regs = refl; bytes = refl }) (done (contents_of o) held.holds)))
      (λ left i env o s t u held done still. let count = held.count in
      record {
        count = omega arith;
        holds = next i (i + 1) o t u (omega arith) still (done (contents_of o) held.holds);
      })
      (λ i env o s t u held done still. let count = held.count in
      next i k o t u (omega arith) still (done (contents_of o) held.holds))
      (λ left i. round_runs i) left 0)

  pub loop : {P : Before} {R : After} → 0 < k
      → ((s : Contents) → P s → Inv 0 s s) → ((s t : Contents) → P s → Inv k s t → R s t)
      → Runs z (k * suc n) (again_code one other body) P R
  loop positive begins ends =
      let all : k - 1 + 1 ≡ k = omega arith in
      let each : n + 1 ≡ suc n = omega arith in
      record {
        piece =
            law.counting (ap₂ (λ x y. x * y) all each)
            (law.weaken (λ env s fine given. record { count = omega arith; holds = begins (contents_of s) given })
            (λ env s t fine given done. ends (contents_of s) (contents_of t) given done)
            (rounds_run (k - 1) (omega arith)));
      }
