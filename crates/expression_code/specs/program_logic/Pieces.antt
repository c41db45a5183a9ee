-- Pieces of code. A piece has a cost, the steps that it takes, exactly or at most, and what it shows is read off the
-- part of a path that the observer sees, before any state is given: it reads what it puts there and hands on the rest.
-- So a piece that follows another reads on where that one has ended, and nobody has to say where the path is cut. A
-- branch and a loop look at the next mark and choose by it. Each piece may count on it that its part of the path is
-- fine.
--
-- What a path's marks are, what holds of each step, and what pieces are run beside (a state of the program that the
-- code is for), is left open.
use Rattle.std.specs.Prelude.{◌≡◌, ℕ, ◌+◌, ◌*◌, List, [], ◌++◌, length, Option, None}
use Rattle.std.proofs.Common.{zero, suc}
use Rattle.expression_code.specs.program_logic.Placed.{Placed}
use Rattle.expression_code.specs.program_logic.StraightCode.{contents_of, after_all}
use Rattle.expression_code.specs.program_logic.MachineSteps.{Bound, IsCounted, LeadsBy}
use Rattle.expression_code.specs.Below.{MachineCode, Event, Instr, Observation, State}

-- only the program counter has changed
pub record Still (s t : State) : Type 0 where
  pub regs : t.regs ≡ s.regs
  pub bytes : t.bytes ≡ s.bytes

-- where pieces stand, what holds of each of their steps, what they are run beside, and the marks of paths: what the
-- observer sees of a path, and when one is fine
pub record PieceSetting : Type 1 where
  pub code : MachineCode
  pub Each : State → Option Event → State → Type 0
  pub each_still : (s t : State) → Still s t → Each s None t
  pub Beside : Type 0
  pub Mark : Type 0
  pub seen : List Mark → List Mark
  pub seen_append : (one other : List Mark) → seen (one ++ other) ≡ seen one ++ seen other
  pub seen_none : seen [] ≡ []
  pub Fine : List Mark → Type 0
  pub fine_none : Fine []
  pub fine_left : (one other : List Mark) → Fine (one ++ other) → Fine one
  pub fine_right : (one other : List Mark) → Fine (one ++ other) → Fine other

-- what a piece of code asks of a state, and what it makes of it
abbrev pub Before : PieceSetting → Type 1
Before z = z.Beside → State → Type 0

abbrev pub After : PieceSetting → Type 1
After z = z.Beside → State → State → Type 0

-- what a piece of code puts on the path
abbrev pub Steps : PieceSetting → Type 0
Steps z = z.Beside → List z.Mark

abbrev pub none : {B M : Type 0} → B → List M
none env = []

-- what is seen on a path, and what of it is left
abbrev pub Leak : PieceSetting → Type 0
Leak z = List z.Mark → List Observation × List z.Mark

abbrev pub always : {M : Type 0} → List Observation → List M → List Observation × List M
always seen path = (seen, path)

abbrev pub both : {M : Type 0} → (List M → List Observation × List M) → (List M → List Observation × List M) → List M
    → List Observation × List M
both one two path = ((one path).0 ++ (two (one path).1).0, (two (one path).1).1)

-- so many steps to an address, on a path of which the rest is left, and the state after them
pub record Ends (bound : Bound) (z : PieceSetting) (cost q : ℕ) (leak : Leak z) (path rest : List z.Mark) (Q : State
    → Type 0) (s : State) : Type 0 where
  pub step_count : ℕ
  pub end : State
  pub seen : List Observation
  pub leads : LeadsBy z.code z.Each step_count s seen end
  pub within : IsCounted bound step_count cost
  pub shown : leak path ≡ (seen, rest)
  pub at : end.pc ≡ q
  pub done : Q end

-- instructions at an address, run from any state that is fit for them
pub record RunsAt (bound : Bound) (z : PieceSetting) (p cost : ℕ) (steps : Steps z) (is : List Instr) (P : Before z)
    (Q : After z) : Type 0 where
  pub leak : Leak z
  pub runs : (env : z.Beside) (s : State) (rest : List z.Mark) → s.pc ≡ p → z.Fine (steps env) → P env s
      → Ends bound z cost (p + 4 * length is) leak (z.seen (steps env) ++ rest) rest (Q env s) s

-- instructions run wherever they stand
pub record Runs (bound : Bound) (z : PieceSetting) (cost : ℕ) (steps : Steps z) (is : List Instr) (P : Before z)
    (Q : After z) : Type 0 where
  pub placed_at : (p : ℕ) → Placed z.code p is → RunsAt bound z p cost steps is P Q

-- one change, and then another
pub record Then (z : PieceSetting) (Q R : After z) (env : z.Beside) (s u : State) : Type 0 where
  pub middle : State
  pub first : Q env s middle
  pub second : R env middle u

-- registers and bytes are those after straight-line instructions with accesses at these addresses
pub record Became (is : List Instr) (places : List ℕ) (s t : State) : Type 0 where
  pub regs : t.regs ≡ (after_all is places (contents_of s)).regs
  pub bytes : t.bytes ≡ (after_all is places (contents_of s)).bytes

-- so many iterations, the first at this number: what each makes of a state, and the path of each
abbrev pub iterations_after : {S : Type 0} → ℕ → ℕ → (ℕ → S → S) → S → S
iterations_after zero i iteration s = s
iterations_after (suc n) i iteration s = iterations_after n (i + 1) iteration (iteration i s)

abbrev pub iterations_path : {S M : Type 0} → ℕ → ℕ → (ℕ → S → S) → (ℕ → S → List M) → S → List M
iterations_path zero i iteration path s = []
iterations_path (suc n) i iteration path s = path i s ++ iterations_path n (i + 1) iteration path (iteration i s)
