-- How many bodies are open at once in a run: no more than in the text.
use Rattle.std.proofs.Common.{◌≡◌, ℕ, zero, suc, ◌+◌, ◌-◌, ◌≤◌, Bool, true, false, if◌then◌else◌, List, [], ◌∷◌}
use Rattle.std.proofs.Common.{Option, Some, None, max, sym, subst, arith}
use Rattle.std.proofs.Math.Nat.{max-le, le-max_left, le-max_right}
use Rattle.std.specs.Str.{bytes_eq}
use Rattle.source_eval.specs.Below.{andthen, Arg, array, assignment, begun, block_bodies, BlockTree, bodies_of}
use Rattle.source_eval.specs.Below.{bodies_of_called, body_run, call, call_run, called, CallTree, computed, conditional}
use Rattle.source_eval.specs.Below.{continued, counting, declaration, element_assignment, Ending, export_run, exported}
use Rattle.source_eval.specs.Below.{ExprTree, Extent, extent_of, Extents, extents_of, faults, first, found_run, gives}
use Rattle.source_eval.specs.Below.{holding, inside, loop, nothing, passed, ProcedureTree, program_run, ProgramTree}
use Rattle.source_eval.specs.Below.{right_bodies, right_run, RightTree, Run, run, run_all, Runnable, runnable}
use Rattle.source_eval.specs.Below.{Runnables, runnables, State, statement_bodies, StatementTree, tick, truth_of}
use Rattle.source_eval.specs.Below.{iterations, value, word_arguments}
use Rattle.language.specs.Known.{first_known, known_from, nothing_known, with_known}
use Rattle.source_eval.proofs.RunLemmas.{value_opens, passed_open, return_opens, array_opens}

-- a part and a next one
continued_open : {A B : Type 0} (most nodes bodies : ℕ) (ending : Ending A) (next : A → Run B) → bodies ≤ most
    → ((a : A) → (next a).bodies ≤ most) → (continued nodes bodies ending next).bodies ≤ most
continued_open most nodes bodies (gives a) next h k = max-le h (k a)
continued_open most nodes bodies (faults place) next h k = h

then_open : {A B : Type 0} (most : ℕ) (r : Run A) (next : A → Run B) → r.bodies ≤ most
    → ((a : A) → (next a).bodies ≤ most) → (andthen r next).bodies ≤ most
unfolding andthen
then_open most r next h k = continued_open most r.nodes r.bodies r.ends next h k

-- what opens none
none_open : (most n : ℕ) → n ≡ 0 → n ≤ most
none_open most n h = omega (arith, h)

-- so many iterations
iterations_open : (most : ℕ) (iteration : ℕ → State → Run State) → ((i : ℕ) (s : State) → (iteration i s).bodies ≤ most)
    → (n i : ℕ) (s : State) → (iterations n i iteration s).bodies ≤ most
unfolding tick
iterations_open most iteration each zero i s = omega arith
iterations_open most iteration each (suc n) i s =
    then_open most (iteration i s) _ (each i s) (λ t. iterations_open most iteration each n (i + 1) t)

-- one of two runs
one_open : (a b : ℕ) (accepted otherwise : Run State) → accepted.bodies ≤ a → otherwise.bodies ≤ b → (test : Bool)
    → (if test then accepted else otherwise).bodies ≤ max a b
one_open a b accepted otherwise h k true = omega (arith, h, le-max_left a b)
one_open a b accepted otherwise h k false = omega (arith, k, le-max_right a b)

-- Calls.

-- a known procedure opens as many as are counted for it
abbrev IsOpened : Option Runnable → Option Extent → Type 0
IsOpened None None = Unit {0}
IsOpened None (Some extent) = ⊥
IsOpened (Some known) None = ⊥
IsOpened (Some known) (Some extent) = (s : State) → (known.body s).bodies + 1 ≤ extent.bodies

abbrev AreOpened : Runnables → Extents → Type 0
AreOpened known extents = (name : List ℕ) → IsOpened (known name) (extents name)

call_open : (known : Option Runnable) (extent : Option Extent) → IsOpened known extent → (s : State) (c : CallTree)
    → (call_run known s c).bodies ≤ bodies_of_called extent
unfolding tick inside
call_open None None opened s c = omega arith
call_open None (Some extent) opened s c = absurd opened
call_open (Some known) None opened s c = absurd opened
call_open (Some known) (Some extent) opened s c =
    let words = word_arguments known.procedure.parameters c.arguments in
    then_open _ _ _ (none_open extent.bodies (passed s words).bodies (passed_open s words)) (λ vs.
    then_open _ _ _ (opened (begun s known.procedure.parameters c.arguments vs)) (λ r. omega arith))

module _ (known : Runnables) (extents : Extents) (opened : AreOpened known extents) where
  value_open : (most : ℕ) (s : State) (e : ExprTree) → (value s e).bodies ≤ most
  value_open most s e = none_open most (value s e).bodies (value_opens s e)

  right_open : (s : State) (right : RightTree) → (right_run known s right).bodies ≤ right_bodies extents right
  right_open s (called c) = call_open (known c.name) (extents c.name) (opened c.name) s c
  right_open s (computed e) = then_open 0 (value s e) _ (value_open 0 s e) (λ v. omega arith)

  mutual
    unfolding tick

    statement_open : (statement : StatementTree) (s : State)
        → (run known s statement).bodies ≤ statement_bodies extents statement
    statement_open (declaration place label mutable kind text right) s =
        then_open _ _ _ (right_open s right) (λ r. omega arith)
    statement_open (array place label mutable kind size text initial) s =
        none_open 0 _ (array_opens s text kind size initial)
    statement_open (assignment place target text right) s =
        then_open _ _ _ (right_open s right) (λ r. omega arith)
    statement_open (element_assignment place bracket target text index right) s =
        then_open _ _ _ (value_open _ s index) (λ i. then_open _ _ _ (omega arith) (λ old.
        then_open _ _ _ (right_open s right) (λ r. omega arith)))
    statement_open (call c) s =
        then_open _ _ _ (call_open (known c.name) (extents c.name) (opened c.name) s c) (λ r. omega arith)
    statement_open (conditional place condition accepted otherwise) s =
        then_open _ _ _ (value_open _ s condition) (λ c.
        one_open _ _ _ _ (block_open accepted s) (block_open otherwise s) (truth_of c.value))
    statement_open (loop place counter text low high body) s =
        then_open _ _ _ (value_open _ s low) (λ a. then_open _ _ _ (value_open _ s high) (λ b.
        iterations_open _ _ (λ i t. block_open body (counting t text i)) (b.value - a.value) a.value s))

    block_open : (block : BlockTree) (s : State) → (run_all known s block).bodies ≤ block_bodies extents block
    block_open nothing s = omega arith
    block_open (first statement rest) s =
        let most = max (statement_bodies extents statement) (block_bodies extents rest) in
        then_open most (run known s statement) _
        (omega (
          arith,
          statement_open statement s,
          le-max_left (statement_bodies extents statement) (block_bodies extents rest),
        ))
        (λ t. omega (
          arith,
          block_open rest t,
          le-max_right (statement_bodies extents statement) (block_bodies extents rest),
        ))

  body_open : (p : ProcedureTree) (s : State) → (body_run known p s).bodies ≤ block_bodies extents p.body
  body_open p s = then_open (block_bodies extents p.body) (run_all known s p.body) _ (block_open p.body s)
      (λ t. none_open (block_bodies extents p.body) _ (return_opens t p.returned))

  -- with one more procedure
  one_more_opened : (p : ProcedureTree)
      → AreOpened (with_known known p.name (runnable known p)) (with_known extents p.name (extent_of extents p))
  one_more_opened p name = by_name (known name) (extents name) (opened name) (bytes_eq name p.name)
    where
      by_name : (one : Option Runnable) (extent : Option Extent) → IsOpened one extent → (same : Bool)
          → IsOpened (first_known one (if same then Some (runnable known p) else None))
          (first_known extent (if same then Some (extent_of extents p) else None))
      by_name None None both true = λ s. omega (arith, body_open p s)
      by_name None None both false = tt
      by_name None (Some extent) both same = absurd both
      by_name (Some one) None both same = absurd both
      by_name (Some one) (Some extent) both same = both

-- Programs.

all_opened : (ps : List ProcedureTree) (known : Runnables) (extents : Extents) → AreOpened known extents
    → AreOpened (known_from runnable known ps) (known_from extent_of extents ps)
all_opened [] known extents opened = opened
all_opened (p ∷ ps) known extents opened =
    all_opened ps (with_known known p.name (runnable known p)) (with_known extents p.name (extent_of extents p))
    (one_more_opened known extents opened p)

export_opens : (before : List ProcedureTree) (p : ProcedureTree) (args : List Arg)
    → (export_run before p args).bodies ≤ bodies_of (extents_of before) p
unfolding inside
export_opens before p args =
    let known = runnables before in
    let opened = all_opened before nothing_known (λ text. None) (λ name. tt) in
    then_open (bodies_of (extents_of before) p) (inside (body_run known p (holding p.parameters args))) _
    (omega (arith, body_open known (extents_of before) opened p (holding p.parameters args))) (λ r. omega arith)

pub program_opens : (program : ProgramTree) (args : List Arg) (before : List ProcedureTree) (p : ProcedureTree)
    → exported [] program.procedures ≡ Some (before, p)
    → (program_run program args).bodies ≤ bodies_of (extents_of before) p
program_opens program args before p is =
    subst (λ (found : Option (List ProcedureTree × ProcedureTree)). (found_run found args).bodies
    ≤ bodies_of (extents_of before) p) (sym is) (export_opens before p args)
