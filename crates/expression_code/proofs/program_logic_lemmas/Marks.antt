-- Code behind a mark on the path knows beforehand what the mark carries.
use Rattle.std.proofs.Common.{◌≡◌, ℕ, List, [], ◌∷◌, ◌++◌, Option, Some, None, refl, ap, ◌∙◌}
use Rattle.expression_code.proofs.program_logic_lemmas.Pieces.{ends_by}
use Rattle.expression_code.specs.program_logic.Pieces.{PieceSetting, Steps, Before, After, Runs}
use Rattle.expression_code.specs.program_logic.MachineSteps.{Bound}
use Rattle.expression_code.specs.Below.{Instr, Observation, State}

-- a kind of marks that the observer sees, with what they carry, and what is known of that where the path is fine
pub record MarkKind (z : PieceSetting) (A : Type 0) (Good : A → Type 0) : Type 0 where
  pub mark : A → z.Mark
  pub read : z.Mark → Option A
  pub told : (x : A) → read (mark x) ≡ Some x
  pub seen : (x : A) (path : List z.Mark) → z.seen (mark x ∷ path) ≡ mark x ∷ z.seen path
  pub good : (x : A) (path : List z.Mark) → z.Fine (mark x ∷ path) → Good x

-- what the mark carries is this
pub record MarkKnown (z : PieceSetting) (A : Type 0) (Good : A → Type 0) (P : Before z) (value : z.Beside
    → A) (x : A) (env : z.Beside) (s : State) : Type 0 where
  pub given : P env s
  pub is : value env ≡ x
  pub good : Good x

abbrev by_value : {A M : Type 0} → (A → List M → List Observation × List M) → List M → Option A
    → List Observation × List M
by_value leak rest (Some x) = leak x rest
by_value leak rest None = ([], rest)

abbrev by_mark_leak : {A M : Type 0} → (M → Option A) → (A → List M → List Observation × List M) → List M
    → List Observation × List M
by_mark_leak read leak [] = ([], [])
by_mark_leak read leak (mark ∷ rest) = by_value leak rest (read mark)

module _ {bound : Bound} {z : PieceSetting} {A : Type 0} {Good : A → Type 0} (kind : MarkKind z A Good) where
  -- code for each thing that the mark may carry
  pub by_mark : {n : ℕ} {steps : Steps z} {is : List Instr} {P : Before z} {Q : After z} (value : z.Beside → A)
      → ((x : A) → Runs bound z n steps is (MarkKnown z A Good P value x) Q)
      → Runs bound z n (λ env. kind.mark (value env) ∷ steps env) is P Q
  by_mark {steps = steps} value each = record {
    placed_at = λ p placed. record {
      leak = by_mark_leak kind.read (λ x. ((each x).placed_at p placed).leak);
      runs = λ env s rest at fine fit.
          let x = value env in
          let piece = (each x).placed_at p placed in
          let leak = λ (y : A). ((each y).placed_at p placed).leak in
          ends_by (piece.runs env s rest at (z.fine_right (kind.mark x ∷ []) (steps env) fine)
          (record { given = fit; is = refl; good = kind.good x (steps env) fine }))
          (ap (λ (path : List z.Mark). by_mark_leak kind.read leak (path ++ rest)) (kind.seen x (steps env))
          ∙ ap (by_value leak (z.seen (steps env) ++ rest)) (kind.told x));
    };
  }
