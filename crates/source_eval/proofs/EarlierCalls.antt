-- Programs whose calls are of earlier procedures.
use Rattle.std.proofs.Common.{◌≡◌, ℕ, List, [], ◌∷◌, ◌++◌, Some}
use Rattle.source_eval.specs.Below.{array, assignment, BlockTree, call, called, computed, conditional, declaration}
use Rattle.source_eval.specs.Below.{element_assignment, first, loop, named, nothing, ProcedureTree, RightTree}
use Rattle.source_eval.specs.Below.{StatementTree}
use Rattle.source_eval.proofs.Below.{Found}

-- one of these procedures has the name
abbrev pub IsNamed : List ProcedureTree → List ℕ → Type 0
IsNamed earlier text = (found : Found) × (named [] earlier text ≡ Some found)

abbrev pub RightKnown : List ProcedureTree → RightTree → Type 0
RightKnown earlier (called c) = IsNamed earlier c.name
RightKnown earlier (computed e) = Unit {0}

abbrev mutual
  -- each call in it is of one of these procedures
  pub StatementKnown : List ProcedureTree → StatementTree → Type 0
  StatementKnown earlier (declaration place label mutable kind text right) = RightKnown earlier right
  StatementKnown earlier (array place label mutable kind size text values) = Unit {0}
  StatementKnown earlier (assignment place target text right) = RightKnown earlier right
  StatementKnown earlier (element_assignment place bracket target text index right) = RightKnown earlier right
  StatementKnown earlier (call c) = IsNamed earlier c.name
  StatementKnown earlier (conditional place condition accepted otherwise) = BlockKnown earlier accepted
      × BlockKnown earlier otherwise
  StatementKnown earlier (loop place counter text low high body) = BlockKnown earlier body

  pub BlockKnown : List ProcedureTree → BlockTree → Type 0
  BlockKnown earlier nothing = Unit {0}
  BlockKnown earlier (first statement rest) = StatementKnown earlier statement × BlockKnown earlier rest

-- each procedure calls those before it
abbrev pub CallEarlier : List ProcedureTree → List ProcedureTree → Type 0
CallEarlier before [] = Unit {0}
CallEarlier before (p ∷ ps) = BlockKnown before p.body × CallEarlier (before ++ p ∷ []) ps
