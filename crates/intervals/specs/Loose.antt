-- Loose runs: runs of a body in which a secret expression may have any value of its type. So a conditional on a
-- secret may go either way.
use Rattle.std.specs.Prelude.{◌≡◌, ℕ, zero, suc, ◌+◌, ◌-◌, ◌==◌, List, [], ◌∷◌, ◌++◌, Option, None, Some}
use Rattle.std.specs.Prelude.{if◌then◌else◌, slice_index, slice_set, replicate, Bool}
use Rattle.intervals.specs.Below.{AreFine, AreWithin, Arg, array, assign, binary, BinaryOperator, bounded, branch}
use Rattle.intervals.specs.Below.{convert, converted, declare, element, first, FlatBlock, FlatProgram, FlatTree, given}
use Rattle.intervals.specs.Below.{TermHasType, hold, indexed, IsWithinKind, Kind, Label, loop, marks_of, nothing}
use Rattle.intervals.specs.Below.{number, operated, Path, Place, prefix, prefix_value, PrefixOperator, put, rotate}
use Rattle.intervals.specs.Below.{rotated_left, Secret, select, skip, TermTree, truth, Types, types_of, Values}
use Rattle.intervals.specs.Below.{variable, Width, width_of, with_value, word_of, WordType}

-- where the variables of these types hold these values, an expression may come to this value, on this path
pub data LooselyComes (types : Types) (m : Values) : TermTree → ℕ → Path → Type 0 where
  to_number : {value : ℕ} {kind : Kind} → LooselyComes types m (number value kind) value []
  to_truth : {value : Bool} → LooselyComes types m (truth value) (word_of value) []
  to_variable : {x : ℕ} → LooselyComes types m (variable x) (slice_index (m x) 0) []
  to_prefix : {operator : PrefixOperator} {width : Width} {operand : TermTree} {a : ℕ} {path : Path}
      → LooselyComes types m operand a path
      → LooselyComes types m (prefix operator width operand) (prefix_value operator width a) path
  to_binary : {place : Place} {operator : BinaryOperator} {width : Width} {left right : TermTree} {a b : ℕ}
      {p q : Path}
      → LooselyComes types m left a p
      → LooselyComes types m right b q
      → LooselyComes types m (binary place operator width left right) (operated operator width a b)
      (p ++ q ++ marks_of place operator a b)
  to_rotation : {width : Width} {operand : TermTree} {amount a : ℕ} {path : Path}
      → LooselyComes types m operand a path
      → LooselyComes types m (rotate width operand amount) (rotated_left width a amount) path
  to_conversion : {kind : Kind} {operand : TermTree} {a : ℕ} {path : Path}
      → LooselyComes types m operand a path
      → LooselyComes types m (convert kind operand) (converted (width_of kind) a) path
  to_selection : {condition accepted otherwise : TermTree} {c a b : ℕ} {p q r : Path}
      → LooselyComes types m condition c p
      → LooselyComes types m accepted a q
      → LooselyComes types m otherwise b r
      → LooselyComes types m (select condition accepted otherwise) (if c == 0 then b else a) (p ++ q ++ r)
  to_element : {place : Place} {x size : ℕ} {index : TermTree} {i : ℕ} {path : Path}
      → LooselyComes types m index i path
      → LooselyComes types m (element place x size index) (slice_index (m x) i) (path ++ indexed place size i ∷ [])
  -- a secret may be anything of its kind
  to_anything : {e : TermTree} {word : WordType} {u v : ℕ} {path : Path}
      → LooselyComes types m e u path
      → TermHasType types e word
      → word.label ≡ Secret
      → IsWithinKind word.kind v
      → LooselyComes types m e v path

-- expressions, from left to right
pub data LooselyComeAll (types : Types) (m : Values) : List TermTree → List ℕ → Path → Type 0 where
  none_left : LooselyComeAll types m [] [] []
  one_more : {e : TermTree} {es : List TermTree} {v : ℕ} {vs : List ℕ} {p q : Path}
      → LooselyComes types m e v p
      → LooselyComeAll types m es vs q
      → LooselyComeAll types m (e ∷ es) (v ∷ vs) (p ++ q)

-- the elements of a new array, where these values are written
abbrev pub made : ℕ → List ℕ → List ℕ
made size [] = replicate size 0
made size (v ∷ vs) = v ∷ vs

mutual
  -- a statement may lead from these values to those, on this path
  pub data LooselyLeads (types : Types) : Values → FlatTree → Values → Path → Type 0 where
    declares : {m : Values} {x : ℕ} {word : WordType} {mutable : Bool} {value : TermTree} {v : ℕ} {path : Path}
        → LooselyComes types m value v path
        → LooselyLeads types m (declare x word mutable value) (with_value m x (v ∷ [])) path
    declares_array : {m : Values} {x size : ℕ} {word : WordType} {mutable : Bool} {values : List TermTree}
        {vs : List ℕ} {path : Path}
        → LooselyComeAll types m values vs path
        → LooselyLeads types m (array x word mutable size values) (with_value m x (made size vs)) path
    assigns : {m : Values} {x : ℕ} {value : TermTree} {v : ℕ} {path : Path}
        → LooselyComes types m value v path
        → LooselyLeads types m (assign x value) (with_value m x (v ∷ [])) path
    puts : {m : Values} {place : Place} {x size : ℕ} {index value : TermTree} {i v : ℕ} {p q : Path}
        → LooselyComes types m index i p
        → LooselyComes types m value v q
        → LooselyLeads types m (put place x size index value) (with_value m x (slice_set (m x) i v))
        (p ++ indexed place size i ∷ q)
    holds : {m : Values} {x : ℕ} {place : Place} {size : ℕ} {index : TermTree} {i : ℕ} {path : Path}
        → LooselyComes types m index i path
        → LooselyLeads types m (hold x place size index) (with_value m x (i ∷ [])) (path ++ indexed place size i ∷ [])
    skips : {m : Values} → LooselyLeads types m skip m []
    chooses : {m t : Values} {label : Label} {condition : TermTree} {accepted otherwise : FlatBlock} {c : ℕ}
        {p q : Path}
        → LooselyComes types m condition c p
        → LooselyLeadAll types m (if c == 0 then otherwise else accepted) t q
        → LooselyLeads types m (branch label condition accepted otherwise) t (p ++ q)
    repeats : {m t : Values} {x : ℕ} {low high : TermTree} {body : FlatBlock} {a b : ℕ} {p q r : Path}
        → LooselyComes types m low a p
        → LooselyComes types m high b q
        → Iterations types x body (b - a) a m t r
        → LooselyLeads types m (loop x low high body) t (p ++ q ++ bounded x a b ∷ r)

  -- so many iterations of a loop with this counter and body, the first at this number
  pub data Iterations (types : Types) : ℕ → FlatBlock → ℕ → ℕ → Values → Values → Path → Type 0 where
    no_iteration : {x i : ℕ} {body : FlatBlock} {m : Values} → Iterations types x body zero i m m []
    an_iteration : {x n i : ℕ} {body : FlatBlock} {m s t : Values} {p q : Path}
        → LooselyLeadAll types (with_value m x (i ∷ [])) body s p
        → Iterations types x body n (i + 1) s t q
        → Iterations types x body (suc n) i m t (p ++ q)

  -- statements in their order
  pub data LooselyLeadAll (types : Types) : Values → FlatBlock → Values → Path → Type 0 where
    ends : {m : Values} → LooselyLeadAll types m nothing m []
    goes_on : {m s t : Values} {statement : FlatTree} {rest : FlatBlock} {p q : Path}
        → LooselyLeads types m statement s p
        → LooselyLeadAll types s rest t q
        → LooselyLeadAll types m (first statement rest) t (p ++ q)

-- the result, where there is one
pub data LooselyReturns (types : Types) (m : Values) : Option TermTree → Path → Type 0 where
  nothing_returned : LooselyReturns types m None []
  returned : {value : TermTree} {v : ℕ} {path : Path} → LooselyComes types m value v path → LooselyReturns types m
      (Some value) path

-- a loose run of a program on arguments, on this path
pub record IsLooseRun (p : FlatProgram) (args : List Arg) (path : Path) : Type 0 where
  pub end : Values
  pub front : Path
  pub back : Path
  pub body : LooselyLeadAll (types_of p.profile p.declared) (given p.declared args) p.body end front
  pub result : LooselyReturns (types_of p.profile p.declared) end p.value back
  pub whole : path ≡ front ++ back

-- no loose run on arguments within the parameter types meets a fault, or makes more iterations in a loop than these
abbrev pub IsSafe : FlatProgram → List ℕ → Type 0
IsSafe p iterations = (args : List Arg) (path : Path) → AreWithin p.parameters args → IsLooseRun p args path
    → AreFine iterations path
