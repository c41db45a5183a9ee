-- Programs and what they come to, worked out by the definitions alone.
use Rattle.std.specs.Prelude.{◌≡◌, ℕ, true, false, List, [], ◌∷◌, Option, Some, None}
use Rattle.std.proofs.Common.{refl}
use Rattle.source_eval.specs.Below.{andthen, assignment, binary, BlockTree, call, computed, conditional, declaration}
use Rattle.source_eval.specs.Below.{element, element_assignment, ExprTree, faults, first, Form, gives, inside, loop}
use Rattle.source_eval.specs.Below.{MutableArray, name, nothing, number, ParameterTree, Place, ProcedureTree}
use Rattle.source_eval.specs.Below.{program_run, ProgramTree, ReturnTree, SingleWord, tick, truth}
use Rattle.language.specs.declared.signature.Kind.TheVariants.{Boolean, Uint32}
use Rattle.language.specs.declared.signature.Label.TheVariants.{Public, Secret}
use Rattle.language.specs.declared.operators.BinaryOperator.TheVariants.{Less, Add, Divide}
use Rattle.language.specs.declared.values.Arg.TheVariants as arg

abbrev here : Place
here = record { offset = 0; line = 1; column = 1 }

abbrev s : List ℕ
s = 115 ∷ []

abbrev t : List ℕ
t = 116 ∷ []

abbrev y : List ℕ
y = 121 ∷ []

abbrev v : List ℕ → ExprTree
v text = name here text

abbrev n : ℕ → ExprTree
n k = number here k Uint32

abbrev void : List ℕ → List ParameterTree → BlockTree → Option ReturnTree → ProcedureTree
void text ps body returned = record {
  export = None;
  result = None;
  place = here;
  name = text;
  parameters = ps;
  body = body;
  returned = returned;
}

abbrev exporting : ProcedureTree → ProcedureTree
exporting p = record p { export = Some here }

-- a conditional takes one arm, and its condition is not taken anew
abbrev six : ProgramTree
six = record {
  procedures = record {
    export = Some here;
    result = Some (record { kind = Uint32; label = Secret });
    place = here;
    name = 102 ∷ [];
    parameters = record { label = Secret; kind = Boolean; form = SingleWord; length = 1; place = here; name = t }
        ∷ [];
    body = first (declaration here Secret true Boolean s (computed (v t)))
        (first (declaration here Secret true Uint32 y (computed (n 0)))
        (first (conditional here (v s)
        (first (assignment here here s (computed (truth here false)))
        (first (assignment here here y (computed (n 1))) nothing))
        (first (assignment here here y (computed (n 2))) nothing)) nothing));
    returned = Some (record { place = here; value = v y });
  } ∷ [];
}

pub six_on_one : program_run six (arg.Word 1 ∷ [])
    ≡ record { nodes = 12; bodies = 1; ends = gives (record { returned = Some 1; arrays = [] }) }
unfolding tick andthen inside
six_on_one = refl

pub six_on_zero : program_run six (arg.Word 0 ∷ [])
    ≡ record { nodes = 10; bodies = 1; ends = gives (record { returned = Some 2; arrays = [] }) }
unfolding tick andthen inside
six_on_zero = refl

abbrev j : List ℕ
j = 106 ∷ []

abbrev a : List ℕ
a = 97 ∷ []

-- a loop whose low bound is not below its high one makes no iteration
abbrev no_iterations : ProgramTree
no_iterations = record {
  procedures = exporting (void (102 ∷ []) []
      (first (declaration here Public true Uint32 s (computed (n 7)))
      (first (loop here here j (n 5) (n 5)
      (first (assignment here here s (computed (binary here Add (v s) (v j)))) nothing))
      (first (loop here here j (n 9) (n 2) (first (assignment here here s (computed (n 0))) nothing)) nothing)))
      (Some (record { place = here; value = v s }))) ∷ [];
}

pub counts_no_iteration : program_run no_iterations []
    ≡ record { nodes = 10; bodies = 1; ends = gives (record { returned = Some 7; arrays = [] }) }
unfolding tick andthen inside
counts_no_iteration = refl

-- an array is copied in and out, its word argument taken before
abbrev parameter : Form → ℕ → List ℕ → ParameterTree
parameter form size text = record {
  label = Secret;
  kind = Uint32;
  form = form;
  length = size;
  place = here;
  name = text;
}

abbrev copying : ProgramTree
copying = record {
  procedures =
      void (103 ∷ []) (parameter MutableArray 2 y ∷ parameter SingleWord 1 t ∷ [])
      (first (element_assignment here here here y (n 0) (computed (v t)))
      (first (element_assignment here here here y (n 1)
      (computed (binary here Add (element here here y (n 0)) (v t)))) nothing)) None
      ∷ exporting (void (102 ∷ []) (parameter MutableArray 2 a ∷ [])
      (first (call (record { place = here; name = 103 ∷ []; arguments = v a ∷ element here here a (n 1) ∷ [] }))
      nothing) None)
      ∷ [];
}

pub copies : program_run copying (arg.Array (7 ∷ 5 ∷ []) ∷ [])
    ≡ record { nodes = 15; bodies = 2; ends = gives (record { returned = None; arrays = (5 ∷ 10 ∷ []) ∷ [] }) }
unfolding tick andthen inside
copies = refl

-- a fault in a value that is dropped, at its place
abbrev there : Place
there = record { offset = 9; line = 1; column = 10 }

abbrev dropping : ProgramTree
dropping = record {
  procedures =
      void (103 ∷ []) [] nothing (Some (record { place = here; value = binary there Divide (n 1) (n 0) }))
      ∷ exporting
      (void (102 ∷ []) [] (first (call (record { place = here; name = 103 ∷ []; arguments = [] })) nothing)
      None)
      ∷ [];
}

pub drops_no_fault : program_run dropping [] ≡ record { nodes = 5; bodies = 2; ends = faults there }
unfolding tick andthen inside
drops_no_fault = refl

-- an arm that does not run meets no fault, and the one that runs does
abbrev guarded : ProgramTree
guarded = record {
  procedures =
      exporting (void (102 ∷ []) (record (parameter SingleWord 1 s) { kind = Boolean } ∷ parameter SingleWord 1 j
      ∷ parameter MutableArray 2 a ∷ [])
      (first
      (conditional here (v s)
      (first (conditional here (binary here Less (v j) (n 2))
      (first (element_assignment here there here a (v j) (computed (n 9))) nothing) nothing) nothing)
      nothing) nothing) None) ∷ [];
}

pub guards : program_run guarded (arg.Word 1 ∷ arg.Word 2 ∷ arg.Array (1 ∷ 2 ∷ []) ∷ [])
    ≡ record { nodes = 6; bodies = 1; ends = gives (record { returned = None; arrays = (1 ∷ 2 ∷ []) ∷ [] }) }
unfolding tick andthen inside
guards = refl

pub guards_within : program_run guarded (arg.Word 1 ∷ arg.Word 1 ∷ arg.Array (1 ∷ 2 ∷ []) ∷ [])
    ≡ record { nodes = 10; bodies = 1; ends = gives (record { returned = None; arrays = (1 ∷ 9 ∷ []) ∷ [] }) }
unfolding tick andthen inside
guards_within = refl
