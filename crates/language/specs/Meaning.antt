-- What expressions, statements, calls and a program mean: what a reader of the text works out, with real branches,
-- loops and calls. Each part comes to a result or meets a fault at a node: an index not below the length, or a
-- divisor 0. The premises of a rule stand one a line, its conclusion last.
use Rattle.std.specs.Prelude.{◌≡◌, ℕ, ◌+◌, ◌<◌, ◌≤◌, ◌==◌, ◌&&◌, Bool, true, false, nat_lt, List, [], ◌∷◌, ◌++◌}
use Rattle.std.specs.Prelude.{length, map, Option, Some, None, slice_index, slice_set, replicate, if◌then◌else◌}
use Rattle.std.specs.Option.{option_map}
use Rattle.std.specs.Str.{bytes_eq}
use Rattle.word.specs.Operators.{word_of}
use Rattle.word.specs.declared.place.Place.{Place}
use Rattle.language.specs.declared.signature.Form.{Form}
use Rattle.language.specs.declared.signature.Form.TheVariants.{SingleWord, FixedArray, MutableArray}
use Rattle.language.specs.declared.signature.Kind.{Kind}
use Rattle.language.specs.declared.signature.Kind.TheVariants.{Boolean, Uint32}
use Rattle.language.specs.declared.values.Arg.{Arg}
use Rattle.language.specs.declared.values.Arg.TheVariants as arg
use Rattle.language.specs.Operators.{divides, truth_of}
use Rattle.language.specs.OperatorWords.{binary_word, prefix_word, rotated_word, converted_word}
use Rattle.language.specs.OperatorWords.{selected_word}
use Rattle.language.specs.Results.{Results}
pub use Rattle.language.specs.Signature.{exported}
use Rattle.language.specs.State.{State, Value, Word, single, array, empty, with_value}
pub use Rattle.language.specs.Tree.{written}
use Rattle.language.specs.Tree.{ExprTree, number, truth, name, prefix, binary, rotate, convert, select, element}
use Rattle.language.specs.Tree.{CallTree, RightTree, called, computed, StatementTree, declaration}
use Rattle.language.specs.Tree.{array as array_declaration, assignment, element_assignment, call, conditional, loop}
use Rattle.language.specs.Tree.{BlockTree, nothing, first, ParameterTree, ReturnTree, ProcedureTree, ProgramTree}

-- what a part comes to
pub data Ending (A : Type 0) : Type 0 where
  gives : (result : A) → Ending A
  faults : (place : Place) → Ending A

-- Expressions.

-- the operands of an expression, from left to right
abbrev pub operands : ExprTree → List ExprTree
operands (number place value kind) = []
operands (truth place value) = []
operands (name place text) = []
operands (prefix place operator operand) = operand ∷ []
operands (binary place operator left right) = left ∷ right ∷ []
operands (rotate place operand amount) = operand ∷ []
operands (convert place kind operand) = operand ∷ []
operands (select place condition accepted otherwise) = condition ∷ accepted ∷ otherwise ∷ []
operands (element place target text index) = index ∷ []

-- the word that a name holds; a name of a well-typed expression holds one
abbrev pub word_held : Option Value → Word
word_held (Some (single w)) = w
word_held (Some (array kind words)) = record { kind = kind; value = 0 }
word_held None = record { kind = Boolean; value = 0 }

-- the element of an array that a name holds
abbrev pub element_held : Place → Option Value → ℕ → Ending Word
element_held place (Some (array kind words)) i = if nat_lt i (length words)
    then gives (record { kind = kind; value = slice_index words i }) else faults place
element_held place (Some (single w)) i = faults place
element_held place None i = faults place

-- what a node makes of its operands' values
abbrev pub applied : State → ExprTree → List Word → Ending Word
applied s (number place value kind) vs = gives (record { kind = kind; value = value })
applied s (truth place value) vs = gives (record { kind = Boolean; value = word_of value })
applied s (name place text) vs = gives (word_held (s text))
applied s (prefix place operator operand) (a ∷ []) = gives (prefix_word operator a)
applied s (binary place operator left right) (a ∷ b ∷ []) = if divides operator && (b.value == 0) then faults place
    else gives (binary_word operator a b)
applied s (rotate place operand amount) (a ∷ []) = gives (rotated_word amount a)
applied s (convert place kind operand) (a ∷ []) = gives (converted_word kind a)
applied s (select place condition accepted otherwise) (c ∷ a ∷ b ∷ []) = gives (selected_word c a b)
applied s (element place target text index) (i ∷ []) = element_held place (s text) i.value
applied s e vs = gives (record { kind = Boolean; value = 0 })

mutual
  -- in this state an expression comes to this
  pub data Evaluates (s : State) : ExprTree → Ending Word → Type 0 where
    by_operands : {e vs : _}
        → EvaluatesAll s (operands e) (gives vs)
        → Evaluates s e (applied s e vs)
    operand_faults : {e place : _}
        → EvaluatesAll s (operands e) (faults place)
        → Evaluates s e (faults place)

  -- expressions, from left to right
  pub data EvaluatesAll (s : State) : List ExprTree → Ending (List Word) → Type 0 where
    none_left : EvaluatesAll s [] (gives [])
    one_more : {e es v vs : _}
        → Evaluates s e (gives v)
        → EvaluatesAll s es (gives vs)
        → EvaluatesAll s (e ∷ es) (gives (v ∷ vs))
    this_faults : {e es place : _}
        → Evaluates s e (faults place)
        → EvaluatesAll s (e ∷ es) (faults place)
    later_faults : {e es v place : _}
        → Evaluates s e (gives v)
        → EvaluatesAll s es (faults place)
        → EvaluatesAll s (e ∷ es) (faults place)

-- Procedures.

-- the first procedure of this name, and those before it
abbrev pub named : List ProcedureTree → List ProcedureTree → List ℕ → Option (List ProcedureTree × ProcedureTree)
named before [] text = None
named before (p ∷ ps) text = if bytes_eq text p.name then Some (before, p) else named (before ++ p ∷ []) ps text

-- the word arguments of a call
abbrev pub is_word : Form → Bool
is_word SingleWord = true
is_word FixedArray = false
is_word MutableArray = false

abbrev pub word_arguments : List ParameterTree → List ExprTree → List ExprTree
word_arguments [] es = []
word_arguments (p ∷ ps) [] = []
word_arguments (p ∷ ps) (e ∷ es) = if is_word p.form then e ∷ word_arguments ps es else word_arguments ps es

-- the array that an argument names
abbrev pub array_named : State → ExprTree → Option Value
array_named s (name place text) = s text
array_named s _ = None

-- the state in which a name holds a value, where there is one
abbrev pub with_some : State → List ℕ → Option Value → State
with_some s text None = s
with_some s text (Some v) = with_value s text v

-- what a parameter holds: the next word, or the array that the argument names
abbrev pub argument_held : State → Form → ExprTree → List Word → Option Value
argument_held s SingleWord e [] = None
argument_held s SingleWord e (v ∷ vs) = Some (single v)
argument_held s FixedArray e vs = array_named s e
argument_held s MutableArray e vs = array_named s e

abbrev pub words_left : Form → List Word → List Word
words_left SingleWord [] = []
words_left SingleWord (v ∷ vs) = vs
words_left FixedArray vs = vs
words_left MutableArray vs = vs

-- the map in which a called body begins: words as evaluated, arrays copied in
abbrev pub begun : State → List ParameterTree → List ExprTree → List Word → State
begun s [] es vs = empty
begun s (p ∷ ps) [] vs = empty
begun s (p ∷ ps) (e ∷ es) vs = with_some (begun s ps es (words_left p.form vs)) p.name (argument_held s p.form e vs)

-- a `mut` array goes back to the name that was given
abbrev pub gone_back : Form → State → State → ExprTree → List ℕ → State
gone_back MutableArray s t (name place text) own = with_some s text (t own)
gone_back form s t e own = s

-- the caller's map, once the body has ended in t
abbrev pub copied_out : State → State → List ParameterTree → List ExprTree → State
copied_out s t [] es = s
copied_out s t (p ∷ ps) [] = s
copied_out s t (p ∷ ps) (e ∷ es) = copied_out (gone_back p.form s t e p.name) t ps es

-- what a call or a right side comes to: a word where there is one, and the state after it
pub record Returned : Type 0 where
  pub word : Option Word
  pub state : State

-- an array of zeros, or of its first values
abbrev pub made_array : Kind → ℕ → List Word → Value
made_array kind size [] = array kind (replicate size 0)
made_array kind size (v ∷ vs) = array kind (map (λ (w : Word). w.value) (v ∷ vs))

-- an array with another element
abbrev pub with_element : Option Value → ℕ → Word → Option Value
with_element (Some (array kind words)) i v = Some (array kind (slice_set words i v.value))
with_element (Some (single w)) i v = Some (single w)
with_element None i v = None

-- the word that a right side gave
abbrev pub word_given : Option Word → Word
word_given (Some w) = w
word_given None = record { kind = Boolean; value = 0 }

-- the state in which a counter is at a number
abbrev pub counting : State → List ℕ → ℕ → State
counting s text i = with_value s text (single (record { kind = Uint32; value = i }))

mutual
  -- with these earlier procedures, a call in a state
  pub data Calls : List ProcedureTree → State → CallTree → Ending Returned → Type 0 where
    argument_faults : {ps before s place : _} {p : ProcedureTree} {c : CallTree}
        → named [] ps c.name ≡ Some (before, p)
        → EvaluatesAll s (word_arguments p.parameters c.arguments) (faults place)
        → Calls ps s c (faults place)
    body_faults : {ps before s vs place : _} {p : ProcedureTree} {c : CallTree}
        → named [] ps c.name ≡ Some (before, p)
        → EvaluatesAll s (word_arguments p.parameters c.arguments) (gives vs)
        → Bodies before p (begun s p.parameters c.arguments vs) (faults place)
        → Calls ps s c (faults place)
    body_ends : {ps before s t vs w : _} {p : ProcedureTree} {c : CallTree}
        → named [] ps c.name ≡ Some (before, p)
        → EvaluatesAll s (word_arguments p.parameters c.arguments) (gives vs)
        → Bodies before p (begun s p.parameters c.arguments vs) (gives (record { word = w; state = t }))
        → Calls ps s c (gives (record { word = w; state = copied_out s t p.parameters c.arguments }))

  -- a procedure's body and its `return`, in a map of its own
  pub data Bodies : List ProcedureTree → ProcedureTree → State → Ending Returned → Type 0 where
    statements_fault : {ps s place : _} {p : ProcedureTree}
        → RunsAll ps s p.body (faults place)
        → Bodies ps p s (faults place)
    returns_nothing : {ps s t : _} {p : ProcedureTree}
        → RunsAll ps s p.body (gives t)
        → p.returned ≡ None
        → Bodies ps p s (gives (record { word = None; state = t }))
    returns : {ps s t w : _} {p : ProcedureTree} {r : ReturnTree}
        → RunsAll ps s p.body (gives t)
        → p.returned ≡ Some r
        → Evaluates t r.value (gives w)
        → Bodies ps p s (gives (record { word = Some w; state = t }))
    return_faults : {ps s t place : _} {p : ProcedureTree} {r : ReturnTree}
        → RunsAll ps s p.body (gives t)
        → p.returned ≡ Some r
        → Evaluates t r.value (faults place)
        → Bodies ps p s (faults place)

  -- a right side
  pub data Rights : List ProcedureTree → State → RightTree → Ending Returned → Type 0 where
    of_call : {ps s c ending : _}
        → Calls ps s c ending
        → Rights ps s (called c) ending
    of_expr : {ps s e v : _}
        → Evaluates s e (gives v)
        → Rights ps s (computed e) (gives (record { word = Some v; state = s }))
    expr_faults : {ps s e place : _}
        → Evaluates s e (faults place)
        → Rights ps s (computed e) (faults place)

  -- a statement
  pub data Runs : List ProcedureTree → State → StatementTree → Ending State → Type 0 where
    declares : {ps s place label mutable kind text right : _} {r : Returned}
        → Rights ps s right (gives r)
        → Runs ps s (declaration place label mutable kind text right)
        (gives (with_value r.state text (single (word_given r.word))))
    declaration_faults : {ps s place at label mutable kind text right : _}
        → Rights ps s right (faults at)
        → Runs ps s (declaration place label mutable kind text right) (faults at)
    declares_array : {ps s place label mutable kind size text values vs : _}
        → EvaluatesAll s (written values) (gives vs)
        → Runs ps s (array_declaration place label mutable kind size text values)
        (gives (with_value s text (made_array kind size vs)))
    first_value_faults : {ps s place at label mutable kind size text values : _}
        → EvaluatesAll s (written values) (faults at)
        → Runs ps s (array_declaration place label mutable kind size text values) (faults at)
    assigns : {ps s place target text right : _} {r : Returned}
        → Rights ps s right (gives r)
        → Runs ps s (assignment place target text right)
        (gives (with_value r.state text (single (word_given r.word))))
    assignment_faults : {ps s place target at text right : _}
        → Rights ps s right (faults at)
        → Runs ps s (assignment place target text right) (faults at)
    -- the element is evaluated first, as a part of an expression would be: its index is tested before the right side
    target_faults : {ps s place bracket target at text index right : _}
        → Evaluates s (element bracket target text index) (faults at)
        → Runs ps s (element_assignment place bracket target text index right) (faults at)
    right_faults : {ps s place bracket target at text index right old : _}
        → Evaluates s (element bracket target text index) (gives old)
        → Rights ps s right (faults at)
        → Runs ps s (element_assignment place bracket target text index right) (faults at)
    assigns_element : {ps s place bracket target text index right old : _} {i : Word} {r : Returned}
        → Evaluates s (element bracket target text index) (gives old)
        → Evaluates s index (gives i)
        → Rights ps s right (gives r)
        → Runs ps s (element_assignment place bracket target text index right)
        (gives (with_some r.state text (with_element (r.state text) i.value (word_given r.word))))
    calls : {ps s c : _} {r : Returned}
        → Calls ps s c (gives r)
        → Runs ps s (call c) (gives r.state)
    call_faults : {ps s c at : _}
        → Calls ps s c (faults at)
        → Runs ps s (call c) (faults at)
    condition_faults : {ps s place at condition accepted otherwise : _}
        → Evaluates s condition (faults at)
        → Runs ps s (conditional place condition accepted otherwise) (faults at)
    accepts : {ps s place condition accepted otherwise ending : _} {c : Word}
        → Evaluates s condition (gives c)
        → truth_of c.value ≡ true
        → RunsAll ps s accepted ending
        → Runs ps s (conditional place condition accepted otherwise) ending
    declines : {ps s place condition accepted otherwise ending : _} {c : Word}
        → Evaluates s condition (gives c)
        → truth_of c.value ≡ false
        → RunsAll ps s otherwise ending
        → Runs ps s (conditional place condition accepted otherwise) ending
    bounds_fault : {ps s place counter at text low high body : _}
        → EvaluatesAll s (low ∷ high ∷ []) (faults at)
        → Runs ps s (loop place counter text low high body) (faults at)
    loops : {ps s place counter text low high body ending : _} {a b : Word}
        → EvaluatesAll s (low ∷ high ∷ []) (gives (a ∷ b ∷ []))
        → Iterations ps s text body a.value b.value ending
        → Runs ps s (loop place counter text low high body) ending

  -- the iterations of a loop from one number to another
  pub data Iterations : List ProcedureTree → State → List ℕ → BlockTree → ℕ → ℕ → Ending State → Type 0 where
    no_iteration : {ps s text body i n : _}
        → n ≤ i
        → Iterations ps s text body i n (gives s)
    iteration_faults : {ps s text body i n at : _}
        → i < n
        → RunsAll ps (counting s text i) body (faults at)
        → Iterations ps s text body i n (faults at)
    an_iteration : {ps s t text body i n ending : _}
        → i < n
        → RunsAll ps (counting s text i) body (gives t)
        → Iterations ps t text body (i + 1) n ending
        → Iterations ps s text body i n ending

  -- statements in their order
  pub data RunsAll : List ProcedureTree → State → BlockTree → Ending State → Type 0 where
    ends : {ps s : _}
        → RunsAll ps s nothing (gives s)
    stops : {ps s statement rest at : _}
        → Runs ps s statement (faults at)
        → RunsAll ps s (first statement rest) (faults at)
    goes_on : {ps s t statement rest ending : _}
        → Runs ps s statement (gives t)
        → RunsAll ps t rest ending
        → RunsAll ps s (first statement rest) ending

-- The program.

-- an argument's value
abbrev pub argument_value : Kind → Arg → Value
argument_value kind (arg.Word v) = single (record { kind = kind; value = v })
argument_value kind (arg.Array vs) = array kind vs

-- the parameters hold the arguments
abbrev pub holding : List ParameterTree → List Arg → State
holding [] args = empty
holding (p ∷ ps) [] = empty
holding (p ∷ ps) (a ∷ args) = with_value (holding ps args) p.name (argument_value p.kind a)

-- the words of a `mut` array at the end
abbrev pub final_words : Option Value → List ℕ
final_words (Some (array kind words)) = words
final_words (Some (single w)) = w.value ∷ []
final_words None = []

abbrev pub final_array : Form → Option Value → List (List ℕ)
final_array MutableArray v = final_words v ∷ []
final_array FixedArray v = []
final_array SingleWord v = []

abbrev pub final_arrays : State → List ParameterTree → List (List ℕ)
final_arrays t [] = []
final_arrays t (p ∷ ps) = final_array p.form (t p.name) ++ final_arrays t ps

-- what a program comes to on arguments: its return word and its `mut` arrays, in parameter order, or a fault
pub data Gives (program : ProgramTree) (args : List Arg) : Ending Results → Type 0 where
  ends_well : {before w t : _} {p : ProcedureTree}
      → exported [] program.procedures ≡ Some (before, p)
      → Bodies before p (holding p.parameters args) (gives (record { word = w; state = t }))
      → Gives program args
      (gives (record { returned = option_map (λ (v : Word). v.value) w; arrays = final_arrays t p.parameters }))
  meets_fault : {before at : _} {p : ProcedureTree}
      → exported [] program.procedures ≡ Some (before, p)
      → Bodies before p (holding p.parameters args) (faults at)
      → Gives program args (faults at)
