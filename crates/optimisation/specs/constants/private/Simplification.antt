-- How straight code with these variables is made simpler: from the first statement on, what is known of them is carried
-- along. A loop whose bounds are numbers becomes its iterations, where these are no more than are allowed: how many are
-- is in a list, at the counter's number.
use Rattle.std.specs.Prelude.{ℕ, zero, suc, ◌+◌, ◌-◌, ◌==◌, ◌&&◌, Bool, true, false, not, List, [], map, length}
use Rattle.std.specs.Prelude.{replicate, slice_get, slice_index, Option, None, Some}
use Rattle.std.specs.Option.{option_map}
use Rattle.optimisation.specs.Below.{array, branch, chain, counter_type, first, FlatVariable, nothing, number, put}
use Rattle.optimisation.specs.Below.{repeats, set, StraightBlock, StraightProgram, StraightTree, take, TermTree}
use Rattle.optimisation.specs.Below.{iterations, variable, with_body}
use Rattle.straight_words.specs.private.SameWords.{are_alike}
use Rattle.optimisation.specs.declared.constants.terms.CounterRange.{CounterRange}
use Rattle.optimisation.specs.constants.private.Folding.{simple, constant, constant_of, decision, numbers_of}
use Rattle.optimisation.specs.constants.private.Known.{WordFacts, with_copy, with_word, without, in_loop, behind}

-- one of these, by a decision, where there is one
abbrev pub decided : {A : Type 0} → Option Bool → A → A → A → A
decided (Some true) one other both = one
decided (Some false) one other both = other
decided None one other both = both

-- one of two, by whether a loop becomes its iterations
abbrev pub unrolled : {A : Type 0} → Option CounterRange → (CounterRange → A) → A → A
unrolled (Some numbers) as_iterations as_loop = as_iterations numbers
unrolled None as_iterations as_loop = as_loop

-- what is known where a counter is at this number
abbrev pub at_iteration : ℕ → ℕ → WordFacts → WordFacts
at_iteration x i words = with_word words x (Some (constant i counter_type.kind))

-- Copies.

-- a variable that is set to another one may be read as that one
abbrev pub may_be_read_as : List FlatVariable → ℕ → ℕ → Bool
may_be_read_as declared x y = not (x == y) && are_alike (slice_get declared x) (slice_get declared y)

-- what an expression is, where it is a variable
abbrev pub variable_of : TermTree → Option ℕ
variable_of (variable y) = Some y
variable_of _ = None

abbrev pub copied_where : Bool → ℕ → ℕ → WordFacts → WordFacts
copied_where true x y words = with_copy words (record { variable = x; source = y })
copied_where false x y words = words

abbrev pub copied : List FlatVariable → ℕ → Option ℕ → WordFacts → WordFacts
copied declared x None words = words
copied declared x (Some y) words = copied_where (may_be_read_as declared x y) x y words

-- what is known where a variable has been set to the value of an expression: within a control value it may have kept
-- what it held
abbrev pub set_to : List FlatVariable → WordFacts → Option ℕ → ℕ → TermTree → WordFacts
set_to declared words None x e = copied declared x (variable_of e) (with_word words x (constant_of e))
set_to declared words (Some control) x e = without words x

-- the code of so many iterations, the first at this number. Each has its own, by its number and by what is known where
-- it begins, and so has what is known behind it
abbrev pub code_of_iterations : ℕ → ℕ → (ℕ → WordFacts → WordFacts) → (ℕ → WordFacts → StraightBlock) → WordFacts
    → StraightBlock
code_of_iterations zero i behind_iteration code words = nothing
code_of_iterations (suc n) i behind_iteration code words =
    chain (code i words) (code_of_iterations n (i + 1) behind_iteration code (behind_iteration i words))

abbrev mutual
  -- what is known after a statement. Of two arms one runs, and a loop makes some iterations: of what they set nothing
  -- is known
  pub knowing : List ℕ → List FlatVariable → WordFacts → StraightTree → WordFacts
  knowing unroll_limits declared words (set within x value) = set_to declared words within x (simple words value)
  knowing unroll_limits declared words (array x size values) = without words x
  knowing unroll_limits declared words (put within place x size index value) = without words x
  knowing unroll_limits declared words (take control within condition) = words
  knowing unroll_limits declared words (branch condition accepted otherwise) =
      decided (decision (simple words condition)) (knowing_all unroll_limits declared words accepted)
      (knowing_all unroll_limits declared words otherwise)
      (behind (knowing_all unroll_limits declared
      (behind (knowing_all unroll_limits declared words accepted) accepted) otherwise)
      otherwise)
  knowing unroll_limits declared words (repeats x low high body) =
      unrolled
      (numbers_of (slice_index unroll_limits x) (constant_of (simple words low)) (constant_of (simple words high)))
      (λ each. iterations (each.high - each.low) each.low
      (λ i w. knowing_all unroll_limits declared (at_iteration x i w) body) words)
      (behind (knowing_all unroll_limits declared (in_loop words x body) body) body)

  pub knowing_all : List ℕ → List FlatVariable → WordFacts → StraightBlock → WordFacts
  knowing_all unroll_limits declared words nothing = words
  knowing_all unroll_limits declared words (first statement rest) =
      knowing_all unroll_limits declared (knowing unroll_limits declared words statement) rest

abbrev pub single : StraightTree → StraightBlock
single statement = first statement nothing

abbrev mutual
  -- a statement, where this is known of the variables
  pub simplified : List ℕ → List FlatVariable → WordFacts → StraightTree → StraightBlock
  simplified unroll_limits declared words (set within x value) = single (set within x (simple words value))
  simplified unroll_limits declared words (array x size values) = single (array x size (map (simple words) values))
  simplified unroll_limits declared words (put within place x size index value) =
      single (put within place x size (simple words index) (simple words value))
  simplified unroll_limits declared words (take control within condition) =
      single (take control within (simple words condition))
  simplified unroll_limits declared words (branch condition accepted otherwise) =
      decided (decision (simple words condition)) (simplified_all unroll_limits declared words accepted)
      (simplified_all unroll_limits declared words otherwise)
      (single (branch (simple words condition) (simplified_all unroll_limits declared words accepted)
      (simplified_all unroll_limits declared
      (behind (knowing_all unroll_limits declared words accepted) accepted) otherwise)))
  simplified unroll_limits declared words (repeats x low high body) =
      unrolled
      (numbers_of (slice_index unroll_limits x) (constant_of (simple words low)) (constant_of (simple words high)))
      (λ each. code_of_iterations (each.high - each.low) each.low
      (λ i w. knowing_all unroll_limits declared (at_iteration x i w) body)
      (λ i w. first (set None x (number i counter_type.kind))
      (simplified_all unroll_limits declared (at_iteration x i w) body))
      words)
      (single (repeats x (simple words low) (simple words high)
      (simplified_all unroll_limits declared (in_loop words x body) body)))

  pub simplified_all : List ℕ → List FlatVariable → WordFacts → StraightBlock → StraightBlock
  simplified_all unroll_limits declared words nothing = nothing
  simplified_all unroll_limits declared words (first statement rest) =
      chain (simplified unroll_limits declared words statement)
      (simplified_all unroll_limits declared (knowing unroll_limits declared words statement) rest)

-- So of the iterations of a loop between two numbers.

abbrev pub iterations_known : List ℕ → List FlatVariable → WordFacts → ℕ → CounterRange → StraightBlock → WordFacts
iterations_known unroll_limits declared words x each body =
    iterations (each.high - each.low) each.low
    (λ i w. knowing_all unroll_limits declared (at_iteration x i w) body) words

abbrev pub iterations_code : List ℕ → List FlatVariable → WordFacts → ℕ → CounterRange → StraightBlock → StraightBlock
iterations_code unroll_limits declared words x each body =
    code_of_iterations (each.high - each.low) each.low
    (λ i w. knowing_all unroll_limits declared (at_iteration x i w) body)
    (λ i w. first (set None x (number i counter_type.kind))
    (simplified_all unroll_limits declared (at_iteration x i w) body))
    words

-- nothing is known where a program begins
abbrev pub nothing_known : StraightProgram → WordFacts
nothing_known p = record { numbers = replicate (length p.declared) None; copies = [] }

abbrev pub simplified_program : List ℕ → StraightProgram → StraightProgram
simplified_program unroll_limits p =
    with_body p (simplified_all unroll_limits p.declared (nothing_known p) p.body)
    (option_map (simple (knowing_all unroll_limits p.declared (nothing_known p) p.body)) p.value)
