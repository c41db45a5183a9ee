-- A strict run is a loose run: it comes to what the body means.
use Rattle.std.proofs.Common.{ℕ, zero, suc, ◌+◌, ◌-◌, ◌==◌, Bool, true, false, if◌then◌else◌, List, [], ◌∷◌, map}
use Rattle.std.proofs.Common.{Option, Some, None, refl}
use Rattle.intervals.specs.Below.{after, after_all, Arg, array, assign, binary, branch, convert, declare, element}
use Rattle.intervals.specs.Below.{end_of, first, FlatBlock, FlatProgram, FlatTree, given, hold, loop, nothing, number}
use Rattle.intervals.specs.Below.{path_along, path_at, path_in, path_in_all, path_of, path_of_result}
use Rattle.intervals.specs.Below.{path_of_iterations, prefix, put, rotate, select, skip, TermTree, truth, iterations}
use Rattle.intervals.specs.Below.{Types, types_of, value_in, Values, variable, with_value}
use Rattle.intervals.specs.Loose.{LooselyComes, to_number, to_truth, to_variable, to_prefix, to_binary, to_rotation}
use Rattle.intervals.specs.Loose.{to_conversion, to_selection, to_element, LooselyComeAll, none_left, one_more}
use Rattle.intervals.specs.Loose.{LooselyLeads, declares, declares_array, assigns, puts, holds, skips, chooses, repeats}
use Rattle.intervals.specs.Loose.{Iterations, no_iteration, an_iteration, LooselyLeadAll, ends, goes_on, LooselyReturns}
use Rattle.intervals.specs.Loose.{nothing_returned, returned, IsLooseRun}

module _ (types : Types) where
  pub comes : (m : Values) (e : TermTree) → LooselyComes types m e (value_in m e) (path_in m e)
  comes m (number value kind) = to_number
  comes m (truth value) = to_truth
  comes m (variable x) = to_variable
  comes m (prefix operator width operand) = to_prefix (comes m operand)
  comes m (binary place operator width left right) = to_binary (comes m left) (comes m right)
  comes m (rotate width operand amount) = to_rotation (comes m operand)
  comes m (convert kind operand) = to_conversion (comes m operand)
  comes m (select condition accepted otherwise) =
      to_selection (comes m condition) (comes m accepted) (comes m otherwise)
  comes m (element place x size index) = to_element (comes m index)

  pub come_all : (m : Values) (es : List TermTree) → LooselyComeAll types m es (map (value_in m) es) (path_in_all m es)
  come_all m [] = none_left
  come_all m (e ∷ es) = one_more (comes m e) (come_all m es)

  -- one of two arms
  either : (b : Bool) (m : Values) (accepted otherwise : FlatBlock)
      → LooselyLeadAll types m accepted (after_all m accepted) (path_along m accepted)
      → LooselyLeadAll types m otherwise (after_all m otherwise) (path_along m otherwise)
      → LooselyLeadAll types m (if b then otherwise else accepted) (if b then after_all m otherwise
      else after_all m accepted) (if b then path_along m otherwise else path_along m accepted)
  either true m accepted otherwise one other = other
  either false m accepted otherwise one other = one

  -- the iterations of a loop, where each leads on
  iterations_lead : (x : ℕ) (body : FlatBlock)
      → ((m : Values) → LooselyLeadAll types m body (after_all m body) (path_along m body)) → (n i : ℕ) (m : Values)
      → Iterations types x body n i m (iterations n i (λ j t. after_all (with_value t x (j ∷ [])) body) m)
      (path_of_iterations n i (λ j t. after_all (with_value t x (j ∷ [])) body)
      (λ j t. path_along (with_value t x (j ∷ [])) body) m)
  iterations_lead x body each zero i m = no_iteration
  iterations_lead x body each (suc n) i m =
      an_iteration (each (with_value m x (i ∷ [])))
      (iterations_lead x body each n (i + 1) (after_all (with_value m x (i ∷ [])) body))

  mutual
    pub leads : (s : FlatTree) (m : Values) → LooselyLeads types m s (after m s) (path_at m s)
    leads (declare x word mutable value) m = declares (comes m value)
    leads (array x word mutable size []) m = declares_array none_left
    leads (array x word mutable size (e ∷ es)) m = declares_array (one_more (comes m e) (come_all m es))
    leads (assign x value) m = assigns (comes m value)
    leads (put place x size index value) m = puts (comes m index) (comes m value)
    leads (hold x place size index) m = holds (comes m index)
    leads skip m = skips
    leads (branch label condition accepted otherwise) m =
        chooses (comes m condition) (either (value_in m condition == 0) m accepted otherwise (lead_all accepted m)
        (lead_all otherwise m))
    leads (loop x low high body) m =
        repeats (comes m low) (comes m high)
        (iterations_lead x body (λ t. lead_all body t) (value_in m high - value_in m low) (value_in m low) m)

    pub lead_all : (b : FlatBlock) (m : Values) → LooselyLeadAll types m b (after_all m b) (path_along m b)
    lead_all nothing m = ends
    lead_all (first s rest) m = goes_on (leads s m) (lead_all rest (after m s))

  pub result_comes : (m : Values) (value : Option TermTree) → LooselyReturns types m value (path_of_result m value)
  result_comes m None = nothing_returned
  result_comes m (Some value) = returned (comes m value)

pub strict_is_loose : (p : FlatProgram) (args : List Arg) → IsLooseRun p args (path_of p args)
strict_is_loose p args =
    let types = types_of p.profile p.declared in
    record {
      end = end_of p args;
      front = path_along (given p.declared args) p.body;
      back = path_of_result (end_of p args) p.value;
      body = lead_all types p.body (given p.declared args);
      result = result_comes types (end_of p args) p.value;
      whole = refl;
    }
