-- The export of an accepted source, and the function that is made of it.
use Rattle.std.proofs.Common.{◌≡◌, ℕ, List, [], ◌++◌, map, true, false, Some, sym, ap, subst, inl, ◌∙◌}
use Rattle.std.proofs.lemmas.Option.{same_Some}
use Rattle.functions.specs.Below.{accepts, exported, Fields, fine, IsCompilation, Judges, Optimisation, Place}
use Rattle.functions.specs.Below.{ProcedureTree, Profile, ProgramTree, readable, Refusal}
use Rattle.functions.specs.function_text.Functions.{FunctionParts, IsFunctionOf, HasTakenName, IsFaultOf}
use Rattle.functions.specs.function_text.Functions.{IsUnlessMemory, pace_of, written_parameter}
use Rattle.functions.specs.function_text.Names.{is_taken_function}
use Rattle.functions.specs.declared.function_text.fault.FunctionFault.{FunctionFault}
use Rattle.functions.specs.declared.function_text.fault.FunctionFault.TheVariants.{Text, Name}
use Rattle.functions.specs.function_text.private.OfExport.{IsOfExport, NameIsTaken}
use Rattle.compilation.specs.Needs.{Needs}
use Rattle.compilation.specs.Exact.{frame_needs_for}
use Rattle.hepurita.specs.Linked.{StartsAnywhere}
use Rattle.linked_calls.specs.declared.pace.Pace.{Pace}

module _ (optimisation : Optimisation) (profile : Profile) (prefix source : List ℕ) (program : ProgramTree)
    (before : List ProcedureTree) (export : ProcedureTree) where
  -- the program that a source is accepted as has the export that it is accepted with
  pub has_export : Judges profile source (accepts program before export)
      → exported [] program.procedures ≡ Some (before, export)
  has_export (readable reads (fine small in_range in_time)) = small.well_formed.is_export

  module _ (image : Fields) (needs : Needs)
      (is : IsCompilation optimisation profile source program before export image)
      (starts : StartsAnywhere program export image needs)
      (needs_is : needs ≡ frame_needs_for optimisation profile before export)
      (before' : List ProcedureTree) (found : ProcedureTree)
      (at : exported [] program.procedures ≡ Some (before', found)) where
    -- so it is the one that is found
    same : export ≡ found
    same = ap (λ (p : List ProcedureTree × ProcedureTree). p.1)
        (same_Some (before, export) (before', found) (sym (has_export is.judged) ∙ at))

    module _ (name : List ℕ) (is_name : name ≡ prefix ++ found.name) where
      -- so the name is made of its name
      made_of : name ≡ prefix ++ export.name
      made_of = is_name ∙ ap (λ (p : ProcedureTree). prefix ++ p.name) (sym same)

      -- it is taken
      taken : (place : Place) → NameIsTaken name found place → HasTakenName profile prefix source place
      taken place of = record {
        program = program;
        before = before;
        export = export;
        judged = is.judged;
        taken = subst (λ (n : List ℕ). is_taken_function n ≡ true) made_of of.taken;
        stands = of.stands ∙ ap (λ (p : ProcedureTree). p.place) (sym same);
      }

      -- it is free
      pub made : (pace : Pace) → pace ≡ pace_of optimisation → (parts : FunctionParts)
          → IsOfExport name found image needs pace parts → IsFunctionOf optimisation profile prefix source parts
      made pace is_pace parts of = record {
        program = program;
        before = before;
        export = export;
        compilation = subst (IsCompilation optimisation profile source program before export) (sym of.image) is;
        started =
            subst (λ (i : Fields). StartsAnywhere program export i parts.needs) (sym of.image)
            (subst (StartsAnywhere program export image) (sym of.needs_are) starts);
        needs = of.needs_are ∙ needs_is;
        pace = of.pace_is ∙ is_pace;
        name = of.named ∙ made_of;
        free = subst (λ (n : List ℕ). is_taken_function n ≡ false) made_of of.free;
        parameters = of.parameters
            ∙ ap (λ (n : List ℕ). map (written_parameter n) found.parameters) made_of
            ∙ ap (λ (p : ProcedureTree). map (written_parameter (prefix ++ export.name)) p.parameters) (sym same);
      }

      -- out of memory, or a name that is taken
      pub fault_of : (fault : FunctionFault Refusal) → IsUnlessMemory fault (NameIsTaken name found)
          → IsFaultOf profile prefix source fault
      fault_of (Text refusal) of = inl of
      fault_of (Name place) of = taken place of
