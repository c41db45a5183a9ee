-- The function of a source, or why there is none.
use Rattle.std.specs.Prelude.{◌≡◌, ℕ, true, false, List, ◌++◌, map}
use Rattle.std.specs.String.{string_bytes}
use Rattle.functions.specs.function_text.Names.{is_taken_function, written_name}
use Rattle.functions.specs.declared.function_text.fault.FunctionFault.{FunctionFault}
use Rattle.functions.specs.declared.function_text.fault.FunctionFault.TheVariants.{Text, Name}
use Rattle.functions.specs.declared.function_text.function.Function.{Function}
use Rattle.functions.specs.declared.function_text.function.NamedParam.{NamedParam}
use Rattle.functions.specs.Below.{accepts, Fields, IsCompilation, IsWantOfMemory, Judges, Optimisation, param_of}
use Rattle.functions.specs.Below.{ParameterTree, Place, ProcedureTree, Profile, ProgramTree, Refusal}
use Rattle.compilation.specs.Exact.{frame_needs_for}
use Rattle.hepurita.specs.Linked.{StartsAnywhere}
use Rattle.compilation.specs.Needs.{Needs, needs_as}
use Rattle.hepurita.specs.Told.{IsRefusalOf}
use Rattle.compilation.specs.declared.optimised.Optimisation.TheVariants as codes_made
use Rattle.language.specs.declared.signature.Param.{Param}
use Rattle.linked_calls.specs.declared.pace.Pace.{Pace}
use Rattle.linked_calls.specs.declared.pace.Pace.TheVariants as paces

-- a parameter under the name that is written for it
pub record Named : Type 0 where
  pub name : List ℕ
  pub param : Param

-- what decides the texts of a function: its name, its parameters, and the image whose code it has
pub record FunctionParts : Type 0 where
  pub name : List ℕ
  pub parameters : List Named
  pub image : Fields
  -- what the body needs of its frame where it begins, and the pace of the code around it
  pub needs : Needs
  pub pace : Pace

abbrev pub named : NamedParam → Named
named p = record { name = string_bytes p.name; param = p.param }

abbrev pub parts_of : Function → FunctionParts
parts_of f =
    record {
      name = f.name;
      parameters = map named f.parameters.items;
      image = f.image;
      needs = needs_as f.needs;
      pace = f.pace;
    }

-- code of few words is made for few words around its body too
abbrev pub pace_of : Optimisation → Pace
pace_of codes_made.Off = paces.Fast
pace_of codes_made.On = paces.Fast
pace_of codes_made.Small = paces.Small

-- a parameter of the source, in a function of this name
abbrev pub written_parameter : List ℕ → ParameterTree → Named
written_parameter function p = record { name = written_name function p.name; param = param_of p }

-- the function of a source that is accepted for an observer: the code of its plain or its optimised image, under the
-- names of its export, before whose own a prefix stands
pub record IsFunctionOf (optimisation : Optimisation) (profile : Profile) (prefix source : List ℕ)
    (parts : FunctionParts) : Type 0 where
  pub program : ProgramTree
  pub before : List ProcedureTree
  pub export : ProcedureTree
  pub compilation : IsCompilation optimisation profile source program before export parts.image
  pub started : StartsAnywhere program export parts.image parts.needs
  pub needs : parts.needs ≡ frame_needs_for optimisation profile before export
  pub pace : parts.pace ≡ pace_of optimisation
  pub name : parts.name ≡ prefix ++ export.name
  pub free : is_taken_function (prefix ++ export.name) ≡ false
  pub parameters : parts.parameters ≡ map (written_parameter (prefix ++ export.name)) export.parameters

-- the source is accepted, and the name of its export, which stands at this place, is taken with the prefix before it
pub record HasTakenName (profile : Profile) (prefix source : List ℕ) (place : Place) : Type 0 where
  pub program : ProgramTree
  pub before : List ProcedureTree
  pub export : ProcedureTree
  pub judged : Judges profile source (accepts program before export)
  pub taken : is_taken_function (prefix ++ export.name) ≡ true
  pub stands : place ≡ export.place

-- the source's refusal, or the export's name
abbrev pub IsFaultOf : Profile → List ℕ → List ℕ → FunctionFault Refusal → Type 0
IsFaultOf profile prefix source (Text refusal) = IsRefusalOf profile source refusal
IsFaultOf profile prefix source (Name place) = HasTakenName profile prefix source place

-- out of memory, or a place of which this holds
abbrev pub IsUnlessMemory : FunctionFault Refusal → (Place → Type 0) → Type 0
IsUnlessMemory (Text refusal) P = IsWantOfMemory refusal.rule refusal.place
IsUnlessMemory (Name place) P = P place
