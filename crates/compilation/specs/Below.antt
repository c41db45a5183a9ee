-- What this crate takes from the specs of the crates below, in one place.
pub use Rattle.word.specs.declared.profile.Profile.{Profile}
pub use Rattle.rv_machine.specs.Bytes.{ByteMap, zeros}
pub use Rattle.rv_machine.specs.Machine.{MachineCode, State}
pub use Rattle.rv_machine.specs.declared.observation.Observation.{Observation}
pub use Rattle.language.specs.Tree.{ProcedureTree}
pub use Rattle.language.specs.WantOfMemory.{IsWantOfMemory}
pub use Rattle.language.specs.arguments.Within.{AreWithin}
pub use Rattle.language.specs.declared.signature.Kind.TheVariants.{Boolean}
pub use Rattle.language.specs.declared.values.Arg.{Arg}
pub use Rattle.inline.specs.Numbering.{flattened}
pub use Rattle.inline.specs.declared.flat.FlatVariable.{FlatVariable}
pub use Rattle.intervals.specs.Ranged.{RangedProgram}
pub use Rattle.intervals.specs.Work.{ranged}
pub use Rattle.branch_removal.specs.Removed.{IsRemoved}
pub use Rattle.branch_removal.specs.Straight.{StraightProgram}
pub use Rattle.branch_removal.specs.StraightMeaning.{path_of}
pub use Rattle.inline.specs.Path.{AreFine, Path, seen}
pub use Rattle.codegen.specs.Anywhere.{IsLoaded, IsPlaced, RunsBehind}
pub use Rattle.codegen.specs.Followed.{IsGenerated}
pub use Rattle.codegen.specs.Loaded.{params_of, with_arguments}
pub use Rattle.expression_code.specs.image_fields.Fields.{Fields, IsImage}
pub use Rattle.variable_room.specs.set_whole.Whole.{AgreeBut, set_whole_of}
unfoldable pub use Rattle.branch_removal.specs.Exact.{straight_of}
unfoldable pub use Rattle.codegen.specs.Exact.{fields_of, optimised_fields_of, optimised_variables}
unfoldable pub use Rattle.optimisation.specs.constants.Exact.{simplified_of, unrolled_of}
