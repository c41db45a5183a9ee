-- What this crate takes from the specs of the crates below, in one place.
pub use Rattle.rv_machine.specs.Apart.{AreApart, Covers, IsAsAlone, KeepsInside, ShowTheSame}
pub use Rattle.rv_machine.specs.Bytes.{ByteMap, with_byte, zeros}
unfoldable pub use Rattle.rv_machine.specs.Bytes.{number_at, with_number}
pub use Rattle.rv_machine.specs.Paged.{first_of, lies_in, paged_bytes, zeros_in}
pub use Rattle.rv_machine.specs.RunningHarts.{CutShort, Followed, member_now, system_now}
pub use Rattle.rv_machine.specs.System.{FollowsSchedule, HartMakes, Member, none, of_hart, one_more, rests, System}
pub use Rattle.rv_machine.specs.System.{steps_of}
pub use Rattle.rv_machine.specs.declared.hart_recording.HartObservation.{HartObservation}
pub use Rattle.rv_machine.specs.declared.observation.Observation.{Observation}
pub use Rattle.rv_machine.specs.declared.paged.AddressRange.{AddressRange}
pub use Rattle.rv_machine.specs.declared.stops.Stop.{Stop}
pub use Rattle.rv_machine.specs.declared.stops.Stop.TheVariants.{AccessFault, Break, Budget, Ecall, Illegal, Misaligned}
pub use Rattle.rv_machine.specs.declared.stops.Stop.TheVariants.{RecorderRefused}
pub use Rattle.language.specs.Results.{Results}
pub use Rattle.language.specs.Size.{element_bytes}
pub use Rattle.language.specs.Tree.{ProcedureTree, ProgramTree}
pub use Rattle.language.specs.arguments.Within.{AreWithin}
pub use Rattle.language.specs.declared.values.Arg.{Arg}
pub use Rattle.codegen.specs.Bases.{AreBases, IsInside}
pub use Rattle.codegen.specs.Loaded.{array_in, arrays_in, code_at, loaded_at, numbers_at, params_of, results_in}
pub use Rattle.codegen.specs.Loaded.{with_argument, with_arguments, with_numbers, word_in}
pub use Rattle.expression_code.specs.image_fields.Fields.{Fields, IsImage, result_end, slot_bytes, slot_end}
pub use Rattle.expression_code.specs.declared.image_fields.slot.Slot.{Slot}
pub use Rattle.hepurita.specs.Bases.{code_base, code_distance, frame_base, frame_distance, most_images}
pub use Rattle.hepurita.specs.Compiled.{IsCompiled, Means, RunsTo}
pub use Rattle.hepurita.specs.Frames.{HoldsSlot, IsSpaceFor}
pub use Rattle.hepurita.specs.declared.results.ResultSpace.{ResultSpace}
