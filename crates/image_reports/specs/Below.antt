-- What this crate takes from the specs of the crates below, in one place.
pub use Rattle.word.specs.declared.profile.Profile.{Profile}
pub use Rattle.rv_machine.specs.Bytes.{ByteMap, zeros}
unfoldable pub use Rattle.rv_machine.specs.Bytes.{with_number}
pub use Rattle.rv_machine.specs.Entries.{Compares, entries_of, Entry, event, IsFirstDifference, program_counter}
pub use Rattle.rv_machine.specs.Harts.{pc_of, regs_of, state_of}
pub use Rattle.rv_machine.specs.Machine.{MachineCode, State, word_at}
pub use Rattle.rv_machine.specs.Paged.{paged_bytes}
pub use Rattle.rv_machine.specs.Regions.{code_of}
pub use Rattle.rv_machine.specs.Registers.{initial_registers}
pub use Rattle.rv_machine.specs.declared.observation.Observation.{Observation}
pub use Rattle.rv_machine.specs.declared.pairing.Pairing.{Pairing}
pub use Rattle.rv_machine.specs.declared.pairing.Pairing.TheVariants.{Differ}
pub use Rattle.rv_machine.specs.declared.stops.Stop.{Stop}
pub use Rattle.rv_programs.specs.Programs.{image_program, MachineProgram}
pub use Rattle.certified_runs.specs.Amounts.{ShiftsBy}
pub use Rattle.certified_runs.specs.Bits.{Agree}
pub use Rattle.certified_runs.specs.Certified.{CertifiedRun, may_differ, RunEnding, same}
pub use Rattle.certified_runs.specs.End.{end_of}
pub use Rattle.certified_runs.specs.Known.{AreBytes, byte_unknown, Covers, KnownState}
pub use Rattle.certified_runs.specs.Parts.{known_of, no_masks, register_masks}
pub use Rattle.certified_runs.specs.declared.certifying.CertifiedEnd.{CertifiedEnd}
pub use Rattle.certified_runs.specs.declared.certifying.CertifiedEnd.TheVariants.{MayDiffer, Same}
pub use Rattle.certified_runs.specs.declared.shifts.Shifts.{Shifts}
pub use Rattle.certified_runs.specs.declared.shifts.Shifts.TheVariants.{Hidden, Seen}
pub use Rattle.streams.specs.Puts.{collected}
pub use Rattle.streams.specs.Streams.{Collected}
pub use Rattle.run_reports.specs.pictures.Telling.{PictureTells}
pub use Rattle.run_reports.specs.progress.Certified.{GoesOnKnown}
pub use Rattle.run_reports.specs.progress.GoingOn.{Counting, HasLines, IsTold, Reaches}
pub use Rattle.run_reports.specs.run_places.Places.{IsLastBefore, ShowsFewer}
pub use Rattle.run_reports.specs.run_places.Reads.{SaysRegisters}
pub use Rattle.run_reports.specs.run_places.Shown.{ShowsAt}
pub use Rattle.run_reports.specs.declared.run_places.shown.Shown.{Shown}
pub use Rattle.language.specs.Results.{Results}
pub use Rattle.language.specs.Signature.{exported}
pub use Rattle.language.specs.Size.{bodies_cost, bytes_cost, element_bytes, extents_of, nodes_cost}
pub use Rattle.language.specs.Tree.{procedure_tree, ProcedureTree, program_tree, ProgramTree}
pub use Rattle.language.specs.WantOfMemory.{IsWantOfMemory}
pub use Rattle.language.specs.arguments.Faults.{fault_at, fault_by, fault_from, rule_of}
pub use Rattle.language.specs.arguments.Text.{fault_text}
pub use Rattle.language.specs.arguments.Texts.{fault_of_texts, numbers_of, rule_of_numbers, rule_of_text}
pub use Rattle.language.specs.arguments.Within.{AreWithin, HasShape, IsWithin, words_of}
pub use Rattle.language.specs.declared.arguments.fault.ArgumentFault.{ArgumentFault}
pub use Rattle.language.specs.declared.arguments.fault.ArgumentRule.{ArgumentRule}
pub use Rattle.language.specs.declared.signature.Form.{Form}
pub use Rattle.language.specs.declared.signature.Form.TheVariants.{FixedArray, MutableArray, SingleWord}
pub use Rattle.language.specs.declared.signature.Kind.{Kind}
pub use Rattle.language.specs.declared.signature.Kind.TheVariants.{Boolean, Uint16, Uint32, Uint8}
pub use Rattle.language.specs.declared.signature.Label.{Label}
pub use Rattle.language.specs.declared.signature.Label.TheVariants.{Public, Secret}
pub use Rattle.language.specs.declared.signature.Param.{Param}
pub use Rattle.language.specs.declared.values.Arg.{Arg}
pub use Rattle.language.specs.declared.values.Arg.TheVariants.{Array, Word}
pub use Rattle.inline.specs.Numbering.{flattened}
pub use Rattle.intervals.specs.Ranged.{RangedProgram}
pub use Rattle.intervals.specs.Work.{cost_by, ranged}
unfoldable pub use Rattle.branch_removal.specs.Exact.{straight_of}
pub use Rattle.codegen.specs.Loaded.{array_in, arrays_in, code_at, loaded_at, numbers_at, params_of, results_in}
pub use Rattle.codegen.specs.Loaded.{with_argument, with_arguments, with_numbers}
pub use Rattle.expression_code.specs.image_fields.Fields.{AreSlots, Fields, is_length, IsImage, slot_end}
pub use Rattle.expression_code.specs.declared.image_fields.slot.Slot.{Slot}
pub use Rattle.hepurita.specs.source_work.SourceWork.{work_cost}
pub use Rattle.hepurita.specs.Bases.{code_base, frame_base}
pub use Rattle.hepurita.specs.Built.{accepts, IsCompilation, Judges}
pub use Rattle.compilation.specs.Exact.{code_for}
unfoldable pub use Rattle.compilation.specs.Exact.{image_for}
pub use Rattle.hepurita.specs.Frames.{HoldsSlot}
pub use Rattle.hepurita.specs.Meant.{Means}
pub use Rattle.hepurita.specs.Paired.{compared, Observed, Paired}
pub use Rattle.hepurita.specs.Told.{IsRefusalOf}
pub use Rattle.hepurita.specs.declared.fault.RunFault.{RunFault}
pub use Rattle.hepurita.specs.declared.fault.RunFault.TheVariants.{Argument, Memory, Stopped}
pub use Rattle.compilation.specs.declared.optimised.Optimisation.{Optimisation}
pub use Rattle.listing.specs.Code.{IsLineAt}
pub use Rattle.listing.specs.Leaked.{IsLeak}
