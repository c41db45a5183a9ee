-- What this crate takes from the specs of the crates below, in one place.
pub use Rattle.word.specs.Counts.{one_more}
pub use Rattle.word.specs.declared.place.Place.{Place}
pub use Rattle.word.specs.declared.profile.Profile.{Profile}
pub use Rattle.word.specs.declared.profile.Profile.TheVariants.{P1, P2}
pub use Rattle.rv_machine.specs.Harts.{state_of}
pub use Rattle.rv_code.specs.declared.instructions.Instr.{Instr}
pub use Rattle.rv_machine.specs.Leakage.{Halts, halts, halted, Leads, RunsWithin, spent, stays}
pub use Rattle.rv_machine.specs.Machine.{MachineCode, State, word_at}
pub use Rattle.rv_machine.specs.Paged.{paged_bytes}
pub use Rattle.rv_machine.specs.Regions.{code_of}
pub use Rattle.rv_machine.specs.declared.hart_recording.HartObservation.{HartObservation}
pub use Rattle.rv_machine.specs.declared.observation.Observation.{Observation}
pub use Rattle.rv_machine.specs.declared.pairing.Pairing.{Pairing}
pub use Rattle.rv_machine.specs.declared.stops.Stop.{Stop}
pub use Rattle.rv_machine.specs.declared.stops.Stop.TheVariants.{AccessFault, Break, Budget, Ecall, Illegal, Misaligned}
pub use Rattle.rv_machine.specs.declared.stops.Stop.TheVariants.{RecorderRefused}
pub use Rattle.rv_programs.specs.Programs.{image_program, MachineProgram, StandsAt}
pub use Rattle.certified_runs.specs.declared.certifying.CertifiedEnd.{CertifiedEnd}
pub use Rattle.certified_runs.specs.declared.certifying.CertifiedEnd.TheVariants.{MayDiffer, Same}
pub use Rattle.certified_runs.specs.declared.shifts.Shifts.{Shifts}
pub use Rattle.certified_runs.specs.declared.shifts.Shifts.TheVariants.{Hidden, Seen}
pub use Rattle.streams.specs.Puts.{collected, IsPut, IsPutInPart, IsPutWhole}
pub use Rattle.streams.specs.Streams.{Collected, GainsPart, Writes, WritesPart}
pub use Rattle.run_reports.specs.progress.GoingOn.{BothGoOn, Counting, GoesOn, HasLines, IsTold, Reaches}
pub use Rattle.language.specs.Results.{Results}
pub use Rattle.language.specs.Tree.{ProcedureTree, program_tree, ProgramTree}
pub use Rattle.language.specs.WantOfMemory.{IsWantOfMemory}
pub use Rattle.language.specs.arguments.Faults.{count_fault, shifted}
pub use Rattle.language.specs.arguments.Texts.{fault_of_texts, numbers_of, rule_of_text}
pub use Rattle.language.specs.arguments.Within.{AreWithin, words_of}
pub use Rattle.language.specs.declared.arguments.fault.ArgumentFault.{ArgumentFault}
pub use Rattle.language.specs.FirstViolation.{TellsOf}
pub use Rattle.language.specs.declared.refusal.Refusal.{Refusal}
pub use Rattle.language.specs.declared.rule.Rule.TheVariants.{TextTooLong}
pub use Rattle.language.specs.declared.signature.Param.{Param}
pub use Rattle.language.specs.declared.values.Arg.{Arg}
pub use Rattle.codegen.specs.Loaded.{code_at, loaded_at, params_of}
pub use Rattle.expression_code.specs.image_fields.Fields.{Fields, IsImage, slot_end, slots_end}
pub use Rattle.expression_code.specs.image_fields.Limits.{most_parameters, most_words}
pub use Rattle.tokens.specs.Limits.{source_limit}
pub use Rattle.source_eval.specs.Answer.{answer}
pub use Rattle.source_eval.specs.declared.fault.EvalFault.{EvalFault}
pub use Rattle.image.specs.Limits.{longest_image}
pub use Rattle.image.specs.Reading.{flagged_format, is_frame_size, is_step_limit, is_word_count, IsUnlessMemory}
pub use Rattle.image.specs.Reading.{reading, Spells}
unfoldable pub use Rattle.image.specs.Reading.{image_format, result_format, slot_format, slots_format, words_format}
pub use Rattle.image.specs.declared.fault.ImageFault.{ImageFault}
pub use Rattle.image.specs.declared.fault.ImageFault.TheVariants.{Field}
pub use Rattle.image.specs.declared.fault.ImageRule.{ImageRule}
pub use Rattle.language.specs.declared.typing.Violation.{Violation}
pub use Rattle.hepurita.specs.Bases.{code_base, frame_base, most_images}
pub use Rattle.hepurita.specs.Built.{accepts, IsBuilt, Judges}
pub use Rattle.hepurita.specs.Compiled.{Means}
pub use Rattle.hepurita.specs.Executed.{Executed}
pub use Rattle.hepurita.specs.Listed.{ListsViolations}
pub use Rattle.hepurita.specs.Paired.{compared, first_of, Paired}
pub use Rattle.hepurita.specs.Told.{IsRefusalOf}
pub use Rattle.hepurita.specs.declared.fault.RunFault.{RunFault}
pub use Rattle.hepurita.specs.declared.fault.RunFault.TheVariants.{Argument, Memory, Stopped}
pub use Rattle.compilation.specs.declared.optimised.Optimisation.{Optimisation}
pub use Rattle.listing.specs.Code.{IsLineAt, ListsCode}
pub use Rattle.listing.specs.Leaked.{IsLeak, Leaks}
pub use Rattle.listing.specs.Lines.{lines_of, stop_line}
pub use Rattle.listing.specs.declared.fault.LeakFault.{LeakFault}
pub use Rattle.listing.specs.declared.fault.LeakFault.TheVariants.{Write}
pub use Rattle.harts.specs.Frames.{job_of}
pub use Rattle.harts.specs.Refused.{Refuses}
pub use Rattle.harts.specs.RunHarts.{cut_short, out_of_memory, ran, refused, RunsHarts}
pub use Rattle.harts.specs.SideBySide.{Job}
pub use Rattle.harts.specs.declared.ends.HartEnd.{HartEnd}
pub use Rattle.harts.specs.declared.fault.HartsFault.{HartsFault}
pub use Rattle.harts.specs.declared.fault.HartsRule.{HartsRule}
pub use Rattle.input_files.specs.harts_file.Faults.{IsFault}
pub use Rattle.input_files.specs.harts_file.Jobs.{hart_of}
pub use Rattle.input_files.specs.harts_file.Lines.{PlannedHart}
pub use Rattle.input_files.specs.harts_file.Plans.{IsPlan}
pub use Rattle.input_files.specs.stream_build.Faults.{IsText, IsTooLong}
pub use Rattle.input_files.specs.wrapping.Wrapped.{Breaks, broken_rule, is_code_length, IsWrapped}
pub use Rattle.input_files.specs.declared.harts_file.fault.PlanFault.{PlanFault}
pub use Rattle.input_files.specs.declared.stream_build.fault.BuildFault.{BuildFault}
pub use Rattle.input_files.specs.declared.stream_build.fault.BuildFault.TheVariants.{NotUtf8, Read, Refused}
pub use Rattle.input_files.specs.declared.wrapping.asked.Asked.{Asked}
pub use Rattle.input_files.specs.declared.wrapping.fault.CodeRule.{CodeRule}
pub use Rattle.image_reports.specs.certificates.Certified.{Certified, certified}
pub use Rattle.image_reports.specs.certificates.Given.{fault_of_given}
pub use Rattle.image_reports.specs.certificates.Texts.{fault_of_given_texts, numbers_given}
pub use Rattle.image_reports.specs.image_pictures.Drawn.{DrawsOne, DrawsTwo}
pub use Rattle.image_reports.specs.image_pictures.Telling.{TellsOne, TellsTwo}
pub use Rattle.image_reports.specs.image_statistics.ImageText.{BeginsOtherwise, IsFaultOf, SaysFields}
pub use Rattle.image_reports.specs.source_places.Placed.{at_line, IsStanding, numbered_of, placed, standing_text}
pub use Rattle.image_reports.specs.source_statistics.SourceText.{SaysCosts}
pub use Rattle.image_reports.specs.vectors.Lines.{longest_vectors, NamedVector, vectors_in}
pub use Rattle.image_reports.specs.vectors.Verdicts.{IsReport}
pub use Rattle.image_reports.specs.declared.vectors.fault.VectorsFault.{VectorsFault}
pub use Rattle.image_reports.specs.declared.vectors.fault.VectorsFault.TheVariants.{Line, TooLong}
pub use Rattle.elf.specs.Reading.{Executable}
pub use Rattle.elf.specs.declared.fault.ElfFault.{ElfFault}
pub use Rattle.elf.specs.declared.fault.ElfRule.{ElfRule}
pub use Rattle.elf_runs.specs.Calls.{LeadThere}
pub use Rattle.elf_runs.specs.Certified.{CertifiedFunction}
pub use Rattle.elf_runs.specs.Loading.{known_at_start, machine_program, state_at_start}
pub use Rattle.elf_runs.specs.Needs.{first_unmet, needs}
pub use Rattle.elf_witnesses.specs.Witnessed.{IsWitness}
pub use Rattle.elf_memory.specs.declared.asked.Asked.{Asked as AskedRun}
pub use Rattle.elf_memory.specs.declared.asked.Setting.{Setting}
pub use Rattle.elf_runs.specs.declared.certifying.FunctionCertificate.{FunctionCertificate}
pub use Rattle.elf_runs.specs.declared.fault.StartFault.{StartFault}
pub use Rattle.elf_runs.specs.declared.fault.Unmet.{Unmet}
pub use Rattle.elf_runs.specs.declared.options.RunOptions.{RunOptions}
pub use Rattle.elf_memory.specs.declared.stops.FunctionStop.{FunctionStop}
pub use Rattle.elf_witnesses.specs.declared.witnessing.Witness.{Witness}
pub use Rattle.elf_reports.specs.Asking.{AsksFor, part_word, spelling}
pub use Rattle.elf_reports.specs.EncodingLines.{IsLineOfEncoding}
pub use Rattle.elf_reports.specs.Encodings.{encoding_at, encoding_in}
pub use Rattle.elf_reports.specs.Leaked.{IsFunctionLeak, LeaksFunction}
pub use Rattle.elf_reports.specs.Places.{place_line}
pub use Rattle.elf_reports.specs.declared.asking.AskedWords.{AskedWords}
pub use Rattle.elf_reports.specs.declared.encodings.Encoding.{Encoding}
pub use Rattle.elf_reports.specs.declared.leaking.FunctionLeakFault.{FunctionLeakFault}
