-- What this crate takes from the specs of the crates below, in one place.
pub use Rattle.word.specs.Operators.{converted}
pub use Rattle.word.specs.declared.width.Width.{Width}
pub use Rattle.word.specs.declared.width.Width.TheVariants.{W32}
unfoldable pub use Rattle.rv_code.specs.Words.{word_of}
pub use Rattle.rv_code.specs.declared.instructions.Instr.{Instr}
pub use Rattle.rv_code.specs.declared.instructions.Instr.TheVariants.{Ecall, Immediate, Load, Register, Store}
pub use Rattle.rv_code.specs.declared.instructions.Instr.TheVariants.{Upper}
pub use Rattle.rv_code.specs.declared.operations.BranchTest.TheVariants.{Beq, Bgeu, Bltu, Bne}
pub use Rattle.rv_code.specs.declared.operations.ImmediateOperation.TheVariants.{Addi, Sltiu, Xori}
pub use Rattle.rv_code.specs.declared.operations.RegisterOperation.TheVariants.{Add, And, Sltu, Sub, Xor}
pub use Rattle.rv_code.specs.declared.operations.StoreOperation.{StoreOperation}
pub use Rattle.rv_code.specs.declared.operations.StoreOperation.TheVariants.{Sb, Sh, Sw}
pub use Rattle.rv_code.specs.declared.operations.UpperOperation.TheVariants.{Lui}
pub use Rattle.rv_machine.specs.Bytes.{ByteMap, zeros}
unfoldable pub use Rattle.rv_machine.specs.Bytes.{number_at, with_number}
pub use Rattle.rv_machine.specs.Effects.{holds, sign_extended}
pub use Rattle.rv_machine.specs.Leakage.{Halts, Leads}
pub use Rattle.rv_machine.specs.Machine.{MachineCode, State, word_at}
pub use Rattle.rv_machine.specs.Registers.{initial_registers, register}
pub use Rattle.rv_machine.specs.declared.observation.Event.{Event}
pub use Rattle.rv_machine.specs.declared.observation.Observation.{Observation}
pub use Rattle.language.specs.Limits.{most_declared_bytes, most_nodes}
pub use Rattle.language.specs.Operators.{operated, width_of}
pub use Rattle.language.specs.Size.{array_words, element_bytes}
pub use Rattle.language.specs.arguments.Within.{AreWithin}
pub use Rattle.language.specs.declared.operators.BinaryOperator.{BinaryOperator}
pub use Rattle.language.specs.declared.operators.BinaryOperator.TheVariants.{Equal, Greater, GreaterOrEqual}
pub use Rattle.language.specs.declared.operators.BinaryOperator.TheVariants.{Less, LessOrEqual, ShiftRight, Unequal}
pub use Rattle.language.specs.declared.signature.Form.{Form}
pub use Rattle.language.specs.declared.signature.Form.TheVariants.{FixedArray, MutableArray, SingleWord}
pub use Rattle.language.specs.declared.signature.Kind.{Kind}
pub use Rattle.language.specs.declared.signature.Kind.TheVariants.{Boolean, Uint16, Uint32, Uint8}
pub use Rattle.language.specs.declared.signature.Param.{Param}
pub use Rattle.language.specs.declared.typing.WordType.{WordType}
pub use Rattle.language.specs.declared.values.Arg.{Arg}
pub use Rattle.inline.specs.Flat.{binary, convert, declaration_of, element, number, prefix}
pub use Rattle.inline.specs.Flat.{rotate, select, term_tree, TermTree, truth, variable}
pub use Rattle.inline.specs.FlatMeaning.{marks_of, with_value}
pub use Rattle.inline.specs.FlatSize.{declared_words, HasLength, value_nodes, words_of}
pub use Rattle.inline.specs.FlatTyping.{of_binary, of_conversion}
pub use Rattle.inline.specs.Path.{AreFine, Path, seen}
pub use Rattle.inline.specs.declared.flat.FlatVariable.{FlatVariable}
pub use Rattle.intervals.specs.Limits.{most_work}
pub use Rattle.branch_removal.specs.Heights.{depth_in, depth_in_all, height_in, height_in_all, height_of, height_of_all}
pub use Rattle.branch_removal.specs.Heights.{program_height}
pub use Rattle.branch_removal.specs.Kept.{IsStraight}
pub use Rattle.branch_removal.specs.Straight.{array, branch, first, nothing, put, repeats, set, straight_block}
pub use Rattle.branch_removal.specs.Straight.{straight_tree, StraightBlock, StraightProgram, StraightTree, take}
pub use Rattle.branch_removal.specs.StraightMeaning.{outcome_of, path_of, start}
pub use Rattle.branch_removal.specs.StraightTyping.{IsAmong, IsTypedStraight}
pub use Rattle.branch_removal.specs.Uses.{greatest_weight, used, used_by, used_by_all, used_in, used_in_result}
pub use Rattle.branch_removal.specs.Uses.{used_in_terms, weight_inside, weights_of}
