-- What this crate takes from the specs of the crates below, in one place.
pub use Rattle.word.specs.Operators.{negated}
pub use Rattle.word.specs.Widths.{bits}
pub use Rattle.word.specs.declared.width.Width.{Width}
pub use Rattle.word.specs.declared.width.Width.TheVariants.{W16, W32, W8}
pub use Rattle.rv_code.specs.Words.{IsInstr}
unfoldable pub use Rattle.rv_code.specs.Words.{word_of}
pub use Rattle.rv_code.specs.declared.instructions.Instr.{Instr}
pub use Rattle.rv_code.specs.declared.instructions.Instr.TheVariants.{Branch, Immediate, Jump, Load, Register, Shift}
pub use Rattle.rv_code.specs.declared.instructions.Instr.TheVariants.{Store, Upper}
pub use Rattle.rv_code.specs.declared.operations.BranchTest.{BranchTest}
pub use Rattle.rv_code.specs.declared.operations.BranchTest.TheVariants.{Bne}
pub use Rattle.rv_code.specs.declared.operations.DivideOperation.TheVariants.{Divu, Remu}
pub use Rattle.rv_code.specs.declared.operations.ImmediateOperation.{ImmediateOperation}
pub use Rattle.rv_code.specs.declared.operations.ImmediateOperation.TheVariants.{Addi, Andi, Ori, Sltiu, Xori}
pub use Rattle.rv_code.specs.declared.operations.LoadOperation.{LoadOperation}
pub use Rattle.rv_code.specs.declared.operations.LoadOperation.TheVariants.{Lbu, Lhu, Lw}
pub use Rattle.rv_code.specs.declared.operations.MultiplyOperation.TheVariants.{Mul, Mulhu}
pub use Rattle.rv_code.specs.declared.operations.RegisterOperation.TheVariants.{Add, And, Or, Sll, Sltu, Srl, Sub}
pub use Rattle.rv_code.specs.declared.operations.RegisterOperation.TheVariants.{Xor}
pub use Rattle.rv_code.specs.declared.operations.ShiftOperation.{ShiftOperation}
pub use Rattle.rv_code.specs.declared.operations.ShiftOperation.TheVariants.{Slli, Srai, Srli}
pub use Rattle.rv_code.specs.declared.operations.StoreOperation.{StoreOperation}
pub use Rattle.rv_code.specs.declared.operations.StoreOperation.TheVariants.{Sw}
pub use Rattle.rv_code.specs.declared.operations.UpperOperation.TheVariants.{Lui}
pub use Rattle.rv_machine.specs.Bytes.{ByteMap}
unfoldable pub use Rattle.rv_machine.specs.Bytes.{number_at, with_number}
pub use Rattle.rv_machine.specs.Effects.{address_of, branch_target, holds, immediate_value, jump_target, load_size}
pub use Rattle.rv_machine.specs.Effects.{loaded_value, register_value, shift_value, sign_extended, store_size}
pub use Rattle.rv_machine.specs.Leakage.{Leads, stays, steps_on}
pub use Rattle.rv_machine.specs.Machine.{IsAt, MachineCode, State, Step, goes_on, next, with_link, with_stored}
pub use Rattle.rv_machine.specs.Machine.{word_at}
unfoldable pub use Rattle.rv_machine.specs.Machine.{moved_to}
pub use Rattle.rv_machine.specs.Registers.{register, with_register}
pub use Rattle.rv_machine.specs.Sizes.{byte_count}
pub use Rattle.rv_machine.specs.declared.observation.Event.{Event}
pub use Rattle.rv_machine.specs.declared.observation.Observation.{Observation}
pub use Rattle.language.specs.Limits.{most_elements}
pub use Rattle.language.specs.Operators.{operation_of, opposite_of, swapped_of, truth_of, width_of}
pub use Rattle.language.specs.Size.{element_bytes, held_words}
pub use Rattle.language.specs.WellTyped.{Makes, logic}
pub use Rattle.language.specs.declared.operators.BinaryOperator.{BinaryOperator}
pub use Rattle.language.specs.declared.operators.BinaryOperator.TheVariants.{BitAnd, BitOr, BitXor, Divide, Equal}
pub use Rattle.language.specs.declared.operators.BinaryOperator.TheVariants.{Greater, GreaterOrEqual, HighProduct}
pub use Rattle.language.specs.declared.operators.BinaryOperator.TheVariants.{Less, LessOrEqual, LogicalAnd, LogicalOr}
pub use Rattle.language.specs.declared.operators.BinaryOperator.TheVariants.{Multiply, Remainder, ShiftLeft}
pub use Rattle.language.specs.declared.operators.BinaryOperator.TheVariants.{ShiftRight, Subtract, Unequal}
pub use Rattle.language.specs.declared.signature.Form.{Form}
pub use Rattle.language.specs.declared.signature.Form.TheVariants.{FixedArray, MutableArray, SingleWord}
pub use Rattle.language.specs.declared.signature.Kind.{Kind}
pub use Rattle.language.specs.declared.signature.Kind.TheVariants.{Boolean, Uint16, Uint32, Uint8}
pub use Rattle.language.specs.declared.signature.Param.{Param}
pub use Rattle.language.specs.declared.typing.WordType.{WordType}
pub use Rattle.inline.specs.Fitting.{Fits}
pub use Rattle.inline.specs.Flat.{TermTree, array_as, binary, convert, declaration_of, element, number, numbers_in}
pub use Rattle.inline.specs.Flat.{prefix, rotate, select, term_tree, truth, variable}
pub use Rattle.inline.specs.FlatMeaning.{Values, path_in, value_in}
pub use Rattle.inline.specs.FlatSize.{declared_words, term_nodes, words_of}
pub use Rattle.inline.specs.FlatTyping.{TermHasType, types_of}
pub use Rattle.inline.specs.Path.{AreFine, Path, seen}
pub use Rattle.inline.specs.declared.flat.FlatVariable.{FlatVariable}
pub use Rattle.branch_removal.specs.Heights.{height_of}
