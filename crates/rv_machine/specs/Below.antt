-- What this crate takes from the specs of the crates below, in one place.
pub use Rattle.word.specs.Counts.{one_more}
pub use Rattle.word.specs.declared.profile.Profile.{Profile}
pub use Rattle.rv_code.specs.Words.{IsInstr}
unfoldable pub use Rattle.rv_code.specs.Words.{word_of}
pub use Rattle.rv_code.specs.declared.instructions.Instr.{Instr}
pub use Rattle.rv_code.specs.declared.instructions.Instr.TheVariants.{Branch, Divide, Ebreak, Ecall, Fence, Immediate}
pub use Rattle.rv_code.specs.declared.instructions.Instr.TheVariants.{Jump, JumpRegister, Load, Multiply, Register}
pub use Rattle.rv_code.specs.declared.instructions.Instr.TheVariants.{Shift, Store, Upper}
pub use Rattle.rv_code.specs.declared.operations.BranchTest.{BranchTest}
pub use Rattle.rv_code.specs.declared.operations.DivideOperation.{DivideOperation}
pub use Rattle.rv_code.specs.declared.operations.ImmediateOperation.{ImmediateOperation}
pub use Rattle.rv_code.specs.declared.operations.LoadOperation.{LoadOperation}
pub use Rattle.rv_code.specs.declared.operations.MultiplyOperation.{MultiplyOperation}
pub use Rattle.rv_code.specs.declared.operations.RegisterOperation.{RegisterOperation}
pub use Rattle.rv_code.specs.declared.operations.ShiftOperation.{ShiftOperation}
pub use Rattle.rv_code.specs.declared.operations.StoreOperation.{StoreOperation}
pub use Rattle.rv_code.specs.declared.operations.UpperOperation.{UpperOperation}
