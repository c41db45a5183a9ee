-- Faults of a command: a file was not read, or memory was refused.
use Rattle.std.specs.Prelude.{◌≡◌, ℕ, List}
use Rattle.commands.specs.declared.fault.Fault.{Fault}
use Rattle.commands.specs.declared.fault.Fault.TheVariants.{Text, Explained, Image, Run, Eval, Plan, Harts, Vectors}
use Rattle.commands.specs.declared.fault.Fault.TheVariants.{Code, Name, Elf, Unmet, File, InLibrary, ExplainedInLibrary}
use Rattle.commands.specs.declared.fault.FileFault.{FileFault}
use Rattle.commands.specs.declared.fault.FileFault.TheVariants.{CannotRead, CannotWrite, IsElf, NotUtf8}
use Rattle.elf.specs.declared.fault.ElfFault.TheVariants as elf_faults
use Rattle.harts.specs.declared.fault.HartsFault.TheVariants as harts
use Rattle.input_files.specs.declared.harts_file.fault.PlanFault.TheVariants as plans
use Rattle.hepurita.specs.declared.fault.RunFault.TheVariants as runs
use Rattle.image.specs.declared.fault.ImageFault.TheVariants as images
use Rattle.commands.specs.Below.{IsWantOfMemory}
use Rattle.source_eval.specs.declared.fault.EvalFault.TheVariants as evaluations
use Rattle.image_reports.specs.declared.vectors.fault.VectorsFault.TheVariants as vectors

-- memory was refused
abbrev pub IsOutOfMemory : Fault → Type 0
IsOutOfMemory (Text refusal) = IsWantOfMemory refusal.rule refusal.place
IsOutOfMemory (Explained refusal lines) = ⊥
IsOutOfMemory (InLibrary path refusal) = ⊥
IsOutOfMemory (ExplainedInLibrary path refusal lines) = ⊥
IsOutOfMemory (Image fault) = fault ≡ images.Memory
IsOutOfMemory (Run fault) = fault ≡ runs.Memory
IsOutOfMemory (Eval fault) = fault ≡ evaluations.Memory
IsOutOfMemory (Plan fault) = fault ≡ plans.Memory
IsOutOfMemory (Harts fault) = fault ≡ harts.Memory
IsOutOfMemory (Vectors fault) = fault ≡ vectors.Memory
IsOutOfMemory (Code rule) = ⊥
IsOutOfMemory (Name name) = ⊥
IsOutOfMemory (Elf fault) = fault ≡ elf_faults.Memory
IsOutOfMemory (Unmet rule word) = ⊥
IsOutOfMemory (File fault) = ⊥

-- the file at a path cannot be read
abbrev pub IsUnread : List ℕ → FileFault → Type 0
IsUnread path (CannotRead named) = named.now ≡ path
IsUnread path (CannotWrite named) = ⊥
IsUnread path (NotUtf8 named) = ⊥
IsUnread path (IsElf named) = ⊥

-- the file at a path cannot be written
abbrev pub IsUnwritten : List ℕ → FileFault → Type 0
IsUnwritten path (CannotRead named) = ⊥
IsUnwritten path (CannotWrite named) = named.now ≡ path
IsUnwritten path (NotUtf8 named) = ⊥
IsUnwritten path (IsElf named) = ⊥

-- why the bytes of the file at a path are not had
pub data NotRead (path : List ℕ) : Fault → Type 0 where
  unread : {fault : FileFault} → IsUnread path fault → NotRead path (File fault)
  out_of_memory : {fault : Fault} → IsOutOfMemory fault → NotRead path fault
