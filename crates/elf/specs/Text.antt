-- How faults of a file are printed.
use Rattle.std.specs.Prelude.{ℕ, List, ◌++◌, codes}
use Rattle.std.specs.Fmt.{decimal}
use Rattle.elf.specs.RuleNames.{code_of, name_of}
use Rattle.elf.specs.declared.fault.ElfFault.{ElfFault}
use Rattle.elf.specs.declared.fault.ElfFault.TheVariants.{File, Memory}

abbrev pub fault_text : ElfFault → List ℕ
fault_text (File rule at) = code_of rule ++ codes " at byte " ++ decimal at ++ codes ": " ++ name_of rule
fault_text Memory = codes "M1: memory"
