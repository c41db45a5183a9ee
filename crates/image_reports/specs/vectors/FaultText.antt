-- How a fault of a file of vectors is printed.
use Rattle.std.specs.Prelude.{ℕ, List, ◌++◌, None, codes}
use Rattle.std.specs.Fmt.{decimal}
use Rattle.image_reports.specs.declared.vectors.fault.VectorsFault.{VectorsFault}
use Rattle.image_reports.specs.declared.vectors.fault.VectorsFault.TheVariants.{Line, Memory, TooLong}
use Rattle.language.specs.Rules.{refusal_text}
use Rattle.language.specs.declared.rule.Rule.TheVariants.{OutOfMemory}

abbrev pub vectors_fault_text : VectorsFault → List ℕ
vectors_fault_text (Line line) = codes "V1 at line " ++ decimal line ++ codes ": line form"
vectors_fault_text TooLong = codes "V2: text too long"
vectors_fault_text Memory = refusal_text OutOfMemory None
