-- The registers that an instruction reads, as a list.
use Rattle.std.specs.Prelude.{ℕ, List, [], ◌∷◌}
use Rattle.run_reports.specs.declared.origins.reading.Reads.{Reads}
use Rattle.run_reports.specs.declared.origins.reading.Reads.TheVariants.{Nothing, One, Two}

abbrev pub listed_reads : Reads → List ℕ
listed_reads Nothing = []
listed_reads (One r) = r ∷ []
listed_reads (Two r s) = r ∷ s ∷ []
