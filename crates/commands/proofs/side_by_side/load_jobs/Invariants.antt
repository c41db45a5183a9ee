-- A job loaded for each that was read, as its line says.
use Rattle.std.specs.Prelude.{◌≡◌, map, take, vec_len, IsTrue}
use Rattle.std.specs.List.{AllZip}
use Rattle.commands.specs.Harts.{IsJobOf}
use Rattle.commands.specs.Below.{hart_of, job_of}
use Rattle.commands.proofs.side_by_side.load_jobs.Given as goal

abbrev pub invariant-loop-job : goal.invariant-loop-job
invariant-loop-job g l = record {
  count : vec_len l.loaded ≡ l.job-index;
  same : g.F.Files.store l.files ≡ g.F.Files.store l.fn.files;
  said : IsTrue g.F.Files.TELLS
      → AllZip (IsJobOf (g.F.Files.store l.fn.files).contents) (map hart_of (take l.job-index l.jobs))
      (map job_of l.loaded.items);
}
