use Rattle.std.proofs.Common.{◌∷◌, subst, sym, add-one}
use Rattle.rv_programs.specs.Runs.{ProgramRuns}
use Rattle.rv_programs.proofs.RunLaws.{Leads-append, Halts-after, Runs-more}
use Rattle.rv_programs.proofs.laws.program_runs_compose.Goals as goal

pub returns : goal.returns
returns c = record {
  leads = λ program m n s t u a b. Leads-append;
  halts = λ program m n s t u a b stop. Halts-after;
  runs = λ program budget s t u o seen stop step run.
      subst (λ n. ProgramRuns program n s (o ∷ seen) stop u) (sym (add-one budget)) (Runs-more step run);
}
