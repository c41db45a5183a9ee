use Rattle.std.proofs.Common.{◌∷◌, subst, sym, add-one}
use Rattle.rv_machine.specs.Leakage.{RunsWithin}
use Rattle.rv_machine.proofs.RunLaws.{Leads-append, Halts-after}
use Rattle.rv_machine.proofs.TotalLaws.{Runs-more}
use Rattle.rv_machine.proofs.laws.runs_compose.Goals as goal

pub returns : goal.returns
returns c = record {
  leads = λ code m n s t u a b. Leads-append;
  halts = λ code m n s t u a b stop. Halts-after;
  runs = λ code budget s t u o seen stop step run.
      subst (λ n. RunsWithin code n s (o ∷ seen) stop u) (sym (add-one budget)) (Runs-more step run);
}
