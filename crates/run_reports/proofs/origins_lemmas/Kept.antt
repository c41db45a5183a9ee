-- What is kept of registers' origins.
use Rattle.std.specs.Prelude.{slice_index_or}
use Rattle.std.proofs.Common.{◌≡◌, ℕ, zero, suc, Option, None, refl, ap, replicate}
use Rattle.std.proofs.Math.Path.{fun_ext}
use Rattle.run_reports.specs.origins.Origins.{kept_or_start, origins_in}
use Rattle.run_reports.specs.declared.origins.registers.Origin.{Origin}
use Rattle.run_reports.specs.declared.origins.registers.Origin.TheVariants.{Start}

all_none : (n r : ℕ) → ◌≡◌ {A = Option Origin} (slice_index_or (replicate n None) r None) None
all_none zero r = refl
all_none (suc n) zero = refl
all_none (suc n) (suc r) = all_none n r

-- where nothing is kept, each register comes from itself
pub none_kept : (n : ℕ) → origins_in (replicate n None) ≡ Start
none_kept n = fun_ext (λ r. ap (kept_or_start r) (all_none n r))
