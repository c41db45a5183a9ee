-- Space for ends, taken hart by hart.
use Rattle.std.proofs.Common.{◌≡◌, ℕ, zero, suc, ◌+◌, ◌<◌, ◌≤◌, List, [], ◌∷◌, ◌++◌, length, take, drop, Some, refl}
use Rattle.std.proofs.Common.{sym, ap, subst, ◌∙◌, arith}
use Rattle.std.specs.List.{AllZip}
use Rattle.std.specs.Prelude.{slice_get}
use Rattle.std.proofs.lemmas.Option.{same_Some, slice_get_within}
use Rattle.harts.specs.Below.{ByteMap, Member, ResultSpace}
use Rattle.harts.specs.EndSpace.{HasSpace}
use Rattle.harts.specs.Ends.{end_of, ends_from}
use Rattle.harts.specs.SideBySide.{Job}
use Rattle.harts.specs.declared.ends.HartEnd.{HartEnd}
use Rattle.harts.proofs.Numbering.{ends_from-more}

-- space for one more
pub space_more : (jobs : List Job) (spaces : List ResultSpace) (job : Job) (one : ResultSpace)
    → AllZip HasSpace jobs spaces → HasSpace job one → AllZip HasSpace (jobs ++ job ∷ []) (spaces ++ one ∷ [])
space_more [] [] job one each has = (has, tt)
space_more (first ∷ jobs) (other ∷ spaces) job one each has = (each.0, space_more jobs spaces job one each.1 has)
space_more jobs spaces job one each has = absurd each

-- where there is one space more there is one job more, which it is for
next_space : (jobs : List Job) (n : ℕ) (one : ResultSpace) (left : List ResultSpace)
    → AllZip HasSpace (drop n jobs) (one ∷ left) → (job : Job) × (slice_get jobs n ≡ Some job) × HasSpace job one
    × AllZip HasSpace (drop (suc n) jobs) left
next_space (job ∷ jobs) zero one left each = (job, refl, each.0, each.1)
next_space (job ∷ jobs) (suc n) one left each = next_space jobs n one left each
next_space [] zero one left each = absurd each
next_space [] n one left each = absurd each

module _ (jobs : List Job) {n number : ℕ} {one : ResultSpace} {left spaces : List ResultSpace} (is : number ≡ n)
    (each : AllZip HasSpace (drop n jobs) spaces) (steps : spaces ≡ one ∷ left) where
  next : (job : Job) × (slice_get jobs n ≡ Some job) × HasSpace job one × AllZip HasSpace (drop (suc n) jobs) left
  next = next_space jobs n one left (rw steps at each)

  -- its number is a job's
  pub number_within : number < length jobs
  number_within = omega (arith, slice_get_within jobs n next.0 next.1)

  -- the space is for that job
  pub space_for : (job : Job) → slice_get jobs number ≡ Some job → HasSpace job one
  space_for job at = subst (λ (it : Job). HasSpace it one)
      (same_Some next.0 job (sym next.1 ∙ ap (slice_get jobs) (sym is) ∙ at)) next.2

  -- and those that are left are for the others
  pub spaces_left : (k : ℕ) → k ≡ n + 1 → AllZip HasSpace (drop k jobs) left
  spaces_left k more = let place : suc n ≡ k = omega (arith, more) in
      subst (λ i. AllZip HasSpace (drop i jobs) left) place next.3

-- where there is no space more there is no job more
pub no_space : (jobs : List Job) (n : ℕ) → AllZip HasSpace (drop n jobs) [] → length jobs ≤ n
no_space [] n each = omega arith
no_space (job ∷ jobs) zero each = absurd each
no_space (job ∷ jobs) (suc n) each = omega (arith, no_space jobs n each)

-- one end more
pub one_end_more : (jobs : List Job) (members : List Member) (bytes : ByteMap) (n number k : ℕ) (job : Job)
    (m : Member) (end : HartEnd) (so_far after : List HartEnd) → number ≡ n → k ≡ n + 1
    → slice_get jobs number ≡ Some job → slice_get members number ≡ Some m
    → end ≡ end_of number job m.stop bytes → so_far ≡ ends_from 0 (take n jobs) (take n members) bytes
    → after ≡ so_far ++ end ∷ [] → after ≡ ends_from 0 (take k jobs) (take k members) bytes
one_end_more jobs members bytes n number k job m end so_far after is more at at' ended before all =
    let place : number + 1 ≡ k = omega (arith, is, more) in
    rw (sym place, ends_from-more jobs members bytes number job m at at', all, before, ended, is)
