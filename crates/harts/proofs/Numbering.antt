-- What each of several gives with its number, one after another.
use Rattle.std.proofs.Common.{◌≡◌, ℕ, zero, suc, ◌+◌, ◌<◌, ◌≤◌, List, [], ◌∷◌, ◌++◌, length, map, take, get_or, All}
use Rattle.std.proofs.Common.{Some, refl, sym, ap, ◌∙◌, subst, arith, add-one}
use Rattle.std.specs.Prelude.{slice_get}
use Rattle.std.proofs.lemmas.List.{take_more, take_all, length-take-le, length-map, get_or-map}
use Rattle.std.proofs.lemmas.List.Elements.{All-more, All-get_or}
use Rattle.std.proofs.lemmas.Option.{none-some, same_Some, slice_get-get_or}
use Rattle.harts.specs.Below.{ByteMap, Member}
use Rattle.harts.specs.Ends.{end_of, ends_from}
use Rattle.harts.specs.Frames.{each_from}
use Rattle.harts.specs.SideBySide.{Job, member_of, members_from}

each_from-push : {X Y : Type 0} (f : ℕ → X → Y) (k : ℕ) (xs : List X) (y : X)
    → each_from f k (xs ++ y ∷ []) ≡ each_from f k xs ++ f (k + length xs) y ∷ []
each_from-push f k [] y =
    let e : k ≡ k + 0 = omega arith in
    ap (λ n. f n y ∷ []) e
each_from-push f k (x ∷ xs) y =
    let e : suc k + length xs ≡ k + suc (length xs) = omega arith in
    rw (each_from-push f (suc k) xs y, e)

pub members_from-each : (k : ℕ) (jobs : List Job) → each_from member_of k jobs ≡ members_from k jobs
members_from-each k [] = refl
members_from-each k (job ∷ jobs) = ap (λ ms. member_of k job ∷ ms) (members_from-each (suc k) jobs)

pub members_from-count : (k : ℕ) (jobs : List Job) → length (members_from k jobs) ≡ length jobs
members_from-count k [] = refl
members_from-count k (job ∷ jobs) = ap suc (members_from-count (suc k) jobs)

-- jobs that are seen through a function, and the one that a loop is at
module _ {J : Type 0} (seen_as : J → Job) (jobs : List J) (i : ℕ) (one : J) (inside : i < length jobs)
    (is : one ≡ get_or jobs i one) where
  pub many : i < length (map seen_as jobs)
  many = subst (λ n. i < n) (sym (length-map jobs seen_as)) inside

  pub job_there : (d : Job) → get_or (map seen_as jobs) i d ≡ seen_as one
  job_there d = get_or-map seen_as jobs i one d inside ∙ ap seen_as (sym is)

  pub job_got : slice_get (map seen_as jobs) i ≡ Some (seen_as one)
  job_got = slice_get-get_or (map seen_as jobs) i (seen_as one) many ∙ ap (λ x. Some x) (job_there (seen_as one))

  pub at_job : (P : Job → Type 0) → All P (map seen_as jobs) → P (seen_as one)
  at_job P all = subst P (job_there (seen_as one)) (All-get_or P (map seen_as jobs) i (seen_as one) many all)

  pub all_more : (P : Job → Type 0) → All P (take i (map seen_as jobs)) → P (seen_as one)
      → All P (take (i + 1) (map seen_as jobs))
  all_more P all this =
      All-more P (map seen_as jobs) i (seen_as one) many all (subst P (sym (job_there (seen_as one))) this)

  pub taken_more : take (i + 1) (map seen_as jobs) ≡ take i (map seen_as jobs) ++ seen_as one ∷ []
  taken_more = take_more (map seen_as jobs) i (seen_as one) many
      ∙ ap (λ x. take i (map seen_as jobs) ++ x ∷ []) (job_there (seen_as one))

  pub each_more : {Y : Type 0} (f : ℕ → Job → Y)
      → each_from f 0 (take (i + 1) (map seen_as jobs)) ≡ each_from f 0 (take i (map seen_as jobs))
      ++ f i (seen_as one) ∷ []
  each_more f =
      let all = map seen_as jobs in
      let number : 0 + length (take i all) ≡ i = omega (arith, length-take-le i all (omega (arith, many))) in
      rw (
        take_more all i (seen_as one) many,
        each_from-push f 0 (take i all) (get_or all i (seen_as one)),
        number,
        job_there (seen_as one),
      )

-- the loop has come to the end
pub all_taken : {J : Type 0} (seen_as : J → Job) (jobs : List J) (i : ℕ) → length jobs ≤ i
    → take i (map seen_as jobs) ≡ map seen_as jobs
all_taken seen_as jobs i past =
    take_all i (map seen_as jobs) (subst (λ n. n ≤ i) (sym (length-map jobs seen_as)) past)

-- the ends of harts, one more
ends_from-next : (k : ℕ) (jobs : List Job) (members : List Member) (bytes : ByteMap) (i : ℕ) (job : Job) (m : Member)
    → slice_get jobs i ≡ Some job → slice_get members i ≡ Some m
    → ends_from k (take (suc i) jobs) (take (suc i) members) bytes ≡ ends_from k (take i jobs) (take i members) bytes
    ++ end_of (k + i) job m.stop bytes ∷ []
ends_from-next k [] members bytes i job m here there = absurd (none-some _ here)
ends_from-next k (x ∷ jobs) [] bytes i job m here there = absurd (none-some _ there)
ends_from-next k (x ∷ jobs) (y ∷ members) bytes zero job m here there =
    let number : k + 0 ≡ k = omega arith in
    rw (number, same_Some x job here, same_Some y m there)
ends_from-next k (x ∷ jobs) (y ∷ members) bytes (suc i) job m here there =
    let number : suc k + i ≡ k + suc i = omega arith in
    rw (ends_from-next (suc k) jobs members bytes i job m here there, number)

pub ends_from-more : (jobs : List Job) (members : List Member) (bytes : ByteMap) (i : ℕ) (job : Job) (m : Member)
    → slice_get jobs i ≡ Some job → slice_get members i ≡ Some m
    → ends_from 0 (take (i + 1) jobs) (take (i + 1) members) bytes ≡ ends_from 0 (take i jobs) (take i members) bytes
    ++ end_of i job m.stop bytes ∷ []
ends_from-more jobs members bytes i job m here there =
    let number : 0 + i ≡ i = omega arith in
    rw (add-one i, ends_from-next 0 jobs members bytes i job m here there, number)
