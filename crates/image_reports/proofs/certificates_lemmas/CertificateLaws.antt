-- What a certificate says of the runs of an image, of pairs of them, and of their listings.
use Rattle.std.specs.Prelude.{slice_get}
use Rattle.std.proofs.Common.{◌≡◌, ◌≢◌, ℕ, zero, suc, ◌+◌, ◌<◌, ◌≤◌, List, [], ◌∷◌, ◌++◌, length, take, Option}
use Rattle.std.proofs.Common.{Result, Ok, Err, refl, sym, ap, ap₂, ◌∙◌, subst, ⊎_elim, length-append, arith}
use Rattle.std.proofs.Math.Seq.{take-append-add}
use Rattle.std.proofs.lemmas.Bool.{cases_lt}
use Rattle.std.proofs.lemmas.Option.{none-some, same_Some}
use Rattle.image_reports.specs.Below.{Arg, Argument, ArgumentFault, CertifiedEnd, CertifiedRun, code_at, code_base}
use Rattle.image_reports.specs.Below.{compared, Compares, Covers, end_of, entries_of, Entry, Fields, frame_base}
use Rattle.image_reports.specs.Below.{image_program, IsFirstDifference, IsImage, IsLeak, loaded_at, may_differ, MayDiffer, Memory}
use Rattle.image_reports.specs.Below.{Observation, Observed, Paired, Pairing, params_of, program_counter, RunEnding}
use Rattle.image_reports.specs.Below.{RunFault, Same, same, Seen, Shifts, ShiftsBy, Stop}
use Rattle.image_reports.proofs.certificates_lemmas.Below.{entries_in_common, one_end, every_run, itself, some_amounts, shifts_agree}
use Rattle.image_reports.proofs.certificates_lemmas.Below.{differ-apart, image_runs}
use Rattle.hepurita.specs.Paired as pairs
use Rattle.listing.specs.Listings.{listing}
use Rattle.rv_machine.specs.declared.pairing.Pairing.TheVariants as pairings
use Rattle.image_reports.specs.certificates.Certified.{Certified, refused, out_of_memory, certified}
use Rattle.image_reports.specs.certificates.Given.{Completes}
use Rattle.image_reports.specs.certificates.KnownImage.{known_at}
use Rattle.image_reports.specs.certificates.Promised.{AllShow, AllShiftBy, AllBegin}
use Rattle.image_reports.proofs.certificates_lemmas.Covered.{loaded_covered}

-- The certified run that a certificate is of.

abbrev RunOf : Fields → List (Option Arg) → Shifts → List Observation → RunEnding → Type 0
RunOf image given shifts seen ending =
    CertifiedRun (image_program (code_at code_base image)) image.max_steps
    (known_at code_base frame_base image given shifts) seen ending

abbrev IsOneList : Fields → List (Option Arg) → Shifts → Stop → ℕ → Type 0
IsOneList image given shifts stop entries = (seen : List Observation) × RunOf image given shifts seen (same stop)
    × (length (entries_of seen) ≡ entries)

abbrev IsCutAt : Fields → List (Option Arg) → Shifts → ℕ → ℕ → Type 0
IsCutAt image given shifts entry pc = (seen : List Observation) × RunOf image given shifts seen (may_differ pc)
    × (length (entries_of seen) + 1 ≡ entry)

same_of : (image : Fields) (given : List (Option Arg)) (shifts : Shifts) (answer : Result CertifiedEnd RunFault)
    (stop : Stop) (entries : ℕ) → Certified image given shifts answer → answer ≡ Ok (Same stop entries)
    → IsOneList image given shifts stop entries
same_of image given shifts answer stop entries (refused first) is = cc
same_of image given shifts answer stop entries (out_of_memory none) is = cc
same_of image given shifts answer stop entries (certified {seen = seen} {ending = same how} none run) is =
    let stops : how ≡ stop = cc in
    (seen, subst (λ x. RunOf image given shifts seen (same x)) stops run, cc)
same_of image given shifts answer stop entries (certified {seen = seen} {ending = may_differ pc} none run) is = cc

cut_of : (image : Fields) (given : List (Option Arg)) (shifts : Shifts) (answer : Result CertifiedEnd RunFault)
    (entry pc : ℕ) → Certified image given shifts answer → answer ≡ Ok (MayDiffer entry pc)
    → IsCutAt image given shifts entry pc
cut_of image given shifts answer entry pc (refused first) is = cc
cut_of image given shifts answer entry pc (out_of_memory none) is = cc
cut_of image given shifts answer entry pc (certified {seen = seen} {ending = same stop} none run) is = cc
cut_of image given shifts answer entry pc (certified {seen = seen} {ending = may_differ at} none run) is =
    let place : at ≡ pc = cc in
    (seen, subst (λ x. RunOf image given shifts seen (may_differ x)) place run, cc)

covered : (image : Fields) (given : List (Option Arg)) (shifts : Shifts) (args : List Arg) → IsImage image
    → Completes (params_of image) given args
    → Covers (known_at code_base frame_base image given shifts) (loaded_at code_base frame_base image args)
covered image given shifts args allowed agree =
    loaded_covered code_base frame_base image given shifts args allowed (omega (arith, allowed.frame_size)) agree

-- Runs.

pub all_show : (image : Fields) (given : List (Option Arg)) (shifts : Shifts) (stop : Stop) (entries : ℕ)
    → IsImage image → Certified image given shifts (Ok (Same stop entries))
    → (seen : List Observation) × (length (entries_of seen) ≡ entries) × AllShow image given seen stop
all_show image given shifts stop entries allowed is =
    let run = same_of image given shifts (Ok (Same stop entries)) stop entries is refl in (
      run.0,
      run.2,
      λ args shown other agree ends.
          every_run run.1 (covered image given shifts args allowed agree) (image_runs ends.1.0) ends.1.1,
    )

-- where shifts are seen, by the amounts of one list
pub all_shift : (image : Fields) (given : List (Option Arg)) (stop : Stop) (entries : ℕ) → IsImage image
    → Certified image given Seen (Ok (Same stop entries)) → (amounts : List ℕ) × AllShiftBy image given amounts
all_shift image given stop entries allowed is =
    let program = image_program (code_at code_base image) in
    let k = known_at code_base frame_base image given Seen in
    let run = same_of image given Seen (Ok (Same stop entries)) stop entries is refl in
    let list = some_amounts program image.max_steps k.state in (
      list.0,
      λ args agree.
          let begun = loaded_at code_base frame_base image args in
          let own = some_amounts program image.max_steps begun in
          let one = shifts_agree run.1 refl (covered image given Seen args allowed agree) (itself k) own.1 list.1 in
          subst (λ amounts. ShiftsBy program image.max_steps begun amounts) one own.1,
    )

-- what begins with some entries, and then one
first_with : (all before rest : List Entry) (one : Entry) → all ≡ before ++ one ∷ rest
    → take (length (before ++ one ∷ [])) all ≡ before ++ one ∷ []
first_with all before rest one is =
    ap (λ n. take n all) (length-append before (one ∷ []))
    ∙ ap (take (length before + 1)) is
    ∙ take-append-add before (one ∷ rest) 1

pub all_begin : (image : Fields) (given : List (Option Arg)) (shifts : Shifts) (entry pc : ℕ) → IsImage image
    → Certified image given shifts (Ok (MayDiffer entry pc))
    → (before : List Entry) × (length before + 1 ≡ entry) × AllBegin image given (before ++ program_counter pc ∷ [])
all_begin image given shifts entry pc allowed is =
    let run = cut_of image given shifts (Ok (MayDiffer entry pc)) entry pc is refl in
    let before = entries_of run.0 in (
      before,
      run.2,
      λ args shown stop agree ends.
          let common = entries_in_common run.1 (covered image given shifts args allowed agree)
          (image_runs ends.1.0) ends.1.1 in
          first_with (entries_of shown) before common.0 (program_counter pc) common.1,
    )

-- Pairs.

-- what an answer of `pair` compares
comparison : (image : Fields) (one other : List Arg) (answer : Result Pairing RunFault) (pairing : Pairing)
    → Paired image one other answer → answer ≡ Ok pairing
    → (seen seen' : List Observation) × Observed image one seen × Observed image other seen'
    × Compares (entries_of seen) (entries_of seen') pairing
comparison image one other answer pairing (pairs.refused first) is = cc
comparison image one other answer pairing (pairs.out_of_memory none) is = cc
comparison image one other answer pairing (compared {seen} {seen'} {pairing = found} none shown shown' compares) is =
    let same : found ≡ pairing = cc in
    (seen, seen', shown, shown', subst (λ p. Compares (entries_of seen) (entries_of seen') p) same compares)

is_same : (one other : List Entry) (pairing : Pairing) → one ≡ other → Compares one other pairing
    → pairing ≡ pairings.Same
is_same one other pairings.Same equal compares = refl
is_same one other (pairings.Differ place) equal compares = absurd (differ-apart one other place compares equal)

pub pairs_same : (image : Fields) (given : List (Option Arg)) (shifts : Shifts) (stop : Stop) (entries : ℕ)
    (one other : List Arg) (pairing : Pairing) → IsImage image
    → Certified image given shifts (Ok (Same stop entries)) → Completes (params_of image) given one
    → Completes (params_of image) given other → Paired image one other (Ok pairing) → pairing ≡ pairings.Same
pairs_same image given shifts stop entries one other pairing allowed is agree agree' paired =
    let all = (all_show image given shifts stop entries allowed is).2 in
    let both = comparison image one other (Ok pairing) pairing paired refl in
    let first = both.2 in
    let second = both.3 in
    let seen = (all one both.0 first.0 agree first.1).0 in
    let seen' = (all other both.1 second.0 agree' second.1).0 in
    is_same (entries_of both.0) (entries_of both.1) pairing (ap entries_of (seen ∙ sym seen')) both.4

-- a place among as many as were taken is as before
slice_get-take : (xs : List Entry) (n i : ℕ) → i < n → slice_get (take n xs) i ≡ slice_get xs i
slice_get-take xs zero i below = absurd (omega arith)
slice_get-take [] (suc n) i below = refl
slice_get-take (x ∷ xs) (suc n) zero below = refl
slice_get-take (x ∷ xs) (suc n) (suc i) below = slice_get-take xs n i (omega arith)

-- lists that agree on so many entries differ first at none of them
differ_late : (one other : List Entry) (n place : ℕ) → take n one ≡ take n other → IsFirstDifference one other place
    → n ≤ place
differ_late one other n place agree first =
    ⊎_elim
    (λ (early : place < n).
    absurd (first.there (sym (slice_get-take one n place early) ∙ ap (λ xs. slice_get xs place) agree
    ∙ slice_get-take other n place early)))
    (λ (late : n ≤ place). late)
    (cases_lt place n)

pub pairs_differ_late : (image : Fields) (given : List (Option Arg)) (shifts : Shifts) (entry pc : ℕ)
    (one other : List Arg) (place : ℕ) → IsImage image → Certified image given shifts (Ok (MayDiffer entry pc))
    → Completes (params_of image) given one → Completes (params_of image) given other
    → Paired image one other (Ok (pairings.Differ place)) → entry ≤ place
pairs_differ_late image given shifts entry pc one other place allowed is agree agree' paired =
    let begin = all_begin image given shifts entry pc allowed is in
    let both = comparison image one other (Ok (pairings.Differ place)) (pairings.Differ place) paired refl in
    let first = both.2 in
    let second = both.3 in
    let seen = begin.2 one both.0 first.0 agree first.1 in
    let seen' = begin.2 other both.1 second.0 agree' second.1 in
    let late = differ_late (entries_of both.0) (entries_of both.1) (length (begin.0 ++ program_counter pc ∷ [])) place
    (seen ∙ sym seen') both.4 in
    omega (arith, late, length-append begin.0 (program_counter pc ∷ []), begin.1)

-- Listings.

pub listings_same : (image : Fields) (given : List (Option Arg)) (shifts : Shifts) (stop : Stop) (entries : ℕ)
    (one other : List Arg) (stop' stop'' : Stop) (bytes bytes' : List ℕ) → IsImage image
    → Certified image given shifts (Ok (Same stop entries)) → Completes (params_of image) given one
    → Completes (params_of image) given other → IsLeak image one stop' bytes → IsLeak image other stop'' bytes'
    → (bytes ≡ bytes') × (stop' ≡ stop) × (stop'' ≡ stop)
listings_same image given shifts stop entries one other stop' stop'' bytes bytes' allowed is agree agree'
    (seen, ends, listed) (seen', ends', listed') =
    let all = (all_show image given shifts stop entries allowed is).2 in
    let first = all one seen stop' agree ends in
    let second = all other seen' stop'' agree' ends' in
    (listed ∙ ap₂ listing (first.0 ∙ sym second.0) (first.1 ∙ sym second.1) ∙ sym listed', first.1, second.1)

-- Answers.

pub one_certification : (image : Fields) (given : List (Option Arg)) (shifts : Shifts)
    (a b : Result CertifiedEnd RunFault) → Certified image given shifts a → Certified image given shifts b
    → a ≢ Err Memory → b ≢ Err Memory → a ≡ b
one_certification image given shifts a b (refused {fault} first) (refused {fault = fault'} other) m m' =
    let one : fault ≡ fault' = same_Some fault fault' (sym first ∙ other) in
    ap (λ (f : ArgumentFault). Err (Argument f.rule f.index)) one
one_certification image given shifts a b (refused first) (out_of_memory none) m m' = absurd (m' refl)
one_certification image given shifts a b (refused first) (certified none run) m m' =
    absurd (none-some _ (sym none ∙ first))
one_certification image given shifts a b (out_of_memory none) then m m' = absurd (m refl)
one_certification image given shifts a b (certified none run) (refused first) m m' =
    absurd (none-some _ (sym none ∙ first))
one_certification image given shifts a b (certified none run) (out_of_memory none') m m' = absurd (m' refl)
one_certification image given shifts a b (certified none run) (certified none' run') m m' =
    let both = one_end run run' in
    ap₂ (λ (seen : List Observation) ending. Ok (end_of seen ending)) both.0 both.1
