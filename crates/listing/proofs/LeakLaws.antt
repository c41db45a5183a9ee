-- Two calls of `leak` on the same values agree.
use Rattle.std.proofs.Common.{◌≡◌, ◌≢◌, ℕ, List, ◌++◌, take, drop, Result, Ok, Err, refl, sym, ap, ap₂, ◌∙◌}
use Rattle.std.proofs.Common.{append_assoc}
use Rattle.std.proofs.lemmas.List.{take-append-drop}
use Rattle.std.proofs.lemmas.Option.{none-some, same_Some}
use Rattle.listing.specs.Below.{Arg, ArgumentFault, Fields, ImageEnds, Observation, Stop, Writes, WritesPart}
use Rattle.listing.proofs.Below.{Runs-determined}
use Rattle.listing.specs.declared.fault.LeakFault.{LeakFault}
use Rattle.listing.specs.declared.fault.LeakFault.TheVariants.{Argument, Memory, Write}
use Rattle.listing.specs.Leaked.{Leaks, refused, out_of_memory, cut_off, ran, IsLeak}
use Rattle.listing.specs.Listings.{listing}

-- the run of an image shows one list and has one stop
one_end : (image : Fields) (args : List Arg) (seen more : List Observation) (stop other : Stop)
    → ImageEnds image args seen stop → ImageEnds image args more other → (seen ≡ more) × (stop ≡ other)
one_end image args seen more stop other (end, (run, calm)) (end', (run', calm')) =
    let same = Runs-determined run run' calm calm' in
    (same.0, same.1)

pub one_answer : (image : Fields) (args : List Arg) (a b : Result Stop LeakFault) → Leaks image args a
    → Leaks image args b → a ≢ Err Memory → a ≢ Err Write → b ≢ Err Memory → b ≢ Err Write → a ≡ b
one_answer image args a b (refused {fault} is) (refused {fault = fault'} also) m w m' w' =
    let same : fault ≡ fault' = same_Some fault fault' (sym is ∙ also) in
    ap (λ (f : ArgumentFault). Err (Argument f.rule f.index)) same
one_answer image args a b (refused is) (out_of_memory none) m w m' w' = absurd (m' refl)
one_answer image args a b (refused is) (cut_off none) m w m' w' = absurd (w' refl)
one_answer image args a b (refused is) (ran none ends) m w m' w' = absurd (none-some _ (sym none ∙ is))
one_answer image args a b (out_of_memory none) then m w m' w' = absurd (m refl)
one_answer image args a b (cut_off none) then m w m' w' = absurd (w refl)
one_answer image args a b (ran none ends) (refused is) m w m' w' = absurd (none-some _ (sym none ∙ is))
one_answer image args a b (ran none ends) (out_of_memory none') m w m' w' = absurd (m' refl)
one_answer image args a b (ran none ends) (cut_off none') m w m' w' = absurd (w' refl)
one_answer image args a b (ran {seen} {stop} none ends) (ran {seen = more} {stop = other} none' ends') m w m' w' =
    ap Ok (one_end image args seen more stop other ends ends').1

pub one_listing : (image : Fields) (args : List Arg) (stop other : Stop) (bytes more : List ℕ)
    → IsLeak image args stop bytes → IsLeak image args other more → (stop ≡ other) × (bytes ≡ more)
one_listing image args stop other bytes more (seen, ends, is) (seen', ends', is') =
    let same = one_end image args seen seen' stop other ends ends' in
    (same.1, is ∙ ap₂ listing same.0 same.1 ∙ sym is')

-- some of one listing, and then the rest of it
pub one_beginning : (image : Fields) (args : List Arg) (stop : Stop) (before whole part : List ℕ)
    → Writes (IsLeak image args stop) before whole
    → WritesPart (λ bytes. (stop : Stop) × IsLeak image args stop bytes) before part
    → (rest : List ℕ) × (whole ≡ part ++ rest)
one_beginning image args stop before whole part all some =
    let count = some.part.count in
    let same : all.bytes ≡ some.bytes =
    (one_listing image args stop some.such.0 all.bytes some.bytes all.such some.such.1).1 in
    let split : some.bytes ≡ take count some.bytes ++ drop count some.bytes =
    sym (take-append-drop count some.bytes) in (
      drop count some.bytes,
      all.added ∙ ap (λ (l : List ℕ). before ++ l) (same ∙ split)
          ∙ sym (append_assoc before (take count some.bytes) (drop count some.bytes))
          ∙ ap (λ (l : List ℕ). l ++ drop count some.bytes) (sym some.part.added),
    )
