-- Try after try.
use Rattle.std.proofs.Common.{◌≡◌, ◌<◌, ◌+◌, ◌-◌, ◌∙◌, ℕ, suc, List, [], ◌∷◌, map, true, false, Option, None}
use Rattle.std.proofs.Common.{Some, ap, arith, refl, sym}
use Rattle.std.proofs.lemmas.Bool.{false≢true, true≢false}
use Rattle.std.specs.Prelude.{IfSome, is_some}
use Rattle.rand_core.specs.Stream.{Stream}
use Rattle.elf_memory.specs.declared.asked.Asked.{Asked}
use Rattle.elf_witnesses.specs.Below.{Executable, Observation}
use Rattle.elf_memory.specs.declared.asked.Setting.{Setting}
use Rattle.elf_witnesses.specs.Compared.{Compares}
use Rattle.elf_witnesses.specs.Drawn.{first_secrets, other_secrets, tries_from, Try}
use Rattle.elf_witnesses.specs.Witnessed.{Finds, FindsNothing, IsWitness, set_bytes, SetsBesides, ShowsSame}
use Rattle.elf_witnesses.specs.declared.comparing.Comparison.{Comparison}
use Rattle.elf_witnesses.specs.declared.comparing.Comparison.TheVariants.{Differ, Same}
use Rattle.elf_witnesses.specs.declared.comparing.Reached.{Reached}
use Rattle.elf_runs.specs.declared.options.RunOptions.{RunOptions}
use Rattle.elf_witnesses.specs.declared.witnessing.Witness.{Witness}
use Rattle.elf_witnesses.proofs.Found.{runs_same, witness_same}

-- the bytes of two settings of secrets
abbrev try_of : List Setting → List Setting → Try
try_of one other = record { one = map set_bytes one; other = map set_bytes other }

-- the first of the tries that are left
pub next_try : (tries attempt : ℕ) (sizes : List ℕ) (one other : List Setting) (numbers : Stream)
    {between next : Stream} → attempt < tries → (map set_bytes one, between) ≡ first_secrets attempt sizes numbers
    → (map set_bytes other, next) ≡ other_secrets attempt (map set_bytes one) between
    → tries_from attempt (tries - attempt) sizes numbers
    ≡ try_of one other ∷ tries_from (attempt + 1) (tries - (attempt + 1)) sizes next
next_try tries attempt sizes one other numbers within drawn drawn' =
    let left : tries - attempt ≡ suc (tries - (attempt + 1)) = omega (arith, within) in
    ap (λ count. tries_from attempt count sizes numbers) left
    ∙ ap (λ (first : List (List ℕ) × Stream).
    let second = other_secrets attempt first.0 first.1 in
    record { one = first.0; other = second.0 }
    ∷ tries_from (attempt + 1) (tries - (attempt + 1)) sizes second.1) (sym drawn)
    ∙ ap (λ (second : List (List ℕ) × Stream).
    record { one = map set_bytes one; other = second.0 }
    ∷ tries_from (attempt + 1) (tries - (attempt + 1)) sizes second.1) (sym drawn')

module _ {program : Executable} {asked same : Asked} {options : RunOptions} (sets : SetsBesides asked [] same)
    (one other : List Setting) where
  -- it finds a witness
  pub finds : (found : Option Witness) → is_some found ≡ true
      → IfSome found (IsWitness program same options)
      → IfSome found (λ witness. (witness.one.items ≡ one) × (witness.other.items ≡ other))
      → Finds program asked options (try_of one other) found
  finds None some is given = absurd (false≢true some)
  finds (Some witness) some is given = (
    witness,
    refl,
    record { one = ap (map set_bytes) given.0; other = ap (map set_bytes) given.1 },
    witness_same sets witness is,
  )

  -- it finds nothing
  pub finds_nothing : ShowsSame program same options one other → FindsNothing program asked options (try_of one other)
  finds_nothing shows = (
    one,
    other,
    record { one = refl; other = refl },
    record {
      one = shows.one;
      other = shows.other;
      seen = shows.seen;
      seen' = shows.seen';
      runs = runs_same sets shows.runs;
      runs' = runs_same sets shows.runs';
      same = shows.same;
    },
  )

-- runs that do not differ show the same
pub same_shown : (seen seen' : List Observation) (compared : Comparison) → Compares seen seen' compared
    → ((entry : ℕ) (step : Reached) → compared ≡ Differ entry step → ⊥) → Compares seen seen' Same
same_shown seen seen' Same compares other = compares
same_shown seen seen' (Differ entry step) compares other = absurd (other entry step refl)

pub none_found : (found : Option Witness) → is_some found ≡ false → found ≡ None
none_found None none = refl
none_found (Some witness) none = absurd (true≢false none)
