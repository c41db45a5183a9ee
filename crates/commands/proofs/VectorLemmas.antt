-- Vectors of a file, tried on the source of libraries and another.
use Rattle.std.proofs.Common.{◌≡◌, ◌<◌, ◌≤◌, ℕ, false, List, Ok, Err, length, refl, subst}
use Rattle.commands.specs.Contents.{Contents}
use Rattle.commands.specs.Judged.{IsRefusedText}
use Rattle.commands.specs.Sources.{IsReadFrom}
use Rattle.commands.specs.Vectors.{HoldVectors, long_vectors, no_lines, no_memory, no_vectors, not_accepted}
use Rattle.commands.specs.Vectors.{RefusesVectors}
use Rattle.commands.specs.declared.fault.Fault.{Fault}
use Rattle.commands.specs.declared.fault.Fault.TheVariants.{Vectors}
use Rattle.std.specs.Prelude.{Some}
use Rattle.std.specs.Str.{IsUtf8}
use Rattle.commands.specs.Below.{Line, longest_vectors, NamedVector, Profile, TooLong, vectors_in, VectorsFault}
use Rattle.commands.proofs.SourceLemmas.{refused_of_sources}
use Rattle.image_reports.specs.declared.vectors.fault.VectorsFault.TheVariants.{Memory}

-- why a text says no vectors
pub unsaid : {profile : Profile} {files : Contents} {paths : List (List ℕ)} {path list text lines : List ℕ}
    {by_lines : List (List ℕ × ℕ)} (fault : VectorsFault) → IsReadFrom files paths path text by_lines
    → files list ≡ Some lines → length lines ≤ longest_vectors
    → ((line : ℕ) → fault ≡ Line line → (length lines ≤ longest_vectors) × (vectors_in lines ≡ Err line))
    → (fault ≡ TooLong → longest_vectors < length lines)
    → RefusesVectors profile files paths path list (Vectors fault)
unsaid (Line line) read lines_held short why long = no_vectors read.holds lines_held short (why line refl).1
unsaid TooLong read lines_held short why long = no_lines read.holds (long_vectors lines_held (long refl))
unsaid Memory read lines_held short why long = no_memory refl

-- what libraries and two files hold
pub both_held : {files : Contents} {paths : List (List ℕ)} {path list text lines lent : List ℕ}
    {by_lines : List (List ℕ × ℕ)} {vectors : List NamedVector} (read : IsReadFrom files paths path text by_lines)
    → files list ≡ Some lines → length lines ≤ longest_vectors → IsUtf8 lines → lent ≡ lines
    → vectors_in lent ≡ Ok vectors → HoldVectors files paths path list read.libraries read.last vectors
both_held {lines = lines} {vectors = vectors} read lines_held short is_text same said =
    record {
      lines = lines;
      held = read.holds;
      lines_held = lines_held;
      short = short;
      is_text = is_text;
      said = subst (λ (t : List ℕ). vectors_in t ≡ Ok vectors) same said;
    }

-- the source is not accepted
pub untried : {profile : Profile} {files : Contents} {paths : List (List ℕ)} {path list text : List ℕ}
    {by_lines : List (List ℕ × ℕ)} {vectors : List NamedVector} {fault : Fault}
    (read : IsReadFrom files paths path text by_lines)
    → HoldVectors files paths path list read.libraries read.last vectors
    → IsRefusedText false profile text by_lines fault → RefusesVectors profile files paths path list fault
untried {profile} {fault = fault} read held why =
    not_accepted held (refused_of_sources {explain = false} {profile = profile} {fault = fault} read why)
