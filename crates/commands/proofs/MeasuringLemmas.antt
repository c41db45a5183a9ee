-- What the first bytes of a file say of all of it, where its costs are asked for, and what a source that was read says.
use Rattle.std.proofs.Common.{◌≡◌, ◌+◌, ℕ, List, [], ◌∷◌, length, false, map, Bor, Result, Ok, Err, IfOk, IfErr, take, refl, sym, ap}
use Rattle.std.proofs.Common.{◌∙◌, subst, arith}
use Rattle.std.proofs.lemmas.List.{take-take}
use Rattle.std.proofs.lemmas.List.Elements.{All-nil}
use Rattle.commands.specs.Answered.{answered, Finds, not_answered}
use Rattle.commands.specs.Contents.{Contents, BeginsFile}
use Rattle.commands.specs.Costs.{HoldsOther, IsSource, no_source, not_read, not_spelled, of_image, of_source}
use Rattle.commands.specs.Costs.{RefusesCosts, SaysFileCosts}
use Rattle.commands.specs.FileTexts.{HoldsText, NoText, not_utf8, too_long}
use Rattle.commands.specs.FileTexts as FileTexts
use Rattle.commands.specs.Judged.{IsRefusedText}
use Rattle.commands.specs.Sources.{by_file, IsReadFrom, joined, NoSources, not_utf8_below, too_long_below, unread_below}
use Rattle.commands.specs.Unread.{out_of_memory}
use Rattle.commands.specs.declared.answer.Answer.{Answer}
use Rattle.command_line.specs.declared.words.Request.TheVariants as Request
use Rattle.commands.specs.declared.fault.Fault.{Fault}
use Rattle.commands.specs.declared.fault.Fault.TheVariants.{Image}
use Rattle.commands.proofs.ImageLemmas.{all_read, image_held}
use Rattle.commands.proofs.SourceLemmas.{refused_in_sources}
use Rattle.commands.specs.Below.{BeginsOtherwise, Field, ImageFault, IsFaultOf, longest_image, numbered_of, Optimisation}
use Rattle.commands.specs.Below.{Profile, SaysCosts, SaysFields, source_limit}
use Rattle.image.specs.declared.fault.ImageFault.TheVariants.{Memory}
use Rattle.image_reports.specs.declared.source_places.Library.{Library}

-- the first bytes of a file, cut to what a text may have and one more, are the first so many of the file
pub cut_shorter : (whole bytes fewer : List ℕ) → bytes ≡ take (longest_image + 1) whole
    → fewer ≡ take (source_limit + 1) bytes
    → fewer ≡ take (source_limit + 1) whole
cut_shorter whole bytes fewer begun cut =
    cut ∙ ap (λ (b : List ℕ). take (source_limit + 1) b) begun
    ∙ take-take (source_limit + 1) (longest_image + 1) whole (omega arith)

-- no libraries are named by no paths
pub no_paths : {paths : List (Bor (List ℕ))} → paths ≡ [] → map (λ (path : Bor (List ℕ)). path.now) paths ≡ []
no_paths none = ap (map (λ (path : Bor (List ℕ)). path.now)) none

pub image_costs : (optimisation : Optimisation) (profile : Profile) (files : Contents) {paths : List (List ℕ)}
    (path bytes text : List ℕ) → paths ≡ [] → BeginsFile files path (longest_image + 1) bytes
    → SaysFields bytes text → SaysFileCosts optimisation profile files paths path text
image_costs optimisation profile files path bytes text none begun said =
    of_image said.image none (image_held files path bytes said.image begun said.spelled said.allowed) said.printed

pub other_held : (files : Contents) (path bytes : List ℕ) → BeginsFile files path (longest_image + 1) bytes
    → BeginsOtherwise bytes
    → HoldsOther files path
other_held files path bytes begun other =
    (begun.whole, begun.held, (other.0, all_read files path bytes begun (Err (Field other.0 0)) other.1))

pub image_faulty : (profile : Profile) (files : Contents) {paths : List (List ℕ)} (path bytes : List ℕ)
    (fault : ImageFault) → paths ≡ [] → BeginsFile files path (longest_image + 1) bytes → IsFaultOf bytes fault
    → RefusesCosts profile files paths path (Image fault)
image_faulty profile files path bytes (Field rule offset) none begun why =
    not_spelled none begun.held (all_read files path bytes begun (Err (Field rule offset)) why.1) why.0
image_faulty profile files path bytes Memory none begun why = not_read none (out_of_memory refl)

pub some_paths : (paths : List (Bor (List ℕ))) {P : Type 0} → (length paths ≡ 0 → ⊥)
    → map (λ (path : Bor (List ℕ)). path.now) paths ≡ [] → P
some_paths [] some none = absurd (some refl)
some_paths (path ∷ more) some none = absurd cc

-- a file alone, of which a text was had, or none
pub alone_read : {files : Contents} {paths : List (List ℕ)} {path text : List ℕ} → paths ≡ []
    → HoldsText files path text → IsReadFrom files paths path text []
alone_read {text = text} none held =
    record {
      libraries = [];
      last = text;
      holds = record { named = sym none; held = All-nil _; last = held.held; is_text = held.is_text };
      is = refl;
      lines = refl;
    }

pub alone_unread : {files : Contents} {paths : List (List ℕ)} {path : List ℕ} {fault : Fault} → paths ≡ []
    → NoText files path fault → NoSources files paths path fault
alone_unread none (FileTexts.not_read why) = by_file [] (sym none) (All-nil _) (unread_below why)
alone_unread none (too_long {refusal = refusal} held long) =
    by_file [] (sym none) (All-nil _)
    (too_long_below refusal held (omega (arith, long.0)) (long.1, long.2, long.3) refl)
alone_unread none (not_utf8 held low other is) =
    by_file [] (sym none) (All-nil _) (not_utf8_below held (omega (arith, low)) other is)

-- a source that was read, by what it costs or why it is refused
pub source_measured : {optimisation : Optimisation} {profile : Profile} {files : Contents}
    {libraries : Bor (List (Bor (List ℕ)))} {file : Bor (List ℕ)} {text : List ℕ} (read : List Library)
    (given : Result Answer Fault)
    → IsSource files (map (λ (path : Bor (List ℕ)). path.now) libraries.now) file.now
    → IsReadFrom files (map (λ (path : Bor (List ℕ)). path.now) libraries.now) file.now text (numbered_of read)
    → IfOk given (λ answer.
    SaysCosts optimisation profile text (numbered_of read) answer.text.items × (answer.status ≡ 0))
    → IfErr given (IsRefusedText false profile text (numbered_of read))
    → Finds (Request.Stat libraries file profile optimisation) files given
source_measured {optimisation} {profile} {files} {libraries} {file} read (Ok answer) is from said refused =
    answered (
      of_source is (record {
        libraries = from.libraries;
        source = from.last;
        held = from.holds;
        said =
            subst (λ (ls : List (List ℕ × ℕ)). SaysCosts optimisation profile (joined from.libraries from.last) ls
            answer.text.items) from.lines
            (subst (λ (t : List ℕ). SaysCosts optimisation profile t (numbered_of read) answer.text.items)
            from.is said.0);
      }),
      said.1,
    ) refl
source_measured {profile = profile} read (Err fault) is from said refused =
    not_answered (no_source is (refused_in_sources {explain = false} {profile = profile} from refused), refl)
