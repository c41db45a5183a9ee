-- What is generated for an accepted source is its compilation, and that has bytes.
use Rattle.std.proofs.Common.{◌≡◌, ℕ, List, ◌∙◌}
use Rattle.hepurita.specs.Below.{Fields, flattened, IsGenerated, IsImage, IsRemoved, ProcedureTree, Profile}
use Rattle.hepurita.specs.Below.{ProgramTree, ranged, StraightProgram}
use Rattle.image.proofs.Spellings.{allowed_by_bytes}
use Rattle.hepurita.specs.Answers.{Builds}
use Rattle.hepurita.specs.Built.{IsCompilation, Judges, accepts, fine, readable}
use Rattle.compilation.specs.Exact.{image_for}
use Rattle.compilation.specs.declared.optimised.Optimisation.{Optimisation}
use Rattle.hepurita.proofs.BaseLemmas.{bases_of}
use Rattle.compilation.specs.Begun.{FollowsAnywhere}
use Rattle.compilation.specs.Needs.{Needs}
use Rattle.hepurita.specs.Linked.{StartsAnywhere}
use Rattle.hepurita.proofs.TheoremLemmas.{sources_compiled, sources_started}

module _ (optimisation : Optimisation) (profile : Profile) (source : List ℕ) (program : ProgramTree)
    (before : List ProcedureTree) (export : ProcedureTree) (image : Fields) where
  pub compilation : (straight : StraightProgram) → Judges profile source (accepts program before export)
      → IsRemoved (ranged (flattened profile before export)) straight → IsGenerated straight image → IsImage image
      → image ≡ image_for optimisation profile before export
      → IsCompilation optimisation profile source program before export image
  compilation straight (readable reads (fine small in_range in_time)) removed generated allowed exact =
      let judges = fine small in_range in_time in
      let is = sources_compiled profile source program before export straight image reads judges removed generated in
      record {
        judged = readable reads judges;
        observed = generated.profile ∙ removed.profile;
        exact = exact;
        allowed = allowed;
        compiled = is;
        bases = bases_of profile program before export image judges is;
      }

  pub begun : (straight : StraightProgram) (needs : Needs) → Judges profile source (accepts program before export)
      → IsRemoved (ranged (flattened profile before export)) straight → IsGenerated straight image
      → FollowsAnywhere straight image needs → StartsAnywhere program export image needs
  begun straight needs (readable reads (fine small in_range in_time)) removed generated follows =
      sources_started profile source program before export straight image needs reads (fine small in_range in_time)
      removed generated follows

  pub spelled : IsCompilation optimisation profile source program before export image
      → (bytes : List ℕ) × Builds optimisation profile source bytes program before export image
  spelled is =
      let found = (allowed_by_bytes image).0 is.allowed in (
        found.0,
        record {
          built = record {
            program = program;
            before = before;
            export = export;
            image = image;
            compilation = is;
            are_bytes = found.1;
            spelled = found.2;
          };
          judged = is.judged;
          allowed = is.allowed;
          spelled = found.2;
        },
      )
