-- An accepted source has one plain and one optimised image for an observer, each with one spelling.
use Rattle.std.proofs.Common.{◌≡◌, ℕ, List, Result, Ok, Err, ap₂, sym, subst, ◌∙◌}
use Rattle.std.specs.Result.{IfOk}
use Rattle.image.proofs.Spellings.{one_by_fields}
use Rattle.hepurita.specs.Below.{Fields, OneAnswer, ProcedureTree, Profile, ProgramTree, Spells}
use Rattle.hepurita.specs.Built.{IsBuilt, IsCompilation}
use Rattle.compilation.specs.Exact.{image_for}
use Rattle.compilation.specs.declared.optimised.Optimisation.{Optimisation}
use Rattle.hepurita.proofs.JudgementLemmas.{one_export}

-- both facts of what was answered
pub ok_both : {X Y : Type 0} (r : Result X Y) (P Q : X → Type 0) → IfOk r P → IfOk r Q → IfOk r (λ x. P x × Q x)
ok_both (Ok x) P Q p q = (p, q)
ok_both (Err y) P Q p q = tt

-- of a source there is one compilation
pub one_image : OneAnswer → (optimisation : Optimisation) (profile : Profile) (source : List ℕ)
    (program program' : ProgramTree) (before before' : List ProcedureTree) (export export' : ProcedureTree)
    (image image' : Fields) → IsCompilation optimisation profile source program before export image
    → IsCompilation optimisation profile source program' before' export' image' → image ≡ image'
one_image answer optimisation profile source program program' before before' export export' image image' a b =
    let same = one_export profile answer source program program' before before' export export' a.judged b.judged in
    a.exact ∙ (ap₂ (image_for optimisation profile) same.1 same.2 ∙ sym b.exact)

pub one_build : OneAnswer → (optimisation : Optimisation) (profile : Profile) (source one other : List ℕ)
    → IsBuilt optimisation profile source one → IsBuilt optimisation profile source other → one ≡ other
one_build answer optimisation profile source one other a b =
    let images = one_image answer optimisation profile source a.program b.program a.before b.before a.export b.export
    a.image b.image a.compilation b.compilation in
    one_by_fields one other b.image a.are_bytes b.are_bytes
    (subst (λ (f : Fields). Spells one f) images a.spelled) b.spelled
