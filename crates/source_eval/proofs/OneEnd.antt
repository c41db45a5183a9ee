-- A program that violates no rule comes to exactly one end.
use Rattle.std.proofs.Common.{◌≡◌, List, length, sym}
use Rattle.std.proofs.lemmas.List.{nil_from_length}
use Rattle.source_eval.specs.Below.{Arg, Ending, Gives, Profile, program_run, ProgramTree, Results, violations}
use Rattle.source_eval.proofs.EndsHad.{program-had}
use Rattle.source_eval.proofs.NamedCalls.{one-exported, all-call-earlier}
use Rattle.source_eval.proofs.WorkedOut.{worked-out}
use Rattle.language.proofs.typing_laws_lemmas.Programs.{programs}

pub end-had : (profile : Profile) (program : ProgramTree) (args : List Arg) → length (violations profile program) ≡ 0
    → Gives program args (program_run program args).ends
end-had profile program args none =
    let typed = (programs profile program).0 (nil_from_length (violations profile program) none) in
    let export = one-exported program typed in
    program-had program args export.0 export.1 (all-call-earlier program typed)

pub exactly-one : (profile : Profile) (program : ProgramTree) (args : List Arg)
    → length (violations profile program) ≡ 0 → (ending : Ending Results) × Gives program args ending
    × ((other : Ending Results) → Gives program args other → other ≡ ending)
exactly-one profile program args none = (
  (program_run program args).ends,
  end-had profile program args none,
  λ other d. sym (worked-out program args other d),
)
