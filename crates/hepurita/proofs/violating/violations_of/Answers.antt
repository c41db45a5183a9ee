use Rattle.std.proofs.Common.{ap, rules, subst}
use Rattle.std.proofs.lemmas.Result.{err_from_is_err_and}
use Rattle.hepurita.proofs.BuiltLemmas.{IsAllowedFlat, IsLargeFor}
use Rattle.hepurita.proofs.GrammaticalExports.{grammatical_export}
use Rattle.hepurita.proofs.ListedLemmas.{AreSizes, memory_of_sizes, memory_of_types, none_listed, ranges_listed}
use Rattle.hepurita.proofs.ListedLemmas.{sizes_listed, types_listed}
use Rattle.hepurita.specs.Below.{Profile, program_tree, ProgramTree, violations}
use Rattle.hepurita.proofs.violating.violations_of.Goals as goal

pub returns-then-not-is_empty-clause-found : goal.returns-then-not-is_empty-clause-found
returns-then-not-is_empty-clause-found c source reads =
    types_listed c.args.profile (program_tree c.args.program.now) c.in_ok-found.found.items c.in_ok-found.ensures
    (search rules)

pub returns-in_err-checked-clause-memory : goal.returns-in_err-checked-clause-memory
returns-in_err-checked-clause-memory c =
    let tree = program_tree c.args.program.now in
    let p = err_from_is_err_and c.from_residual-in_err-checked.result c.from_residual-in_err-checked.ensures.1 in
    let typed = none_listed (violations c.args.profile tree) c.in_ok-found.found.items c.in_ok-found.ensures
    (search rules) in
    rw (p.1, p.2) (memory_of_types c.args.profile tree c.in_err-checked.field-0.0 typed c.in_err-checked.ensures.refused)

pub returns-then-not-is_empty-2-clause-found : goal.returns-then-not-is_empty-2-clause-found
returns-then-not-is_empty-2-clause-found c source reads =
    let tree = program_tree c.args.program.now in
    let typed = none_listed (violations c.args.profile tree) c.in_ok-found.found.items c.in_ok-found.ensures
    (search rules) in
    let sizes = subst (λ (q : ProgramTree). AreSizes c.args.profile q c.in_ok-found-2.found.items)
    (ap program_tree c.in_ok-checked.ensures.program) c.in_ok-found-2.ensures in
    sizes_listed c.args.profile tree c.in_ok-found-2.found.items typed sizes (search rules)

pub returns-in_err-flat-clause-memory : goal.returns-in_err-flat-clause-memory
returns-in_err-flat-clause-memory c =
    let tree = program_tree c.args.program.now in
    let same = ap program_tree c.in_ok-checked.ensures.program in
    let p = err_from_is_err_and c.from_residual-in_err-flat.result c.from_residual-in_err-flat.ensures.1 in
    let sizes = subst (λ (q : ProgramTree). AreSizes c.args.profile q c.in_ok-found-2.found.items) same
    c.in_ok-found-2.ensures in
    let large = subst (λ (q : ProgramTree). IsLargeFor c.args.profile q c.in_err-flat.field-0.0) same
    c.in_err-flat.ensures.refused in
    rw (p.1, p.2)
    (memory_of_sizes c.args.profile tree c.in_ok-found-2.found.items c.in_err-flat.field-0.0 sizes (search rules) large)

pub returns-clause-found : goal.returns-clause-found
returns-clause-found c source reads =
    let tree = program_tree c.args.program.now in
    let same = ap program_tree c.in_ok-checked.ensures.program in
    let typed = none_listed (violations c.args.profile tree) c.in_ok-found.found.items c.in_ok-found.ensures
    (search rules) in
    let allowed = subst (λ (o : Profile). IsAllowedFlat o tree c.in_ok-flat.flat) c.in_ok-checked.ensures.profile
    (subst (λ (q : ProgramTree). IsAllowedFlat c.in_ok-checked.checked.profile q c.in_ok-flat.flat) same
    c.in_ok-flat.ensures.accepted) in
    ranges_listed c.args.profile tree c.in_ok-flat.flat c.in_ok-violations.field-0.items
    (grammatical_export source tree reads) typed allowed c.in_ok-violations.ensures
