-- Try after try.
use Rattle.std.proofs.Common.{◌≡◌, ◌-◌, ◌∙◌, arith, inl, inr, map, None, refl, sym}
use Rattle.std.proofs.lemmas.Option.{IfSome_then}
use Rattle.elf_witnesses.proofs.Found.{witness_same}
use Rattle.elf_witnesses.proofs.MoreSet.{met_same, sets_after, sets_nothing}
use Rattle.elf_witnesses.proofs.Tries.{finds, finds_nothing, next_try, none_found}
use Rattle.elf_witnesses.specs.Drawn.{numbers_of, size_in}
use Rattle.elf_witnesses.proofs.witnessing.find_witness.Goals as goal

pub witness_of_try-requires-clause-met : goal.witness_of_try-requires-clause-met
witness_of_try-requires-clause-met c =
    met_same c.args.program.now c.args.asked c.tries.asked c.tries.invariant.same c.in_ok-load_function.ensures.met

pub returns-then-is_some-clause-witness : goal.returns-then-is_some-clause-witness
returns-then-is_some-clause-witness c =
    IfSome_then c.in_ok-found.found c.in_ok-found.ensures.tried.witness (witness_same c.tries.invariant.same)

pub tries-init : goal.tries-init
tries-init c =
    let all : c.args.tries - 0 ≡ c.args.tries = omega arith in
    record {
      same = sets_nothing c.args.asked;
      first = λ found is. rw (all, c.new-random.ensures) at is;
    }

pub tries-preserved : goal.tries-preserved
tries-preserved c =
    let program = c.args.program.now in
    let asked = c.args.asked in
    let before = c.tries.invariant in
    let tried = c.in_ok-found.ensures.tried in
    let drawn = rw before.same.secrets at tried.drawn in
    let next = next_try c.args.tries c.tries.attempt (map (size_in program) asked.secrets.items) tried.one tried.other
    (numbers_of c.tries.random) (omega arith) drawn tried.drawn' in
    let none = none_found c.in_ok-found.found (sym c.is_some.ensures ∙ c.if-is_some.false) in
    let nothing = finds_nothing before.same tried.one tried.other (tried.same none) in
    record {
      same = sets_after before.same c.in_ok-found.ensures.asked;
      first = λ found rest. before.first found (rw next (inr (nothing, rest)));
    }

pub returns-then-is_some-clause-first : goal.returns-then-is_some-clause-first
returns-then-is_some-clause-first c =
    let program = c.args.program.now in
    let asked = c.args.asked in
    let before = c.tries.invariant in
    let tried = c.in_ok-found.ensures.tried in
    let drawn = rw before.same.secrets at tried.drawn in
    let next = next_try c.args.tries c.tries.attempt (map (size_in program) asked.secrets.items) tried.one tried.other
    (numbers_of c.tries.random) (omega arith) drawn tried.drawn' in
    let found = finds before.same tried.one tried.other c.in_ok-found.found (sym c.is_some.ensures ∙ c.if-is_some.true)
    tried.witness tried.given in
    before.first c.in_ok-found.found (rw next (inl found))

pub returns-clause-first : goal.returns-clause-first
returns-clause-first c =
    let left : c.args.tries - c.tries.attempt ≡ 0 = omega arith in
    c.tries.invariant.first None (rw left refl)
