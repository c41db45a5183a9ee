use Rattle.std.proofs.Common.{◌≡◌, ℕ, zero, suc, ◌<◌, ◌≤◌, List, [], ◌∷◌, length, get_or, ap, refl, arith}
use Rattle.codegen.proofs.Language.{FlatVariable, Uint32}
use Rattle.expression_code.specs.TermCode.{kind_at}
use Rattle.codegen.proofs.mirror_uses.kind_at.Goals as goal

kind_listed : (ds : List FlatVariable) (x : ℕ) (d : FlatVariable) → x < length ds → d ≡ get_or ds x d
    → d.word.kind ≡ kind_at ds x
kind_listed [] x d below is = absurd (omega (arith, below))
kind_listed (one ∷ ds) zero d below is = ap (λ (v : FlatVariable). v.word.kind) is
kind_listed (one ∷ ds) (suc x) d below is = kind_listed ds x d (omega (arith, below)) is

-- what is not declared is taken to be a word
kind_past : (ds : List FlatVariable) (x : ℕ) → length ds ≤ x → Uint32 ≡ kind_at ds x
kind_past [] x past = refl
kind_past (d ∷ ds) zero past = absurd (omega (arith, past))
kind_past (d ∷ ds) (suc x) past = kind_past ds x (omega (arith, past))

pub returns-in-Some : goal.returns-in-Some
returns-in-Some c =
    let found = c.in-Some.ensures.lookup in
    kind_listed c.args.declared.now c.args.array c.in-Some.variable.now found.3.0 found.1

pub returns-in-None : goal.returns-in-None
returns-in-None c = kind_past c.args.declared.now c.args.array c.in-None.ensures.lookup.3
