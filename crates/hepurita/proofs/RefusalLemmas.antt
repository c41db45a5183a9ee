-- A source is refused for one rule at one place.
use Rattle.std.proofs.Common.{◌≡◌, inl, inr, ℕ, List, [], ◌∷◌, get_or, refl, ap, sym, subst, ◌∙◌, arith}
use Rattle.std.proofs.lemmas.List.Elements.{All-contains}
use Rattle.hepurita.specs.Below.{accepted, ArgumentCount, ArrayPassedTwice, ArrayShapeOrLabel, BadNumber}
use Rattle.hepurita.specs.Below.{CallAssignsPublicUnderSecretControl, DeclaredBytes, DivisorMayBeZero, IndexOutOfRange}
use Rattle.hepurita.specs.Below.{InitialiserCount, InlinedSize, IsFirst, IsNoLaterThan, LiteralOutOfRange}
use Rattle.hepurita.specs.Below.{NameDeclaredTwice, Nesting, NotExactlyOneExport, NotMutable, OneAnswer, OutOfMemory}
use Rattle.hepurita.specs.Below.{Place, ProcedureNotDeclaredEarlier, Profile, ProgramTree}
use Rattle.hepurita.specs.Below.{PublicAssignedUnderSecretControl, rank_of, refused, ReturnMismatch, Rule, SecretBound}
use Rattle.hepurita.specs.Below.{SecretDivisionOperand, SecretIndex, SecretMultiplicationOperand, SecretToPublic}
use Rattle.hepurita.specs.Below.{TextTooLong, TooMuchWork, UndeclaredName, UnexpectedToken, UnknownCharacter, Violation}
use Rattle.hepurita.specs.Below.{WidthsDiffer, WrongKind}
use Rattle.hepurita.specs.Built.{Judges, JudgesProgram, refuses, unreadable, readable}
use Rattle.hepurita.proofs.grammar_laws_lemmas.HeadPlaces.{one_place}
use Rattle.hepurita.proofs.PlaceLemmas.{refused_in_place}
use Rattle.hepurita.proofs.JudgementLemmas.{IsNamed, here, behind, all_asked, named}

-- one rule, at one offset
abbrev AreAlike : Rule → Place → Rule → Place → Type 0
AreAlike rule place rule' place' = (rule ≡ rule') × (place.offset ≡ place'.offset)

-- ---- a rule is known by its rank

abbrev rules_in_order : List Rule
rules_in_order = UnknownCharacter ∷ BadNumber ∷ UnexpectedToken ∷ Nesting ∷ TextTooLong ∷ UndeclaredName
    ∷ NameDeclaredTwice ∷ ProcedureNotDeclaredEarlier ∷ NotExactlyOneExport ∷ WidthsDiffer ∷ WrongKind
    ∷ LiteralOutOfRange ∷ ArgumentCount ∷ ArrayShapeOrLabel ∷ NotMutable ∷ ReturnMismatch ∷ ArrayPassedTwice
    ∷ InitialiserCount ∷ SecretToPublic ∷ PublicAssignedUnderSecretControl ∷ SecretIndex ∷ SecretBound
    ∷ SecretDivisionOperand ∷ CallAssignsPublicUnderSecretControl ∷ SecretMultiplicationOperand ∷ InlinedSize
    ∷ DeclaredBytes ∷ IndexOutOfRange ∷ DivisorMayBeZero ∷ TooMuchWork ∷ OutOfMemory ∷ []

ranked : (rule : Rule) → get_or rules_in_order (rank_of rule) OutOfMemory ≡ rule
ranked UnknownCharacter = refl
ranked rule = refl

by_rank : (r s : Rule) → rank_of r ≡ rank_of s → r ≡ s
by_rank r s same = sym (ranked r) ∙ ap (λ rank. get_or rules_in_order rank OutOfMemory) same ∙ ranked s

-- ---- the first of several violations

no_later : (u v : Violation) → IsNoLaterThan u v → IsNoLaterThan v u → AreAlike u.rule u.place v.rule v.place
no_later u v (inl before) (inl after) = absurd (omega arith)
no_later u v (inl before) (inr (at, after)) = absurd (omega arith)
no_later u v (inr (at, before)) (inl after) = absurd (omega arith)
no_later u v (inr (at, before)) (inr (at', after)) = (by_rank u.rule v.rule (omega arith), at)

one_first : (all : List Violation) (u v : Violation) → IsFirst all u → IsFirst all v
    → AreAlike u.rule u.place v.rule v.place
one_first all u v first first' =
    no_later u v (All-contains (IsNoLaterThan u) all v first.least first'.there)
    (All-contains (IsNoLaterThan v) all u first'.least first.there)

one_named : (all : List (List Violation)) (u v : Violation) → IsNamed all u → IsNamed all v
    → AreAlike u.rule u.place v.rule v.place
one_named [] u v is is' = elim is [ ]
one_named (vs ∷ later) u v (here first) (here first') = one_first vs u v first first'
one_named (vs ∷ later) u v (here first) (behind empty is) = absurd (omega (arith, first.there.1))
one_named (vs ∷ later) u v (behind empty is) (here first) = absurd (omega (arith, first.there.1))
one_named (vs ∷ later) u v (behind empty is) (behind empty' is') = one_named later u v is is'

-- ---- a program and a source

module _ (profile : Profile) where
  of_program : (program : ProgramTree) (rule rule' : Rule) (place place' : Place)
      → JudgesProgram profile program (refuses rule place) → JudgesProgram profile program (refuses rule' place')
      → AreAlike rule place rule' place'
  of_program program rule rule' place place' judges judges' =
      let u = named profile program rule place judges in
      let v = named profile program rule' place' judges' in
      let same = one_named (all_asked profile program) u.0 v.0 u.3 v.3 in
      (u.1 ∙ same.0 ∙ sym v.1, ap (λ (p : Place). p.offset) u.2 ∙ same.1 ∙ ap (λ (p : Place). p.offset) (sym v.2))

  -- the offset decides the place
  pub one_refusal_for : OneAnswer → (source : List ℕ) (rule rule' : Rule) (place place' : Place)
      → Judges profile source (refuses rule place) → Judges profile source (refuses rule' place')
      → (rule ≡ rule') × (place ≡ place')
  one_refusal_for one source rule rule' place place' (unreadable reads) (unreadable reads') =
      let answer = one source (refused rule place) (refused rule' place') reads reads' in
      (cc, cc)
  one_refusal_for one source rule rule' place place' (unreadable reads) (readable {program} reads' judges') =
      let answer = one source (refused rule place) (accepted program) reads reads' in
      cc
  one_refusal_for one source rule rule' place place' (readable {program} reads judges) (unreadable reads') =
      let answer = one source (accepted program) (refused rule' place') reads reads' in
      cc
  one_refusal_for one source rule rule' place place' (readable {program} reads judges)
      (readable {program = other} reads' judges') =
      let answer = one source (accepted program) (accepted other) reads reads' in
      let same : program ≡ other = cc in
      let alike = of_program other rule rule' place place'
      (subst (λ (p : ProgramTree). JudgesProgram profile p (refuses rule place)) same judges) judges' in (
        alike.0,
        one_place source place place' (refused_in_place profile source program rule place reads judges)
            (refused_in_place profile source other rule' place' reads' judges') alike.1,
      )
