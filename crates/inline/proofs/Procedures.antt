-- A statement about each procedure that may be called, by induction over the text.
use Rattle.std.proofs.Common.{◌≡◌, ◌≢◌, ◌⊎◌, ℕ, ◌<◌, true, List, [], ◌∷◌, ◌++◌, length, Some, None, is_some, refl, sym}
use Rattle.std.proofs.Common.{ap, ◌∙◌, subst, arith, slice_get, length-append, inl, inr, if◌then◌else◌}
use Rattle.std.proofs.lemmas.Bool.{cases_Bool}
use Rattle.std.proofs.lemmas.List.{nil_from_length, append-nil, append_assoc}
use Rattle.std.proofs.lemmas.Option.{none-some, same_Some, slice_get_past}
use Rattle.std.specs.List.{AllByRecursion}
use Rattle.std.specs.Str.{bytes_eq}
use lib.Pointwise.{bytes_decides}
use Rattle.inline.specs.Below.{AreProcedures, assigns_public, Callee, declared, declares, declares_array, empty}
use Rattle.inline.specs.Below.{exported, first_known, IsProcedure, IsWellTyped, Label, named, no_procedure}
use Rattle.inline.specs.Below.{one_procedure, parameter_as, ParameterTree, Place, ProcedureTree, Profile, ProgramTree}
use Rattle.inline.specs.Below.{Scope, scope_after, StatementTree, Variable, VariableType, violations, with_parameters}
use Rattle.inline.specs.Below.{with_procedure}
use Rattle.language.specs.declared.typing.Declared.TheVariants.{Procedure}
use Rattle.language.specs.Types.{found}
use Rattle.language.proofs.typing_laws_lemmas.Programs.{programs}
use Rattle.inline.proofs.Below.{found-new, found-other, found-split}
use Rattle.inline.proofs.Parameters.{NoVariables, get_front, get_last}

-- what a name in scope is, where it is a procedure's
abbrev pub as_callee : Scope → ℕ → ProcedureTree → Callee
as_callee scope number p = record { number = number; assigns_public = assigns_public scope p }

same_callee : (a b : Callee) → Some (Procedure a) ≡ Some (Procedure b) → a ≡ b
same_callee a b e = cc

no_callee : (c : Callee) (v : VariableType) → Some (Procedure c) ≢ Some (Variable v)
no_callee c v e = cc

-- One procedure more: a name stands for it where it has the name, and stood for nothing.
pub named-more : (before ps : List ProcedureTree) (p : ProcedureTree) (text : List ℕ) → named before (ps ++ p ∷ []) text
    ≡ first_known (named before ps text) (if bytes_eq text p.name then Some (before ++ ps, p) else None)
named-more before [] p text = rw append-nil refl
named-more before (q ∷ ps) p text = elim (cases_Bool (bytes_eq text q.name)) [
  | inl here ↦ rw here refl
  | inr there ↦ rw (there, ← append_assoc before (q ∷ []) ps) (named-more (before ++ q ∷ []) ps p text)
]

-- Lists.

all_front : (Extra : ProcedureTree → Type 0) (ps : List ProcedureTree) (p : ProcedureTree)
    → AllByRecursion Extra (ps ++ p ∷ []) → AllByRecursion Extra ps × Extra p
all_front Extra [] p all = (tt, all.0)
all_front Extra (q ∷ ps) p all = let rest = all_front Extra ps p all.1 in ((all.0, rest.0), rest.1)

-- What is true, for the scope's observer, of each procedure that a scope lets call, of these.
abbrev pub EachCallable : List ProcedureTree → (Profile → List ℕ → Callee → ProcedureTree → Type 0) → Scope → Type 0
EachCallable earlier Is scope = (text : List ℕ) (c : Callee) (p : ProcedureTree)
    → found scope text ≡ Some (Procedure c)
    → slice_get earlier c.number ≡ Some p → Is scope.profile text c p

-- In a body it stays true: no declaration adds one.
module _ (earlier : List ProcedureTree) (Is : Profile → List ℕ → Callee → ProcedureTree → Type 0) where
  pub callable_declared : (scope : Scope) (place : Place) (name : List ℕ) (v : VariableType)
      → EachCallable earlier Is scope → EachCallable earlier Is (declared scope place name (Variable v))
  callable_declared scope place name v each text c p is there =
      elim (found-split scope.names name (Variable v) text (Procedure c) is) [
        | inl old ↦ each text c p old there
        | inr new ↦ absurd (no_callee c v (ap (λ d. Some d) (sym new.1)))
      ]

  pub callable_after : {scope : Scope} {control : Label} {s : StatementTree} → IsWellTyped earlier scope control s
      → EachCallable earlier Is scope → EachCallable earlier Is (scope_after scope s)
  callable_after (declares {scope = scope} {place = place} {text = text} new has suit flow) each =
      callable_declared scope place text _ each
  callable_after (declares_array {scope = scope} {place = place} {text = text} new suit count flow) each =
      callable_declared scope place text _ each
  callable_after other each = each

  pub callable_parameters : (ps : List ParameterTree) (scope : Scope) → EachCallable earlier Is scope
      → EachCallable earlier Is (with_parameters scope ps)
  callable_parameters [] scope each = each
  callable_parameters (p ∷ ps) scope each = callable_parameters ps (declared scope p.place p.name (parameter_as p))
      (callable_declared scope p.place p.name _ each)

-- it stands in the scope where the body's procedure begins, for the same observer
abbrev pub IsAt : Scope → Profile → List ℕ → Callee → ProcedureTree → Type 0
IsAt at profile text c p = (at.profile ≡ profile) × (found at text ≡ Some (Procedure c))

abbrev pub IsWithin : List ProcedureTree → Scope → Scope → Type 0
IsWithin earlier at scope = EachCallable earlier (IsAt at) scope

-- Procedures that may be called. The statement is of a procedure, those before it, and the scope that those make.

module _ (Good : List ProcedureTree → Scope → ProcedureTree → Type 0) where
  -- what a name stands for that may be called behind these
  pub record IsCallee (earlier : List ProcedureTree) (profile : Profile) (text : List ℕ) (c : Callee)
      (p : ProcedureTree) : Type 0 where
    pub before : List ProcedureTree
    pub at : Scope
    pub observed : at.profile ≡ profile
    pub is : named [] earlier text ≡ Some (before, p)
    pub quiet : c.assigns_public ≡ assigns_public at p
    pub good : Good before at p

  -- the scope that these procedures make
  pub record Stand (earlier : List ProcedureTree) (scope : Scope) : Type 0 where
    pub variables : NoVariables scope
    pub below : (text : List ℕ) (c : Callee) → found scope text ≡ Some (Procedure c) → c.number < length earlier
    pub new : (text : List ℕ) → found scope text ≡ None → named [] earlier text ≡ None
    pub callable : EachCallable earlier (IsCallee earlier) scope

  none_stand : (profile : Profile) → Stand [] (empty profile)
  none_stand profile = record {
    variables = λ text v is. none-some (Variable v) is;
    below = λ text c is. absurd (none-some (Procedure c) is);
    new = λ text is. refl;
    callable = λ text c p is there. absurd (none-some (Procedure c) is);
  }

  module _ (earlier : List ProcedureTree) (scope : Scope) (stand : Stand earlier scope) (p : ProcedureTree)
      (new : found scope p.name ≡ None) where
    abbrev own : Callee
    own = as_callee scope (length earlier) p

    abbrev after : Scope
    after = with_procedure scope (length earlier) p

    -- a callee here was one before, or is this procedure
    split : (text : List ℕ) (c : Callee) → found after text ≡ Some (Procedure c)
        → (found scope text ≡ Some (Procedure c)) ⊎ ((bytes_eq text p.name ≡ true) × (own ≡ c))
    split text c is = elim (found-split scope.names p.name (Procedure own) text (Procedure c) is) [
      | inl old ↦ inl old
      | inr this ↦ inr (this.0, same_callee own c (ap (λ d. Some d) this.1))
    ]

    -- what a procedure's name is in its own body
    pub variables_within : NoVariables after
    variables_within text v is = elim (found-split scope.names p.name (Procedure own) text (Variable v) is) [
      | inl old ↦ stand.variables text v old
      | inr this ↦ no_callee own v (ap (λ d. Some d) this.1)
    ]

    -- which may not call itself
    pub earlier_within : IsWithin earlier scope after
    earlier_within text c q is get = (
      refl,
      elim (split text c is) [
        | inl old ↦ old
        | inr this ↦ absurd (none-some q (sym (slice_get_past earlier (length earlier) (omega arith))
            ∙ (ap (λ (d : Callee). slice_get earlier d.number) this.1 ∙ get)))
      ],
    )

    -- so what it may call is what stands before it
    pub callable_within : EachCallable earlier (IsCallee earlier) after
    callable_within text c q is get = stand.callable text c q (earlier_within text c q is get).1 get

    below_by : (text : List ℕ) (c : Callee) → found after text ≡ Some (Procedure c)
        → c.number < length (earlier ++ p ∷ [])
    below_by text c is =
        let count = length-append earlier (p ∷ []) in
        elim (split text c is) [
          | inl old ↦ omega (arith, stand.below text c old)
          | inr this ↦ omega (arith, ap (λ (d : Callee). d.number) this.1)
        ]

    new_by : (text : List ℕ) → found after text ≡ None → named [] (earlier ++ p ∷ []) text ≡ None
    new_by text is = elim (cases_Bool (bytes_eq text p.name)) [
      | inl e ↦ absurd (none-some (Procedure own) (sym is ∙ found-new scope.names p.name (Procedure own) text e new))
      | inr e ↦ rw (
        named-more [] earlier p text,
        stand.new text (sym (found-other scope.names p.name (Procedure own) text e) ∙ is),
        e,
      ) refl
    ]

    callable_by : Good earlier scope p → EachCallable (earlier ++ p ∷ []) (IsCallee (earlier ++ p ∷ [])) after
    callable_by good text c q is get = elim (split text c is) [
      | inr this ↦ (
          let tree = same_Some p q (sym (get_last earlier p)
          ∙ (ap (λ (d : Callee). slice_get (earlier ++ p ∷ []) d.number) this.1 ∙ get)) in
          let absent = stand.new text (ap (found scope) ((bytes_decides text p.name).0 this.0) ∙ new) in
          subst (IsCallee (earlier ++ p ∷ []) scope.profile text c) tree (record {
            before = earlier;
            at = scope;
            observed = refl;
            is = rw (named-more [] earlier p text, absent, this.0) refl;
            quiet = ap (λ (d : Callee). d.assigns_public) (sym this.1);
            good = good;
          }))
      | inl old ↦ (
          let k = stand.callable text c q old (sym (get_front earlier p c.number (stand.below text c old)) ∙ get) in
          record {
            before = k.before;
            at = k.at;
            observed = k.observed;
            is = rw (named-more [] earlier p text, k.is) refl;
            quiet = k.quiet;
            good = k.good;
          })
    ]

    one_stands : Good earlier scope p → Stand (earlier ++ p ∷ []) after
    one_stands good =
        record { variables = variables_within; below = below_by; new = new_by; callable = callable_by good }

  -- the export behind the procedures that it may call
  pub record Exported (profile : Profile) (before : List ProcedureTree) (p : ProcedureTree) : Type 0 where
    pub scope : Scope
    pub observed : scope.profile ≡ profile
    pub stand : Stand before scope
    pub typed : IsProcedure before scope p

  module _ (Extra : ProcedureTree → Type 0)
      (step : (before : List ProcedureTree) (scope : Scope) (p : ProcedureTree) → Stand before scope
      → IsProcedure before scope p → Extra p → Good before scope p) where
    all_before : (earlier ps before : List ProcedureTree) (p : ProcedureTree) → exported earlier ps ≡ Some (before, p)
        → AllByRecursion Extra before → AllByRecursion Extra earlier
    all_before earlier [] before p is all = absurd (none-some _ is)
    all_before earlier (q ∷ qs) before p is all = elim (cases_Bool (is_some q.export)) [
      | inl word ↦ rw (ap (λ (z : List ProcedureTree × ProcedureTree). z.0)
          (same_Some (earlier, q) (before, p) (rw word at is))) all
      | inr none ↦ (all_front Extra earlier q (all_before (earlier ++ q ∷ []) qs before p (rw none at is) all)).0
    ]

    the_export : {earlier : List ProcedureTree} {scope : Scope} {ps : List ProcedureTree}
        → AreProcedures earlier scope ps → (before : List ProcedureTree) (p : ProcedureTree) → Stand earlier scope
        → AllByRecursion Extra before → exported earlier ps ≡ Some (before, p) → Exported scope.profile before p
    the_export no_procedure before p stand all is = absurd (none-some _ is)
    the_export (one_procedure {earlier = earlier} {scope = scope} {p = q} {ps = qs} this more) before p stand all is =
        elim (cases_Bool (is_some q.export)) [
          | inl word ↦ subst (λ (z : List ProcedureTree × ProcedureTree). Exported scope.profile z.0 z.1)
              (same_Some (earlier, q) (before, p) (rw word at is))
              (record { scope = scope; observed = refl; stand = stand; typed = this })
          | inr none ↦ (
              let rest = rw none at is in
              the_export more before p (one_stands earlier scope stand q this.is_new
              (step earlier scope q stand this
              (all_front Extra earlier q (all_before (earlier ++ q ∷ []) qs before p rest all)).1)) all rest)
        ]

    -- of a program that violates no rule
    pub own_typing : (profile : Profile) (program : ProgramTree) (before : List ProcedureTree) (p : ProcedureTree)
        → length (violations profile program) ≡ 0 → exported [] program.procedures ≡ Some (before, p)
        → AllByRecursion Extra before
        → Exported profile before p
    own_typing profile program before p h is all = the_export
        ((programs profile program).0 (nil_from_length (violations profile program) h)).procedures before p
        (none_stand profile) all is
