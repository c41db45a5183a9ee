use Rattle.std.proofs.Common.{◌≡◌, ℕ, ◌+◌, ◌<◌, ◌≤◌, ◌++◌, Bool, true, false, List, [], ◌∷◌, Option, None, Some, get_or, length}
use Rattle.std.proofs.Common.{append_assoc, append-nil, arith, drop, refl, sym, ap, subst, ◌∙◌, Vec, Global}
use Rattle.std.proofs.lemmas.List.{at_drop_all, at_drop_more, drop_more}
use Rattle.codegen.proofs.Language.{FlatVariable}
use Rattle.codegen.proofs.Machine.{entry_code, Instr}
use Rattle.codegen.specs.private.Fresh.{homes_but, starts_fresh}
use Rattle.codegen.specs.private.Generated.{first_code}
use Rattle.codegen.proofs.generator.enter.Goals as goal
use Rattle.codegen.proofs.generator.enter.Goals.{in-Some+then-not-starts_fresh+in_ok-begin}
use Rattle.codegen.proofs.generator.enter.Goals.{in-Some+else-not-starts_fresh, in_default}

module _ (laid : List FlatVariable) (fresh : ℕ → Bool) (x : ℕ) where
  -- what the words with these homes get, from x on
  abbrev entered : List (Option ℕ) → List Instr
  entered homes = entry_code laid x (homes_but fresh x homes)

  -- and those behind the first of them
  abbrev behind : List (Option ℕ) → List Instr
  behind homes = entry_code laid (x + 1) (homes_but fresh (x + 1) homes)

  one_with : (register : ℕ) (rest : List (Option ℕ)) → fresh x ≡ false
      → entered (Some register ∷ rest) ≡ first_code laid x register ++ behind rest
  one_with register rest is = rw is

  one_fresh : (register : ℕ) (rest : List (Option ℕ)) → fresh x ≡ true → entered (Some register ∷ rest) ≡ behind rest
  one_fresh register rest is = rw is

  one_without : (home : Option ℕ) (rest : List (Option ℕ)) → ((register : ℕ) → home ≡ Some register → ⊥)
      → entered (home ∷ rest) ≡ behind rest
  one_without None rest none = refl
  one_without (Some register) rest none = absurd (none register refl)

  -- one more home
  one_more : (homes : List (Option ℕ)) (home : Option ℕ) (front old new : List Instr) → x < length homes
      → home ≡ get_or homes x home → new ≡ old ++ front
      → entered (home ∷ drop (x + 1) homes) ≡ front ++ behind (drop (x + 1) homes)
      → new ++ behind (drop (x + 1) homes) ≡ old ++ entered (drop x homes)
  one_more homes home front old new less is pushed more =
      let here = drop_more homes x home less ∙ ap (λ (h : Option ℕ). h ∷ drop (x + 1) homes) (sym is) in
      rw (pushed, append_assoc) (ap (λ (code : List Instr). old ++ code) (sym more ∙ ap entered (sym here)))

pub loop-number-preserved : goal.loop-number-preserved
loop-number-preserved c =
    let l = c.loop-number in
    let laid = c.args.layout.now.declared in
    let fresh = starts_fresh c.args.straight.now in
    let homes = c.args.layout.now.allocation.homes in
    let listed = c.homes-home-items.ensures in
    let rest = drop (l.number + 1) homes in
    let less : l.number < length homes =
    subst (λ (hs : List (Option ℕ)). l.number < length hs) listed c.loop-number-test.true in
    let is : c.home-item.result ≡ get_or homes l.number c.home-item.result =
    subst (λ (hs : List (Option ℕ)). c.home-item.result ≡ get_or hs l.number c.home-item.result) listed
    c.home-item.is in
    let more = one_more laid fresh l.number homes c.home-item.result in
    let first = λ (h : Option ℕ). entered laid fresh l.number (h ∷ rest) in
    record {
      code = elim c.match-home.branch [
        | in-Some+then-not-starts_fresh+in_ok-begin w ↦
            more (first_code laid l.number w.in-Some.register) l.code.items c.match-home.code.items less is
            (ap (λ (v : Vec Instr Global). v.items) w.code-is ∙ w.in_ok-begin.ensures)
            (ap first w.in-Some.is
            ∙ one_with laid fresh l.number w.in-Some.register rest
            (sym w.starts_fresh.ensures ∙ w.if-not-starts_fresh.true))
            ∙ l.invariant.code
        | in-Some+else-not-starts_fresh w ↦
            more [] l.code.items c.match-home.code.items less is
            (ap (λ (v : Vec Instr Global). v.items) w.code-is ∙ sym (append-nil l.code.items))
            (ap first w.in-Some.is
            ∙ one_fresh laid fresh l.number w.in-Some.register rest
            (sym w.starts_fresh.ensures ∙ w.if-not-starts_fresh.false))
            ∙ l.invariant.code
        | in_default w ↦
            more [] l.code.items c.match-home.code.items less is
            (ap (λ (v : Vec Instr Global). v.items) w.code-is ∙ sym (append-nil l.code.items))
            (one_without laid fresh l.number c.home-item.result rest w.in_default.not-Some)
            ∙ l.invariant.code
      ];
      within = omega (
        arith,
        l.invariant.within,
        at_drop_more (λ (hs : List (Option ℕ)). length hs) homes l.number
            c.home-item.result less,
      );
      layout = refl;
    }

pub returns : goal.returns
returns c =
    let l = c.loop-number in
    let none =
    at_drop_all (entered c.args.layout.now.declared (starts_fresh c.args.straight.now) l.number)
    c.args.layout.now.allocation.homes l.number (subst (λ (hs : List (Option ℕ)). length hs ≤ l.number)
    c.homes-home-items.ensures c.loop-number-test.false) in
    sym (append-nil l.code.items) ∙ (ap (λ (code : List Instr). l.code.items ++ code) (sym none) ∙ l.invariant.code)
