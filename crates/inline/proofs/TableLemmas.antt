-- A table that is filled by one procedure after another, each by what the table tells of the earlier ones.
use Rattle.std.proofs.Common.{◌≡◌, ℕ, ◌+◌, ◌<◌, Bool, true, false, cond, List, ◌∷◌, drop, length, get_or, map, Option}
use Rattle.std.proofs.Common.{Some, None, refl, sym, ap, ◌∙◌}
use Rattle.std.proofs.lemmas.List.{drop_more}
use Rattle.std.specs.Option.{option_map}
use Rattle.std.specs.Str.{bytes_eq}
use Rattle.inline.specs.Below.{first_known, found, Known, known_from, Procedure, procedure_tree, ProcedureTree}
use Rattle.inline.specs.Below.{with_known}
use Rattle.language.proofs.names_lemmas.Lookup.{first_of_two, found_declared}
use Rattle.language.specs.names.Scope.{declared}

-- what an entry tells, what is counted of what is known, and how that is made of a procedure
module _ {Entry Made Told : Type 0} (told : Entry → Told) (count : Made → Told)
    (make : Known Made → ProcedureTree → Made) where
  abbrev pub Tells : List (List ℕ × Entry) → Known Made → Type 0
  Tells table known = (text : List ℕ) → option_map told (found table text) ≡ option_map count (known text)

  -- one more is found alike
  told_alike : (a : Option Entry) (b : Option Made) (here : Bool) (x : Entry) (y : Made)
      → option_map told a ≡ option_map count b → told x ≡ count y
      → option_map told (first_of_two a (cond here (Some x) None))
      ≡ option_map count (first_known b (cond here (Some y) None))
  told_alike (Some a) (Some b) here x y alike one = alike
  told_alike (Some a) None here x y alike one = cc
  told_alike None (Some b) here x y alike one = cc
  told_alike None None true x y alike one = ap Some one
  told_alike None None false x y alike one = refl

  -- a table tells what is known of the procedures before these, and with these that is what is known of all
  abbrev pub Knows : List (List ℕ × Entry) → List Procedure → Known Made → Type 0
  Knows table rest all =
      (known : Known Made) × Tells table known × (known_from make known (map procedure_tree rest) ≡ all)

  -- it does so with one more entry
  pub one_told : (procedures : List Procedure) (i : ℕ) (p : Procedure) (table later : List (List ℕ × Entry))
      (x : Entry) (all : Known Made)
      → i < length procedures → p ≡ get_or procedures i p → Knows table (drop i procedures) all
      → ((known : Known Made) → Tells table known → told x ≡ count (make known (procedure_tree p)))
      → later ≡ declared table p.name x → Knows later (drop (i + 1) procedures) all
  one_told procedures i p table later x all within is knows one more =
      let known = knows.0 in
      let name = p.name in
      let made = make known (procedure_tree p) in
      let next = drop_more procedures i p within ∙ ap (λ q. q ∷ drop (i + 1) procedures) (sym is) in (
        with_known known name made,
        (λ text. rw (more, found_declared table name x text)
            (told_alike (found table text) (known text) (bytes_eq text name) x made (knows.1 text)
            (one known knows.1))),
        sym (ap (λ rest. known_from make known (map procedure_tree rest)) next) ∙ knows.2,
      )
