-- Numbering statements one by one, and the names that outlast them.
use Rattle.std.proofs.Common.{◌≡◌, ℕ, ◌+◌, List, [], ◌∷◌, ◌++◌, Vec, Global, length, take, is_some, refl, sym, ap}
use Rattle.std.proofs.Common.{◌∙◌, inl, inr, Some, None, map}
use Rattle.std.proofs.lemmas.Bool.{cases_Bool}
use Rattle.std.proofs.lemmas.List.{append_assoc, append-nil}
use Rattle.std.proofs.Math.Seq.{take-append_seam}
use Rattle.inline.specs.declared.numbering.Numbered.{Numbered}
use Rattle.inline.specs.Flat.{word_as, array_as}
use Rattle.inline.specs.Below.{block_tree, BlockTree, conditional, Counter, declaration, Expr, expr_tree, For, found}
use Rattle.inline.specs.Below.{If, labelled, named, Place, Procedure, procedure_tree, Statement, statement_tree}
use Rattle.inline.specs.Below.{StatementTree}
use Rattle.inline.specs.Numbering.{Callables, Numbers, names_after, names_after_all, right_end, numbers_taken}
use Rattle.inline.specs.Numbering.{callable}
use Rattle.language.specs.names.Scope.{declared}
use Rattle.language.specs.Tree as source
use Rattle.std.specs.Option.{option_map}
use Rattle.inline.specs.Callees.{called_by}
use Rattle.inline.proofs.Below.{conditional_tree, loop_tree, known_by_name, made}

-- Calls.

-- no procedure has the name
pub not_called : (earlier : List Procedure) (text : List ℕ) → None ≡ named [] (map procedure_tree earlier) text
    → called_by earlier text ≡ None
not_called earlier text is = known_by_name callable (map procedure_tree earlier) text
    ∙ ap (option_map (made callable)) (sym is)

-- the procedure that the name stands for
pub called : (earlier before : List Procedure) (callee : Procedure) (text : List ℕ)
    → Some (map procedure_tree before, procedure_tree callee) ≡ named [] (map procedure_tree earlier) text
    → called_by earlier text ≡ Some (callable (called_by before) (procedure_tree callee))
called earlier before callee text is = known_by_name callable (map procedure_tree earlier) text
    ∙ ap (option_map (made callable)) (sym is)

-- Statements.

-- a conditional, by the lists of its arms
pub conditional_whole : (place : Place) (condition : Expr) (accepted otherwise : Vec Statement Global) {s : Statement}
    {ones others : List Statement} → s ≡ If place condition accepted otherwise → ones ≡ accepted.items
    → others ≡ otherwise.items
    → statement_tree s ≡ conditional place (expr_tree condition) (block_tree ones) (block_tree others)
conditional_whole place condition accepted otherwise is first_arm second_arm =
    rw (is, first_arm, second_arm) (conditional_tree place condition accepted otherwise)

-- a loop, by the list of its body
pub loop_whole : (place : Place) (counter : Counter) (low high : Expr) (body : Vec Statement Global) {s : Statement}
    {ones : List Statement} → s ≡ For place counter low high body → ones ≡ body.items
    → statement_tree s ≡ source.loop place counter.place counter.name (expr_tree low) (expr_tree high)
    (block_tree ones)
loop_whole place counter low high body is list =
    rw (is, list) (loop_tree place counter low high body)

-- a declaration only appends
declared_more : (names : Numbers) (text : List ℕ) (what : Numbered)
    → (more : Numbers) × (declared names text what ≡ names ++ more)
declared_more names text what = elim (cases_Bool (is_some (found names text))) [
  | inl there ↦ rw there ([], sym (append-nil names))
  | inr new ↦ rw new ((text, what) ∷ [], refl)
]

after_more : (known : Callables) (names : Numbers) (n : ℕ) (s : StatementTree) → (more : Numbers)
    × (names_after known names n s ≡ names ++ more)
after_more known names n (declaration place label mutable kind text value) =
    declared_more names text (record
    { number = right_end known n value; declaration = word_as (labelled kind label) mutable })
after_more known names n (source.array place label mutable kind size text values) =
    declared_more names text (record { number = n; declaration = array_as (labelled kind label) mutable size })
after_more known names n other = ([], sym (append-nil names))

all_more : (known : Callables) (b : BlockTree) (names : Numbers) (n : ℕ) → (more : Numbers)
    × (names_after_all known names n b ≡ names ++ more)
all_more known source.nothing names n = ([], sym (append-nil names))
all_more known (source.first s rest) names n =
    let one = after_more known names n s in
    let others = all_more known rest (names_after known names n s) (n + numbers_taken known s) in
    (one.0 ++ others.0, others.1 ∙ ap (λ front. front ++ others.0) one.1 ∙ append_assoc names one.0 others.0)

-- the names before a block are the earliest of those after it
pub names_before : (known : Callables) (names : Numbers) (n : ℕ) (b : BlockTree)
    → take (length names) (names_after_all known names n b) ≡ names
names_before known names n b =
    let after = all_more known b names n in
    ap (take (length names)) after.1 ∙ take-append_seam names after.0

-- so are those before a declaration
pub names_before_one : (names : Numbers) (text : List ℕ) (what : Numbered)
    → take (length names) (declared names text what) ≡ names
names_before_one names text what =
    let after = declared_more names text what in
    ap (take (length names)) after.1 ∙ take-append_seam names after.0
