use Rattle.std.proofs.Common.{◌≡◌, ◌&&◌, Bool, ℕ, true, List, option_map, refl, sym, ap, ap₂, ◌∙◌}
use Rattle.straight_words.specs.Below.{checked, FlatVariable, IsReplaced, straight_block, term_tree, with_variables}
use Rattle.branch_removal.proofs.Checked.{where_checked}
use Rattle.straight_words.specs.live_words.Exact.{shared_of}
use Rattle.straight_words.specs.live_words.private.Held.{Table, Held}
use Rattle.straight_words.specs.live_words.private.Whole.{all_fits, at_start, fits_by, keep_counts}
use Rattle.straight_words.specs.live_words.private.Whole.{nothing_live, over, table_for}
use Rattle.straight_words.proofs.live_words_lemmas.Whole.{replaced}
use Rattle.straight_words.proofs.live_words.sharing.share_words.Goals as goal

pub returns-then-not-sharing_fits-clause-exact : goal.returns-then-not-sharing_fits-clause-exact
unfolding shared_of
returns-then-not-sharing_fits-clause-exact c =
    let p = c.args.straight.now in
    let table = c.as_slice-shares.ensures.value ∙ c.in_ok-table.ensures in
    let fits = c.sharing_fits.ensures
    ∙ ap₂ (λ (a b : Bool). a && b)
    (ap all_fits (c.in_ok-parts.ensures.live ∙ ap₂ (λ (t : Table) (h : Held). at_start t h p) table c.in_ok-live.ensures))
    (ap₂ (λ (most : List ℕ) (t : Table). keep_counts most 0 t) c.iterations.ensures table) in
    rw (sym fits ∙ c.if-not-sharing_fits.true) refl

pub returns-clause-exact : goal.returns-clause-exact
unfolding shared_of
returns-clause-exact c =
    let p = c.args.straight.now in
    let table = c.as_slice-shares.ensures.value ∙ c.in_ok-table.ensures in
    let fits = c.sharing_fits.ensures
    ∙ ap₂ (λ (a b : Bool). a && b)
    (ap all_fits (c.in_ok-parts.ensures.live ∙ ap₂ (λ (t : Table) (h : Held). at_start t h p) table c.in_ok-live.ensures))
    (ap₂ (λ (most : List ℕ) (t : Table). keep_counts most 0 t) c.iterations.ensures table) in
    let body = straight_block c.in_ok-parts.parts.body.items in
    let value = option_map term_tree c.in_ok-parts.parts.value in
    let made : c.rewritten.result ≡ checked (over (table_for p) (nothing_live p 0) p) =
    c.rewritten.ensures.exact
    ∙ ap checked (ap (λ (ds : List FlatVariable). with_variables p ds body value) c.declared.ensures
    ∙ (c.in_ok-parts.ensures.code ∙ ap₂ (λ (t : Table) (h : Held). over t h p) table c.in_ok-live.ensures)) in
    rw (sym fits ∙ c.if-not-sharing_fits.false) made

pub returns-clause-replaced : goal.returns-clause-replaced
unfolding shared_of
returns-clause-replaced c =
    let p = c.args.straight.now in
    let table = c.as_slice-shares.ensures.value ∙ c.in_ok-table.ensures in
    let fits = c.sharing_fits.ensures
    ∙ ap₂ (λ (a b : Bool). a && b)
    (ap all_fits (c.in_ok-parts.ensures.live ∙ ap₂ (λ (t : Table) (h : Held). at_start t h p) table c.in_ok-live.ensures))
    (ap₂ (λ (most : List ℕ) (t : Table). keep_counts most 0 t) c.iterations.ensures table) in
    let all : fits_by (table_for p) p ≡ true = sym fits ∙ c.if-not-sharing_fits.false in
    where_checked (IsReplaced p) _ (over (table_for p) (nothing_live p 0) p) (rw all at (returns-clause-exact c))
    c.rewritten.ensures.straight (replaced (table_for p) p all)
