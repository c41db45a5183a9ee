-- What fits before a word is set and where a loop is closed, and what is left out.
use Rattle.std.proofs.Common.{◌≡◌, ℕ, ◌&&◌, Bool, not, true, false, Option}
use Rattle.std.proofs.Common.{None, Some, refl}
use Rattle.std.proofs.lemmas.Bool.{and_parts, not-true}
use Rattle.straight_words.specs.Below.{chain, is_quiet, nothing, StraightBlock, StraightTree, TermTree}
use Rattle.straight_words.specs.live_words.private.Held.{Table, Held, share, is_live, is_free, setting}
use Rattle.straight_words.specs.live_words.private.Held.{counting, covers}
use Rattle.straight_words.specs.live_words.private.Terms.{is_dead}
use Rattle.straight_words.specs.live_words.private.Sharing.{setting_within, closed}
use Rattle.straight_words.specs.live_words.private.Sharing.{in_front}
use Rattle.straight_words.proofs.live_words_lemmas.HeldLemmas.{Grows, grows_holding}

pub front_chain : (o : Option StraightTree) (rest : StraightBlock)
    → chain (in_front o nothing) rest ≡ in_front o rest
front_chain None rest = refl
front_chain (Some statement) rest = refl

module _ (table : Table) where
  pub set_fits : (held : Held) (x : ℕ) → (setting table held x).fits ≡ true → held.fits ≡ true
  set_fits held x f = (and_parts held.fits (is_free held.holders (share table x) x) f).0

  pub within_fits : (within : Option ℕ) (held : Held) (x : ℕ) → (setting_within table held within x).fits ≡ true
      → held.fits ≡ true
  within_fits None held x f = set_fits held x f
  within_fits (Some control) held x f = (grows_holding held (share table x) x).fits f

  -- what is left out is not live, and shows nothing
  pub dead_parts : (held : Held) (x : ℕ) (value : TermTree) → is_dead table held x value ≡ true
      → (is_live table held x ≡ false) × (is_quiet value ≡ true)
  dead_parts held x value dead =
      let outer = and_parts (held.fits && not (is_live table held x)) (is_quiet value) dead in
      let inner = and_parts held.fits (not (is_live table held x)) outer.0 in
      (not-true (is_live table held x) inner.1, outer.1)

  -- what fits where a loop is closed
  pub record IsClosed (x : ℕ) (head iteration : Held) : Type 0 where
    pub iteration_fits : iteration.fits ≡ true
    pub free : (setting table iteration x).fits ≡ true
    pub covered : covers head.holders 0 (setting table iteration x).holders ≡ true

  pub is_closed : (x : ℕ) (head iteration : Held) → (closed table x head iteration).fits ≡ true
      → IsClosed x head iteration
  is_closed x head iteration f =
      let parts = and_parts (setting table iteration x).fits
      (covers head.holders 0 (setting table iteration x).holders) f in
      record {
        iteration_fits = set_fits iteration x parts.0;
        free = parts.0;
        covered = parts.1;
      }

  -- what is live where an iteration ends is what is live at its head, and the counter
  pub grows_counting : (held : Held) (x : ℕ) (numbers : Bool) → Grows held (counting table held x numbers)
  grows_counting held x true = grows_holding held (share table x) x
  grows_counting held x false =
      let grows = grows_holding held (share table x) x in record { fits = grows.fits; holds = grows.holds }
