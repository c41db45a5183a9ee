use Rattle.std.proofs.Common.{◌≡◌, ◌+◌, ◌-◌, ◌*◌, ◌/◌, ◌∙◌, ◌∷◌, length, ap, sym}
use Rattle.elf.specs.Lookup.{fits, preferred}
use Rattle.elf.specs.Symbols.{symbols_from}
use Rattle.elf.proofs.Preference.{local, none_left, other, preferred_after, shared}
use Rattle.elf.proofs.Walks.{first_symbol, no_symbol, symbol_step}
use Rattle.elf.proofs.lookup.preferred.Goals as goal
use Rattle.elf.proofs.lookup.preferred.Goals.{then-fits+else-is_shared, else-fits}

pub symbols-init : goal.symbols-init
symbols-init c =
    let table = c.args.table.now in
    ap (preferred (fits c.args.wanted c.args.strings.now c.args.name.now)) (first_symbol (length table / 16) table)

pub symbols-preserved : goal.symbols-preserved
symbols-preserved c =
    let test = fits c.args.wanted c.args.strings.now c.args.name.now in
    let table = c.args.table.now in
    let n = length table / 16 in
    let k = c.symbols.k in
    let x = c.at-symbol.result in
    let rest = symbols_from (n - (k + 1)) (16 * (k + 1)) table in
    let one : preferred_after test c.symbols.found (x ∷ rest) ≡ preferred_after test c.if-fits.found rest =
    elim c.if-fits.branch [
      | then-fits+else-is_shared w ↦
          local test c.symbols.found x rest (sym c.fits.ensures ∙ w.if-fits.true)
          (sym w.is_shared.ensures ∙ w.if-is_shared.false)
          ∙ ap (λ found. preferred_after test found rest) (sym (w.found-is ∙ w.or-found.ensures))
      | else-fits w ↦
          other test c.symbols.found x rest (sym c.fits.ensures ∙ w.if-fits.false)
          ∙ ap (λ found. preferred_after test found rest) (sym w.found-is)
    ] in
    c.symbols.invariant
    ∙ ap (preferred_after test c.symbols.found) (symbol_step n k table x c.symbols-test.true c.at-symbol.ensures)
    ∙ one

pub returns-then-is_shared : goal.returns-then-is_shared
returns-then-is_shared c =
    let test = fits c.args.wanted c.args.strings.now c.args.name.now in
    let table = c.args.table.now in
    let n = length table / 16 in
    let k = c.symbols.k in
    let x = c.at-symbol.result in
    let rest = symbols_from (n - (k + 1)) (16 * (k + 1)) table in
    sym
    (c.symbols.invariant
    ∙ ap (preferred_after test c.symbols.found) (symbol_step n k table x c.symbols-test.true c.at-symbol.ensures)
    ∙ shared test c.symbols.found x rest (sym c.fits.ensures ∙ c.if-fits.true)
    (sym c.is_shared.ensures ∙ c.if-is_shared.true))

pub returns : goal.returns
returns c =
    let test = fits c.args.wanted c.args.strings.now c.args.name.now in
    let table = c.args.table.now in
    sym
    (c.symbols.invariant
    ∙ ap (preferred_after test c.symbols.found)
    (no_symbol (length table / 16) c.symbols.k table c.symbols-test.false)
    ∙ none_left test c.symbols.found)
